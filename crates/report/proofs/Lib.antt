pub mod ListingLaws
pub mod Lengths
