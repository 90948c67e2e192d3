pub mod Checks
pub mod Addresses
pub mod Routes
pub mod Distinct
