pub mod Fields
pub mod Decimal
pub mod Hex
pub mod Place
pub mod Addresses
pub mod Gathered
