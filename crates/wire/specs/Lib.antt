pub mod Numbers
pub mod Rfc4291
pub mod Rfc2464
pub mod Refusals
pub mod Masks
pub mod RoundTrips
