pub mod Bytes
pub mod Formed
pub mod Masks
pub mod RoundTrip
pub mod Tests
pub mod Words
