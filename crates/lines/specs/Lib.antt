pub mod Words
pub mod HeaderLines
pub mod EventLines
