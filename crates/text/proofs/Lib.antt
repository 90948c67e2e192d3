pub mod FieldLaws
pub mod DecimalLaws
pub mod HexLaws
pub mod PlaceLaws
pub mod AddressLaws
pub mod RoundTrip
