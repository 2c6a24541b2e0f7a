pub mod NumberLemmas
pub mod AddressLemmas
pub mod WordLemmas
pub mod BackLemmas
pub mod ScanLemmas
pub mod HexLemmas
pub mod ShapeLemmas
