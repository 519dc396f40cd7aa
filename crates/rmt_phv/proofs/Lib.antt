pub mod Examples
pub mod SetLaws
pub mod WriterLaws
pub mod WordLaws
pub mod Packed
pub mod PackingLaws
pub mod FieldCount
pub mod LaneLaws
