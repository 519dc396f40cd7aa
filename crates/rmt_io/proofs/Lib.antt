pub mod Numbered
pub mod ByName
pub mod OutsideLaws
pub mod Fronts
