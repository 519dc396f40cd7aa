pub mod PhraseLaws
pub mod TokenLaws
pub mod FoundLaws
pub mod WordLaws
pub mod ByteLaws
pub mod TextLaws
pub mod NamedLaws
