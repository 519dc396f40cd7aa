pub mod NameLaws
pub mod RuleLaws
pub mod BlockLaws
pub mod HeaderLaws
pub mod TableLaws
pub mod ListedLaws
pub mod NodeLaws
pub mod ProgramLaws
