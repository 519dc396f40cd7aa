pub mod FoldLaws
pub mod MeaningLaws
pub mod PieceLaws
pub mod ValueLaws
pub mod OperationLaws
pub mod EffectLaws
pub mod FormedLaws
pub mod GivenLaws
pub mod InstructionLaws
pub mod AssignedLaws
mod Examples
