pub mod AnswerLine
pub mod Fault
pub mod LineKinds
pub mod LineSteps
pub mod PacketText
pub mod Pieces
