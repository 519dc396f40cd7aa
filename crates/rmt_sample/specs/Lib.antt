pub mod Texts
pub mod SampleProgram
pub mod Meaning
