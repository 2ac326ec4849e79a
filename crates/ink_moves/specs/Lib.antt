pub mod Reaches
pub mod MarkExamples
