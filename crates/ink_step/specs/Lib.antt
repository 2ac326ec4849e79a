pub mod Standing
pub mod Marks
pub mod MarkExamples
pub mod Steps
pub mod Runs
pub mod Finishes
pub mod Stores
pub mod Parts
