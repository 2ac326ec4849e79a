pub mod Lefts
pub mod Reading
pub mod Writing
pub mod Back
