pub mod Choices
pub mod Outcomes
pub mod Operands
pub mod Undo
