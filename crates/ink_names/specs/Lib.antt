pub mod Names
pub mod Hints
pub mod Few
