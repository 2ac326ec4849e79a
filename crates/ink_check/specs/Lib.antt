pub mod Standing
pub mod Links
pub mod Outcome
pub mod Names
