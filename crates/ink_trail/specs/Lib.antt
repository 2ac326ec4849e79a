pub mod Undo
pub mod Stays
pub mod Parts
