pub mod Standing
pub mod Stack
pub mod Undo
