pub mod Scripted
pub mod Spelled
