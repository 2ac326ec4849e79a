pub mod Laying
pub mod Lines
pub mod Pages
pub mod PageLines
mod Writing
mod Typing
mod Asking
mod Questions
mod Pieces
