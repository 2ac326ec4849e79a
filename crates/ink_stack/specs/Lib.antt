pub mod Running
pub mod Threads
pub mod Outcomes
pub mod Calls
pub mod Saving
pub mod Cells
pub mod Undo
