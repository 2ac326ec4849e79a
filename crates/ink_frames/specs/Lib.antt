pub mod Cells
pub mod Frames
pub mod Quiet
pub mod Rows
pub mod Saving
pub mod Temps
