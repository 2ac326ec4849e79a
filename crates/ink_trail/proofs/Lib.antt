pub mod Undoing
pub mod Staying
pub mod Ending
pub mod Parting
