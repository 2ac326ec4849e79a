pub mod Written
pub mod Counted
pub mod Parts
