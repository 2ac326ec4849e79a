pub mod Building
pub mod Counted
pub mod Gathered
pub mod Asks
pub mod Parts
