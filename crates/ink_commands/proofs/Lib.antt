pub mod Paths
pub mod Tellings
mod Going
pub mod Jumps
mod Openings
