pub mod Common
pub mod Playing
pub mod Tellings
pub mod Courses
pub mod Sessions
pub mod Halting
pub mod Keeping
pub mod Flows
pub mod Paths
mod Causes
