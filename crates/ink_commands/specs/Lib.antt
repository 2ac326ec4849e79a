pub mod Telling
pub mod States
pub mod Paths
pub mod Visits
