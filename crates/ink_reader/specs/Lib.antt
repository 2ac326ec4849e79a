pub mod Kept
pub mod Whereabouts
pub mod Notices
pub mod Deeds
pub mod Course
pub mod Steps
pub mod Session
