pub mod Common
mod Saying
mod Comes
mod Steps
mod Searches
mod LineEnding
mod Marks
mod Followed
mod Settling
