pub mod Commands
pub mod Answering
pub mod Telling
pub mod Writing
pub mod Reading
pub mod Spelling
pub mod Numbers
