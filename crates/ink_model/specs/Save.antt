-- Saved games (docs/SAVES.md).
pub mod Spelling
pub mod Sound
pub mod Reads
pub mod ReadValue
pub mod Unspelled
pub mod Asks
