-- The text that is written (docs/TEXT.md).
pub mod Bytes
pub mod Mark
pub mod Shown
pub mod Clean
pub mod Page
pub mod Output
