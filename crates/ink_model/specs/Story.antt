-- The story file (docs/STORY_FORMAT.md).
pub mod Tree
pub mod View
pub mod Narrow
pub mod Flags
pub mod Word
pub mod Leaves
pub mod Grammar
pub mod Path
pub mod Places
pub mod Acceptance
