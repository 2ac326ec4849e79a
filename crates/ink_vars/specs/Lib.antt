pub mod Views
pub mod Globals
pub mod Slots
pub mod Outcomes
pub mod Changes
pub mod Undo
