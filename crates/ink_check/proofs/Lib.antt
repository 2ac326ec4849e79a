pub mod Checked
pub mod Slots
