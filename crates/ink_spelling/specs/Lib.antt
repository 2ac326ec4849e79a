pub mod Readings
pub mod Layouts
