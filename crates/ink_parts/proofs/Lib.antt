pub mod Common
pub mod Arrays
pub mod Texts
pub mod Numbering
pub mod Shown
