pub mod Below
pub mod Reading
pub mod Keeping
pub mod TextReads
