pub mod Scripts
pub mod Simple
pub mod Tables
