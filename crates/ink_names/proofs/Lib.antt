pub mod Numbers
pub mod Noting
pub mod Few
