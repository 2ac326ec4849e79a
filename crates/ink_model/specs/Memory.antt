-- Where memory is asked for, and what is answered where it is refused (docs/RUNNING.md, "Out of memory").
pub mod Asks
pub mod Refusals
pub mod Moves
pub mod Variables
