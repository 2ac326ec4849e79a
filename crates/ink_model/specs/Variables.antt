-- Variables and counts (docs/VARIABLES.md).
pub mod Rows
pub mod Named
pub mod Store
pub mod Access
pub mod Counts
