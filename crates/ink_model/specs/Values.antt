-- Values and operators (docs/VALUES.md).
pub mod Value
pub mod Same
pub mod Operator
pub mod Joining
pub mod Stack
