-- The objects of a host (docs/HOST.md).
pub mod Bindings
pub mod Events
pub mod Told
