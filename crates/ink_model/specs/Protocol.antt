-- Command lines and their answers (docs/PROTOCOL.md).
pub mod Command
pub mod Answer
pub mod ValueJson
pub mod State
pub mod Changed
pub mod Turns
pub mod FlowCommands
pub mod Passage
pub mod Unread
pub mod Session
