-- Frames and threads, and where flow goes among them (docs/FRAMES.md).
pub mod Frames
pub mod Bases
pub mod Transfers
pub mod Threads
