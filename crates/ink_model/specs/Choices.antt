-- Choices (docs/CHOICES.md).
pub mod Making
pub mod Choosing
