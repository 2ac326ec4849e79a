pub mod Look
pub mod Rows
pub mod Laws
pub mod LineExamples
