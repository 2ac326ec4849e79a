pub mod Beside
pub mod Kept
pub mod Laws
pub mod SaveExamples
