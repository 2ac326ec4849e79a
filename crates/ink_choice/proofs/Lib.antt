pub mod Ends
pub mod Lists
pub mod Depths
pub mod Nth
pub mod Undoing
pub mod Adding
pub mod Settling
pub mod Offered
