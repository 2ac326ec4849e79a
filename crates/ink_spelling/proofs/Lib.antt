pub mod Lists
pub mod Asking
pub mod Unnumbered
