pub mod Ends
pub mod Listed
pub mod Maps
pub mod Opens
pub mod Orders
pub mod Printed
