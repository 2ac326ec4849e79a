pub mod Standing
pub mod Ends
pub mod Serving
pub mod Playing
pub mod Saving
pub mod Loading
pub mod Extents
pub mod Printed
