pub mod Said
pub mod Ends
pub mod LineEnds
pub mod Looking
pub mod Extents
pub mod Passages
