pub mod Operands
pub mod Lengths
pub mod Standing
pub mod Tops
pub mod SameValues
pub mod Undoing
pub mod Dividing
pub mod Joined
