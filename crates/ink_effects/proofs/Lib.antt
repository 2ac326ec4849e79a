pub mod Common
pub mod Bools
mod Tops
mod Puts
pub mod Effects
mod Landings
mod Leading
pub mod Rooms
mod Entering
mod Stored
mod Asked
mod Offered
pub mod Plain
mod Externals
mod Asking
mod Closing
pub mod Refusals
