pub mod Common
pub mod Sessions
pub mod Refusing
pub mod Playings
pub mod Tellings
pub mod Dealing
pub mod Endings
pub mod Restarts
mod Failures
mod Standing
mod Saves
mod Texts
mod Anew
mod Refusals
