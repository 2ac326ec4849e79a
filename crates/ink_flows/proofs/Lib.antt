pub mod Laws
pub mod Mapped
mod Indexes
mod Listed
mod Current
mod Going
