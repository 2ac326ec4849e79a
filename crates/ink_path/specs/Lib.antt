pub mod Components
pub mod Laws
