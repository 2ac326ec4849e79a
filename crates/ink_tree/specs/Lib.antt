pub mod Contents
pub mod Gaps
pub mod Kept
pub mod Leads
pub mod Names
pub mod Nodes
pub mod Numbers
pub mod Walks
