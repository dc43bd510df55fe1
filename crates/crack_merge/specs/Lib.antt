pub mod Merges
pub mod Loops
pub mod Near
