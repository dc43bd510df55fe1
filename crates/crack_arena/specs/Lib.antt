pub mod Arena
pub mod Codes
pub mod Links
pub mod Listed
pub mod Pages
pub mod Rows
pub mod Memories
pub mod Keeps
