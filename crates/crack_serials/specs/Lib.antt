pub mod Keeps
pub mod Serials
pub mod Shares
pub mod Views
