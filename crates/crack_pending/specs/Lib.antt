pub mod Ahead
pub mod Codes
pub mod Inside
pub mod Passed
pub mod Pending
pub mod Spots
pub mod Keeps
