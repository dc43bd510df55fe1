pub mod Connections
pub mod Inside
pub mod Served
