mod Receipting
mod Standing
mod Lines
pub mod Holding
