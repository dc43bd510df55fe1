pub mod Cracking
pub mod Divisions
mod DrainLaws
mod HeldLaws
mod LabelLaws
mod Passes
mod SiftLaws
mod Sifting
mod SwapLaws
mod PlaceLaws
mod Thirds
