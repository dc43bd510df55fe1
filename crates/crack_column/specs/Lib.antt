pub mod Column
pub mod Held
pub mod Inside
pub mod Labels
pub mod Places
pub mod Keeps
pub mod Sifts
pub mod Drains
