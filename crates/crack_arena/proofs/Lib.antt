mod ArenaLemmas
mod Laws
mod PageLemmas
pub mod Places
pub mod Remembering
pub mod Times
