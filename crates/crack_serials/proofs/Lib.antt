pub mod Laws
mod ListLemmas
mod MapLemmas
mod PlaceLemmas
mod ShareLemmas
