pub mod Inside
pub mod Past
pub mod Plain
pub mod Totals
pub mod Watching
