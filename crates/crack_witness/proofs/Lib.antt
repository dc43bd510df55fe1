pub mod Lists
pub mod Cells
pub mod Moving
pub mod Keeping
pub mod Pasts
pub mod Counting
pub mod Opens
pub mod Crosses
