mod Ending
mod Pulling
mod AtOnce
mod InBulk
mod PulledInBulk
mod AfterFillers
mod EdgeLaws
mod Rippling
mod Carrying
mod Putting
mod Filling
mod Merging
pub mod CarryLaws
pub mod PullLaws
pub mod RangeLaws
