mod Places
mod StateLaws
mod Opens
mod Lates
mod Conclusions
mod Counting
mod Shares
mod Causes
mod Placing
mod Hiring
mod Partitions
mod Counts
pub mod Missing
mod RepeatLaws
pub mod Crosses
