pub mod CellLemmas
pub mod CountLemmas
mod SettledLemmas
mod ForgetLaws
pub mod OrderLemmas
pub mod IdleLemmas
pub mod KeepLemmas
pub mod PointLemmas
pub mod RefusalLaws
pub mod SoundLemmas
mod SumCrosses
pub mod Crosses
pub mod UpkeepLaws
pub mod ClearLaws
pub mod ApplyLaws
pub mod PartLaws
pub mod CopyLaws
pub mod SumLaws
pub mod KnownLemmas
pub mod RunLaws
