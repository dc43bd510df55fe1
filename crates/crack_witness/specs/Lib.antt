pub mod Audits
pub mod Histories
pub mod Receipts
pub mod Rules
pub mod Witnesses
pub mod Keeps
