pub mod Leads
pub mod Histories
