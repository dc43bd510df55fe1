pub mod Inside
pub mod Grammar
pub mod LeadingInsert
pub mod Texts
pub mod Watching
