pub mod Laws
pub mod OrderLaws
pub mod PastLaws
pub mod TotalLaws
pub mod Words
