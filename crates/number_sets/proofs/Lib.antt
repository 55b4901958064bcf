pub mod SetLaws
pub mod MarkLaws
