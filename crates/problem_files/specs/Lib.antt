pub mod Sources
pub mod SourceWords
