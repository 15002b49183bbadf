pub mod Ids
pub mod Numbers
pub mod StateWords
pub mod Names
