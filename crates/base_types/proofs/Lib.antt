pub mod StateWords
