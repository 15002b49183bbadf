pub mod WordsAt
pub mod WrongWords
pub mod WrongOptions
pub mod WrongForms
pub mod WrongCommands
