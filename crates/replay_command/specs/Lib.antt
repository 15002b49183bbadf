pub mod Words
pub mod BrokenIds
pub mod Meaning
pub mod Outcome
