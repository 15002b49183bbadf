pub mod Exits
pub mod FaultTexts
pub mod Lines
pub mod Stops
pub mod Gates
pub mod Meanings
pub mod Saying
pub mod Written
