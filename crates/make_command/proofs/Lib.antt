pub mod MakesIt
pub mod Saying
