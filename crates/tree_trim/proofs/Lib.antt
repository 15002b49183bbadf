pub mod KeptLines
pub mod Marking
pub mod Refuting
