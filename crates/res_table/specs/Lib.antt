pub mod Fields
pub mod Reading
pub mod Row
pub mod Table
pub mod Spelling
