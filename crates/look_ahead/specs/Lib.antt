pub mod Views
pub mod Ends
