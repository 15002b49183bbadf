pub mod Runs
pub mod Views
pub mod Forking
pub mod Turned
pub mod Drained
pub mod Answering
pub mod RootBox
