pub mod Halting
pub mod NearKinds
