pub mod Firsts
pub mod Rounds
pub mod Others
pub mod Listed
pub mod ForkCases
pub mod Halvings
