pub mod Sought
pub mod Searched
pub mod LastChoices
pub mod Halted
pub mod Texts
