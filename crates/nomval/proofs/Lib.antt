pub mod Asking
pub mod Headlines
pub mod Clauses
pub mod NeverRises
