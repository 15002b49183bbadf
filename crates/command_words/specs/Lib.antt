pub mod Tolerances
pub mod Budgets
pub mod Counts
pub mod Words
pub mod Options
pub mod Forms
pub mod Tables
