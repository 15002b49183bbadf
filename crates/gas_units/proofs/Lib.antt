pub mod Quotients
pub mod Sizes
pub mod Shifts
pub mod Rounding
pub mod Faults
pub mod Forms
