pub mod Rounds
pub mod Decimals
pub mod Grid
pub mod DecimalForm
