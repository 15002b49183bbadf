pub mod SquareRules
