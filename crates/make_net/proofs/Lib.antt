pub mod MadeNames
pub mod MadeProblem
