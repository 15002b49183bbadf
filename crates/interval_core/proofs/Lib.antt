pub mod EnclosureLemmas
pub mod ProductLemmas
pub mod SquareLemmas
pub mod MeetLemmas
pub mod IsotonyLemmas
pub mod FitLemmas
