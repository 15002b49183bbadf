pub mod OneFinding
pub mod ReadBack
