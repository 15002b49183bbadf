pub mod Ring
pub mod SizeLemmas
pub mod Lists
pub mod Tests
pub mod SignedSquares
