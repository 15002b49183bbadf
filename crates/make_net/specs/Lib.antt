pub mod Made
pub mod Answer
