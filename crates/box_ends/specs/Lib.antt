pub mod Scaled
pub mod Empty
pub mod Middle
