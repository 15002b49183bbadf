pub mod Weymouth
pub mod Sizes
pub mod Failing
pub mod KeptLaws
pub mod FirstBroken
