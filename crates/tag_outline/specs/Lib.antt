pub mod Scan
pub mod Tag
pub mod Item
pub mod Outline
pub mod LocalNames
pub mod Grammar
pub mod Offences
