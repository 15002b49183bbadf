pub mod OfModel
