pub mod Grid
pub mod Forks
pub mod Origins
pub mod Pools
pub mod PoolOf
pub mod Expected
pub mod Laws
