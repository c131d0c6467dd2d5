pub mod Maps
pub mod Bag
pub mod Sets
pub mod Sweeps
pub mod Lending
