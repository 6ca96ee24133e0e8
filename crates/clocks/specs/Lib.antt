pub mod Sites
pub mod Counts
pub mod Rows
pub mod Matrices
