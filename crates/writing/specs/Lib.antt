pub mod Own
pub mod Writes
pub mod Today
