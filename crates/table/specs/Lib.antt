pub mod Region
pub mod Flat
pub mod Filed
