pub mod Digits
pub mod Hexes
pub mod Texts
