pub mod Short
pub mod Judges
pub mod Each
