pub mod Laid
pub mod Left
