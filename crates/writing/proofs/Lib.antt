pub mod Told
pub mod Walked
pub mod Checked
pub mod Answers
pub mod Determined
