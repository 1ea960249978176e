pub mod Accepted
pub mod Determined
pub mod Worked
pub mod Pages
