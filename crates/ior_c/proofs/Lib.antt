pub mod Calls
pub mod Answers
pub mod Readings
pub mod Writings
pub mod Day
pub mod Named
pub mod Rules
pub mod Demands
