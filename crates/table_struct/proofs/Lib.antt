pub mod FromFn
pub mod Whole
pub mod Back
pub mod Accepted
