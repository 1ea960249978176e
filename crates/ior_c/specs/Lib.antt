pub mod Said
pub mod Calls
pub mod Promises
pub mod Today
pub mod Judged
