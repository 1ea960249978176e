pub mod Lent
pub mod Today
pub mod Judged
