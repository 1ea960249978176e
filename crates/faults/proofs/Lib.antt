pub mod Listed
pub mod Going
pub mod Tables
pub mod ByTable
pub mod Order
pub mod Short
pub mod Views
pub mod Judging
