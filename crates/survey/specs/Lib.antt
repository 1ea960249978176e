pub mod Exact
pub mod Uncut
pub mod ByTable
pub mod Seen
