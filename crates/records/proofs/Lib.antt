pub mod Recorded
pub mod Exactly
pub mod Blocks
pub mod Walk
pub mod Joined
pub mod Determined
pub mod Worked
