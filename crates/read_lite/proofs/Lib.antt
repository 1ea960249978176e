pub mod Context
pub mod Beginning
pub mod Rest
