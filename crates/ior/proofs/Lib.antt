pub mod Guarded
pub mod Rules
pub mod LentRules
pub mod Demands
pub mod Lent
