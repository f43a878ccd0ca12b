pub mod Needing
pub mod NamedExports
pub mod FreeBelow
pub mod Leading
pub mod Finding
