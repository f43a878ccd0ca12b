pub mod Valid
pub mod Reached
pub mod InOrder
pub mod Suiting
pub mod Nested
pub mod Listed
pub mod Kept
