pub mod Declared
pub mod Deeper
pub mod Made
pub mod Nested
