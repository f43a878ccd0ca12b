pub mod Resolved
pub mod Items
pub mod Stack
pub mod Declaring
pub mod Numbers
pub mod LowerWords
pub mod CoreItems
