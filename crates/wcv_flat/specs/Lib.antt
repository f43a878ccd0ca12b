pub mod Flat
pub mod Signature
pub mod Options
pub mod Functions
pub mod Rows
pub mod RowTypes
pub mod CodeRows
