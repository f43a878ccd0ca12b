pub mod Carriers
pub mod Facts
pub mod Lifting
pub mod Operands
pub mod Options
