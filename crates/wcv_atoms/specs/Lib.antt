pub mod Readings
pub mod IdPasses
pub mod Extent
