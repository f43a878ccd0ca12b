pub mod IdPasses
pub mod SameValues
pub mod ValueExtents
