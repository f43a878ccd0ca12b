pub mod Walking
pub mod AtomLists
pub mod PassSteps
pub mod PassIds
pub mod Extents
pub mod ExtentSizes
pub mod EntityLaws
