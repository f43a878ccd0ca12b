pub mod CoreInstances
pub mod ComponentInstances
