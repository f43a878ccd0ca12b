pub mod IdCounterparts
pub mod OwnResources
