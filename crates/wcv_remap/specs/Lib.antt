pub mod Map
pub mod Hygiene
pub mod Remap
pub mod Entities
