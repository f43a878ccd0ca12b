pub mod ExplicitPaths
pub mod Needing
