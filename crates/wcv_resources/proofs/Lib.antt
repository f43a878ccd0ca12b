pub mod ExplicitPaths
pub mod FreeAmong
pub mod KeptPaths
pub mod Recorded
