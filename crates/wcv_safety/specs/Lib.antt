pub mod Fitting
pub mod Agreeing
pub mod Places
pub mod Clean
pub mod Sound
pub mod Safe
pub mod Standing
pub mod Importing
