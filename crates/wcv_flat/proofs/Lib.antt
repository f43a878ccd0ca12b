pub mod Opening
pub mod Signing
pub mod Closing
pub mod Renamed
