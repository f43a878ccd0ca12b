pub mod Values
pub mod Reading
pub mod Naming
pub mod Recorded
pub mod Growth
pub mod Machine
pub mod Renamed
pub mod Worked
