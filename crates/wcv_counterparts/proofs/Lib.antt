pub mod OwnReadings
pub mod OneToOne
pub mod Exporting
pub mod ComponentIds
pub mod OwnPaths
