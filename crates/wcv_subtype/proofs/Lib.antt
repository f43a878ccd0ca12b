pub mod CreatedExtents
pub mod References
pub mod GivenLists
pub mod Landing
pub mod GivenSorts
pub mod Opening
