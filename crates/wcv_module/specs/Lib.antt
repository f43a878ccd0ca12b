pub mod Kept
pub mod PairSet
