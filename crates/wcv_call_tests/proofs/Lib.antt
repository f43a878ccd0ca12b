pub mod Closing
pub mod Standing
pub mod Opened
pub mod MadeOf
