pub mod Answering
pub mod Counting
pub mod Ending
pub mod Known
pub mod Numbers
