pub mod Told
pub mod Answers
pub mod Additions
pub mod Sequences
pub mod Count
