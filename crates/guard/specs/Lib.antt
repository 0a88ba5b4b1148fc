pub mod Transitions
pub mod Meanings
