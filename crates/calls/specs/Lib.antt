pub mod Calls
pub mod Plans
pub mod Guards
pub mod Places
pub mod Promise
