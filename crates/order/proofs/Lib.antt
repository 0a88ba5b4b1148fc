pub mod AsOrder
pub mod Filled
pub mod Left
pub mod Passed
pub mod Rejection
pub mod TakenDown
