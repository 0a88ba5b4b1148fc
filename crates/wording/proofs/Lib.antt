pub mod Appends
pub mod Shows
pub mod Paired
pub mod Named
pub mod Runs
