pub mod Members
pub mod Orders
pub mod Sides
pub mod Verdicts
