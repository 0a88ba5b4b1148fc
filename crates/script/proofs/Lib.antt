pub mod Splits
pub mod Values
pub mod Hexes
pub mod Signs
pub mod Marks
