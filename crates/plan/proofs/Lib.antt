pub mod Tabled
pub mod Reading
pub mod Puts
pub mod Writing
pub mod Arrows
pub mod Firsts
