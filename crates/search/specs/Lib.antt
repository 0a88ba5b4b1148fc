pub mod Pairs
pub mod StateSets
pub mod Comparing
pub mod Opening
pub mod Findings
pub mod Searching
pub mod Answering
pub mod Cases
