pub mod Folds
pub mod Telling
pub mod Accepting
pub mod Searched
pub mod AtPlaces
pub mod Promising
