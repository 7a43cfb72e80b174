-- The words and the records of the catalogue. Told is for the contracts of inner functions.
pub mod Words
pub mod Entries
pub mod Told
