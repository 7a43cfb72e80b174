-- What a reader must believe: Marking, Told.
pub mod Marking
pub mod Told
