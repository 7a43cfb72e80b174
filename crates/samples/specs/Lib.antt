-- What a reader must believe: all of it.
pub mod Languages
pub mod Claims
pub mod Table
pub mod Answers
