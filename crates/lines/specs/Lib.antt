-- What a reader must believe: Lines.
pub mod Lines
