-- What the contracts of the triangular basis cite.
pub mod Triangular
