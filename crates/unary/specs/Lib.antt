-- What the contracts over one letter cite.
pub mod Powers
