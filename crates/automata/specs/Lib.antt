-- What a reader must believe: Xor to Fields, and of Row `times`, by which `star_of` is defined. Row, Reduction and Tree are for the contracts
-- of inner functions.
pub mod Xor
pub mod Automaton
pub mod Word
pub mod Language
pub mod Count
pub mod Cuts
pub mod Dimension
pub mod Minimal
pub mod Operations
pub mod Mask
pub mod WordList
pub mod MinimalOf
pub mod FirstDifference
pub mod Fields
pub mod Row
pub mod Reduction
pub mod Tree
