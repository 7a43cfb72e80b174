-- What a reader must believe: Star. Renewed is for the contracts of inner functions.
pub mod Star
pub mod Renewed
