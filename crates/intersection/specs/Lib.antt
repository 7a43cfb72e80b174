-- What a reader must believe: Meet. Kron is for the contracts of inner functions.
pub mod Meet
pub mod Kron
