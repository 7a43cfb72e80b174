-- What a reader must believe: Bytes, Rules, Record, Outcome, Claims. Held is for the contracts of inner functions.
pub mod Bytes
pub mod Rules
pub mod Record
pub mod Outcome
pub mod Claims
pub mod Held
