-- The definitions that the contract of the minimal automaton cites.
pub mod Minimises
