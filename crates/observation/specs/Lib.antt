-- What the search over the mirror finds, and the automaton folded by it.
pub mod Listed
pub mod Observed
pub mod Explore
