-- What crates above may cite of the proofs of this crate: the law, one name for each clause.
pub use Rattle.explore_search.proofs.CountedStates.{no_more_states, one_census}
