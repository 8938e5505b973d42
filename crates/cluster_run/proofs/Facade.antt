-- What crates above may cite of this crate's proofs: pairs of a record's lanes, records that come to their keys, and
-- what a run has come to so far.
pub use Rattle.cluster_run.proofs.KnownPairs.{known_pairs}
pub use Rattle.cluster_run.proofs.LaneLists.{added_on_ok, added_together}
pub use Rattle.cluster_run.proofs.RunSoFar.{HasCome, all_keys, all_over, group_over, names_of}
