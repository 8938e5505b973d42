-- What crates above may cite of the proofs of this crate: the laws, one name for each.
pub use Rattle.fabric_rule.proofs.EachStep.{each_step_stands}
pub use Rattle.fabric_rule.proofs.FreshPairs.{fresh_pair_stands}
