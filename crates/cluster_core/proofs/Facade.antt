-- What crates above may cite of the proofs of this crate. The laws have one name each. Of a plan's steps they cite that
-- they may be made, what is kept of their answers, and what is counted.
pub use Rattle.cluster_core.proofs.LaneCounts.{all_known, lines_of_filled}
pub use Rattle.cluster_core.proofs.PermittedSteps.{steps_permitted}
pub use Rattle.cluster_core.proofs.RefusedAgain.{refused_again}
pub use Rattle.cluster_core.proofs.SameClusters.{key_once_landed, one_answer, same_keys, same_steps}
pub use Rattle.cluster_core.proofs.StepsMade.{fold_more, kept_both, length-answers}
