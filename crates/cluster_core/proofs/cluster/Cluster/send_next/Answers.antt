use Rattle.std.proofs.Common.{◌∙◌, sym, ap}
use Rattle.std.proofs.lemmas.Result.{err_from_is_err_and}
use Rattle.cluster_core.specs.Moves.{sends_next}
use Rattle.cluster_core.proofs.StepsOfNetworks.{rests, unsent}
use Rattle.cluster_core.proofs.cluster.Cluster.send_next.Goals as goal

pub returns-in-None : goal.returns-in-None
returns-in-None c = λ dev. rests c.args.self.now c.args.own dev (sym (ap (sends_next c.args.own) c.in-None.is) ∙ c.in_ok-next_frame.ensures.value)

pub returns-in_err-next_frame : goal.returns-in_err-next_frame
returns-in_err-next_frame c = λ dev.
    let p = err_from_is_err_and c.from_residual.result c.from_residual.ensures.1 in
    unsent c.args.self.now c.args.own dev p.0 c.from_residual.result p.1 c.in_err-next_frame.ensures.wants
