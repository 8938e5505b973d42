use Rattle.std.proofs.Common.{◌∙◌, ap, subst}
use Rattle.step_kinds.specs.Runs.{lane_shown}
use Rattle.cluster_run.specs.LaneKeys.{LaneState, ComesTo}
use Rattle.cluster_run.proofs.LaneEnds.{comes_to}
use Rattle.cluster_run.proofs.lanes.LaneWork.ended.Goals as goal

pub returns : goal.returns
returns c =
    let w = c.self.inside in
    let end = c.in_ok-run.field-0 in
    let over = ap (λ (s : LaneState). s.over) c.self.view_is ∙ c.requires in
    let comes = comes_to w end.run end.proof end.rest c.of_vec-sessions.result c.push-2.new.self.items c.self.invariant over c.in_ok-run.ensures (c.of_vec-sessions.ensures ∙ c.in_ok-push.ensures.items) c.in_ok-push-2.ensures.items in
    subst (λ (s : LaneState). ComesTo s.key (lane_shown (record { name = w.name; sessions = c.of_vec-sessions.result })) c.push-2.new.self.items) c.self.view_is comes
