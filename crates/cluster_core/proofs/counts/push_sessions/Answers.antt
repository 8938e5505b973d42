use Rattle.std.proofs.Common.{◌+◌, [], ◌∷◌, ◌++◌, List, map, ap, sym, ◌∙◌}
use Rattle.std.specs.List.{range_with_len}
use Rattle.ledger_model.specs.Log.{Answered}
use Rattle.cluster_core.specs.LogClauses.{cluster_log_after}
use Rattle.step_kinds.specs.declared.plan.LaneCount.{LaneCount}
use Rattle.cluster_core.specs.Counts.{filled}
use Rattle.ledger_model.specs.PlanLog.{lane_count}
use Rattle.cluster_core.proofs.LaneCounts.{adds_both, sessions_more}
use Rattle.cluster_core.proofs.counts.push_sessions.Goals as goal

pub loop-before-preserved : goal.loop-before-preserved
loop-before-preserved c =
    λ plan steps made.
    let log : List Answered = cluster_log_after plan steps in
    let lane = c.args.lane in
    let before = c.loop-before.before in
    adds_both c.args.counts.now.items c.loop-before.counts.items c.push_session.new.counts.items
    (map (lane_count plan log lane) (range_with_len 1 before)) (lane_count plan log lane (before + 1) ∷ [])
    (c.loop-before.invariant plan steps made) (c.in_ok-push_session.ensures plan steps made)
    ∙ ap (λ (counts : List LaneCount). c.args.counts.now.items ++ filled counts) (sym (sessions_more plan log lane before))
