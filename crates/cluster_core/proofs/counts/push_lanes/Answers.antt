use Rattle.std.proofs.Common.{◌≡◌, ℕ, ◌++◌, List, ap, sym, ◌∙◌, arith}
use Rattle.std.specs.List.{flat_map}
use Rattle.step_kinds.specs.declared.names.LaneName.{LaneName}
use Rattle.ledger_model.specs.Log.{Answered}
use Rattle.cluster_core.specs.LogClauses.{cluster_log_after}
use Rattle.step_kinds.specs.declared.plan.LaneCount.{LaneCount}
use Rattle.cluster_core.specs.Counts.{filled, lanes_from}
use Rattle.ledger_model.specs.PlanLog.{sessions_of_lane}
use Rattle.cluster_core.proofs.LaneCounts.{adds_both, lanes_more}
use Rattle.cluster_core.proofs.counts.push_lanes.Goals as goal

pub loop-queue-preserved : goal.loop-queue-preserved
loop-queue-preserved c =
    λ plan steps made.
    let log : List Answered = cluster_log_after plan steps in
    let queue : ℕ = c.loop-queue.queue in
    let lane : LaneName = record { pair = c.args.pair; from = c.args.from; queue = queue } in
    adds_both c.args.counts.now.items c.loop-queue.counts.items c.push_sessions.new.counts.items
    (flat_map (sessions_of_lane plan log) (lanes_from c.args.pair c.args.from queue)) (sessions_of_lane plan log lane)
    (c.loop-queue.invariant plan steps made) (c.in_ok-push_sessions.ensures plan steps made)
    ∙ ap (λ (counts : List LaneCount). c.args.counts.now.items ++ filled counts) (sym (lanes_more plan log c.args.pair c.args.from queue))

pub returns : goal.returns
returns c =
    λ plan steps made.
    let all : c.loop-queue.queue ≡ c.args.queues = omega arith in
    c.loop-queue.invariant plan steps made
    ∙ ap (λ (queues : ℕ). c.args.counts.now.items ++ filled (flat_map (sessions_of_lane plan (cluster_log_after plan steps)) (lanes_from c.args.pair c.args.from queues))) all
