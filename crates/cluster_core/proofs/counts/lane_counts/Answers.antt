use Rattle.std.proofs.Common.{◌≡◌, ℕ, List, length, get_or, ap, sym, ◌∙◌, arith}
use Rattle.std.specs.List.{flat_map, range_with_len}
use Rattle.step_kinds.specs.declared.plan.PairPlan.{PairPlan}
use Rattle.step_kinds.specs.declared.plan.Plan.{Plan}
use Rattle.pair_model.specs.PlanParts.{steps_in}
use Rattle.ledger_model.specs.Log.{Answered}
use Rattle.ledger_model.specs.PlanLog.{lanes_of_pair, sessions_of_lane}
use Rattle.cluster_core.specs.Counts.{filled}
use Rattle.cluster_core.specs.LogClauses.{cluster_log_after}
use Rattle.cluster_core.proofs.LaneCounts.{adds_pair, has_queues}
use Rattle.cluster_core.proofs.counts.lane_counts.Goals as goal

pub push_lanes-requires : goal.push_lanes-requires
push_lanes-requires c =
    has_queues c.args.plan.now _ c.loop-pair.pair c.sides-item.result c.min-queues.result c.requires.held (omega (arith, ap length c.as_slice-sides-items.ensures))
    (c.sides-item.is ∙ ap (λ (pairs : List PairPlan). get_or pairs c.loop-pair.pair c.sides-item.result) c.as_slice-sides-items.ensures) c.min-queues.ensures

pub push_lanes-requires-in-loop-pair : goal.push_lanes-requires-in-loop-pair
push_lanes-requires-in-loop-pair c =
    has_queues c.args.plan.now _ c.loop-pair.pair c.sides-item.result c.min-queues.result c.requires.held (omega (arith, ap length c.as_slice-sides-items.ensures))
    (c.sides-item.is ∙ ap (λ (pairs : List PairPlan). get_or pairs c.loop-pair.pair c.sides-item.result) c.as_slice-sides-items.ensures) c.min-queues.ensures

pub loop-pair-preserved : goal.loop-pair-preserved
loop-pair-preserved c =
    λ plan lines replayed.
    let same : c.as_slice-sides-items.result.now ≡ plan.pairs =
    c.as_slice-sides-items.ensures ∙ ap (λ (plan : Plan). plan.pairs) (sym c.requires.held ∙ replayed.kept) in
    adds_pair plan (cluster_log_after plan (steps_in lines)) c.loop-pair.pair c.sides-item.result c.min-queues.result c.loop-pair.counts.items c.push_lanes.new.counts.items
    c.push_lanes-in-loop-pair.new.counts.items (omega (arith, ap length same))
    (c.sides-item.is ∙ ap (λ (pairs : List PairPlan). get_or pairs c.loop-pair.pair c.sides-item.result) same) c.min-queues.ensures (c.loop-pair.invariant plan lines replayed)
    (c.in_ok-push_lanes.ensures plan (steps_in lines) replayed.made) (c.in_ok-push_lanes-2.ensures plan (steps_in lines) replayed.made)

pub returns : goal.returns
returns c =
    λ plan lines replayed.
    let log : List Answered = cluster_log_after plan (steps_in lines) in
    let same : c.as_slice-sides-items.result.now ≡ plan.pairs =
    c.as_slice-sides-items.ensures ∙ ap (λ (plan : Plan). plan.pairs) (sym c.requires.held ∙ replayed.kept) in
    let all : c.loop-pair.pair ≡ length plan.pairs = omega (arith, ap length same) in
    c.loop-pair.invariant plan lines replayed
    ∙ ap (λ (count : ℕ). filled (flat_map (sessions_of_lane plan log) (flat_map (lanes_of_pair plan) (range_with_len 0 count)))) all
