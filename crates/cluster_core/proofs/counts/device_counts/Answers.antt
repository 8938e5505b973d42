use Rattle.std.proofs.Common.{◌≡◌, [], ◌∷◌, ◌++◌, List, length, map, take, ap, sym, ◌∙◌, arith}
use Rattle.std.proofs.lemmas.List.{take_all}
use Rattle.step_kinds.specs.declared.plan.Counters.{Counters}
use Rattle.step_kinds.specs.declared.plan.DevPlan.{DevPlan}
use Rattle.step_kinds.specs.declared.plan.Plan.{Plan}
use Rattle.pair_model.specs.PlanParts.{steps_in}
use Rattle.ledger_model.specs.Log.{Answered, counters_in, lane_of_device}
use Rattle.cluster_core.specs.LogClauses.{cluster_log_after}
use Rattle.cluster_core.proofs.LaneCounts.{devices_more}
use Rattle.cluster_core.proofs.counts.device_counts.Goals as goal

pub loop-dev-preserved : goal.loop-dev-preserved
loop-dev-preserved c =
    λ plan lines replayed.
    let log : List Answered = cluster_log_after plan (steps_in lines) in
    let same : c.args.plan.now.devs ≡ plan.devs = ap (λ (plan : Plan). plan.devs) (sym c.requires.held ∙ replayed.kept) in
    c.in_ok-push.ensures.items
    ∙ ap (λ (before : List Counters). before ++ c.counters.result ∷ []) (c.loop-dev.invariant plan lines replayed)
    ∙ ap (λ (own : Counters). map (λ dev. counters_in plan log (lane_of_device dev)) (take c.loop-dev.dev plan.devs) ++ own ∷ [])
    (c.counters.ensures plan (steps_in lines) replayed.made)
    ∙ devices_more plan log c.loop-dev.dev (omega (arith, ap length same))

pub returns : goal.returns
returns c =
    λ plan lines replayed.
    let same : c.args.plan.now.devs ≡ plan.devs = ap (λ (plan : Plan). plan.devs) (sym c.requires.held ∙ replayed.kept) in
    c.loop-dev.invariant plan lines replayed
    ∙ ap (map (λ (dev : DevPlan). counters_in plan (cluster_log_after plan (steps_in lines)) (lane_of_device dev))) (take_all c.loop-dev.dev plan.devs (omega (arith, ap length same)))
