use Rattle.std.proofs.Common.{◌++◌, ◌∙◌, ap, sym, subst, map, List, arith}
use Rattle.std.proofs.lemmas.List.{nil_from_length}
use Rattle.step_kinds.specs.Runs.{lane_shown}
use Rattle.step_kinds.specs.declared.runs.LaneRun.{LaneRun}
use Rattle.cluster_run.specs.LaneKeys.{LaneKey, ComesTo, keys_of}
use Rattle.cluster_run.specs.Runs.{IsFit, IsRunShown}
use Rattle.cluster_run.proofs.RecordFits.{record_fits, record_shown}
use Rattle.cluster_run.proofs.RunSoFar.{HasCome, group_over, all_over}
use Rattle.cluster_run.proofs.run.run_plan.Goals as goal

pub loop-first-preserved : goal.loop-first-preserved
loop-first-preserved g c =
    let old = c.loop-first.parts in
    let after = c.next_group.new.waiting.items in
    let come = subst (λ (waiting : List LaneKey). HasCome ComesTo c.args.plan.now waiting (map lane_shown old.lanes.items) old.proofs.items) c.in-Some.ensures.items c.loop-first.invariant in
    let parts = ap (λ (keys : List LaneKey). keys ++ after) c.in_ok-over.ensures.keys ∙ c.in_ok-open.ensures.keys in
    group_over ComesTo c.args.plan.now c.in-Some.first c.pop_front.new.self.items (keys_of c.in_ok-over.over.items) after (map lane_shown old.lanes.items) (map lane_shown c.add_all.new.self.lanes.items) old.proofs.items
    c.add_all.new.self.proofs.items come parts c.in_ok-add_all.ensures

pub returns-clause-fits : goal.returns-clause-fits
returns-clause-fits g c =
    let parts = c.loop-first.parts in
    let none = nil_from_length c.loop-first.waiting.items (omega (arith, c.in_default.ensures.cases.0, c.loop-first.waiting.ok.0)) in
    let come = all_over ComesTo c.args.plan.now none c.loop-first.invariant in
    subst (λ (lanes : List LaneRun). IsFit c.args.plan.now (map lane_shown lanes)) (sym c.of_vec-lanes.ensures) (record_fits c.args.plan.now (map lane_shown parts.lanes.items) parts.proofs.items come)

pub returns-clause-shown : goal.returns-clause-shown
returns-clause-shown g c =
    let parts = c.loop-first.parts in
    let none = nil_from_length c.loop-first.waiting.items (omega (arith, c.in_default.ensures.cases.0, c.loop-first.waiting.ok.0)) in
    let come = all_over ComesTo c.args.plan.now none c.loop-first.invariant in
    subst (λ (lanes : List LaneRun). IsRunShown c.args.plan.now (map lane_shown lanes) parts.proofs.items) (sym c.of_vec-lanes.ensures)
    (record_shown c.args.plan.now (map lane_shown parts.lanes.items) parts.proofs.items come)
