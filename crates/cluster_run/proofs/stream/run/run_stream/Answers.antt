use Rattle.std.proofs.Common.{◌++◌, ◌∙◌, ap, sym, subst, map, List, arith}
use Rattle.std.proofs.lemmas.List.{nil_from_length}
use Rattle.cluster_run.specs.LaneKeys.{LaneKey, keys_of}
use Rattle.cluster_run.proofs.Facade.{HasCome, group_over, all_over}
use Rattle.cluster_run.specs.stream.Keys.{StreamComesTo}
use Rattle.cluster_run.specs.stream.Streams.{AreResumed, stream_shown}
use Rattle.cluster_run.specs.declared.stream.record.StreamRun.{StreamRun}
use Rattle.cluster_run.proofs.Streams.StreamsByPlan.{are_resumed}
use Rattle.cluster_run.proofs.stream.run.run_stream.Goals as goal

pub loop-first-preserved : goal.loop-first-preserved
loop-first-preserved g c =
    let old = c.loop-first.parts in
    let after = c.next_group.new.waiting.items in
    let come = subst (λ (waiting : List LaneKey). HasCome StreamComesTo c.args.plan.now waiting (map stream_shown old.lanes.items) old.proofs.items) c.in-Some.ensures.items c.loop-first.invariant in
    let parts = ap (λ (keys : List LaneKey). keys ++ after) c.in_ok-over.ensures.keys ∙ c.in_ok-open.ensures.keys in
    group_over StreamComesTo c.args.plan.now c.in-Some.first c.pop_front.new.self.items (keys_of c.in_ok-over.over.items) after (map stream_shown old.lanes.items) (map stream_shown c.add_all.new.self.lanes.items) old.proofs.items
    c.add_all.new.self.proofs.items come parts c.in_ok-add_all.ensures

pub returns : goal.returns
returns g c =
    let parts = c.loop-first.parts in
    let none = nil_from_length c.loop-first.waiting.items (omega (arith, c.in_default.ensures.cases.0, c.loop-first.waiting.ok.0)) in
    let come = all_over StreamComesTo c.args.plan.now none c.loop-first.invariant in
    subst (λ (lanes : List StreamRun). AreResumed c.args.plan.now (map stream_shown lanes) parts.proofs.items) (sym c.of_vec-lanes.ensures) (are_resumed c.args.plan.now (map stream_shown parts.lanes.items) parts.proofs.items come)
