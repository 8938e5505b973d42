use Rattle.std.proofs.Common.{◌+◌, ◌∙◌, ap, subst}
use Rattle.cluster_run.specs.LaneKeys.{LaneState}
use Rattle.cluster_run.specs.stream.Keys.{StreamComesTo}
use Rattle.cluster_run.specs.stream.Streams.{stream_shown}
use Rattle.cluster_run.proofs.Streams.StreamEnds.{StreamLaws, comes_to}
use Rattle.cluster_run.proofs.stream.lanes.StreamWork.ended.Goals as goal

pub returns : goal.returns
returns c =
    let w = c.self.inside in
    let end = c.in_ok-end.end in
    let laws : StreamLaws = record { grow = c.laws_of_sessions.ensures.grow; keep = c.laws_of_sessions.ensures.keep; front = c.laws_of_sessions.ensures.front; largest = c.laws_of_sessions.ensures.largest } in
    let over = ap (λ (s : LaneState). s.over) c.self.view_is ∙ c.requires in
    let comes = comes_to laws w end c.into_items-items.result c.push_reserved.new.self.items c.push_reserved-2.new.self.items c.self.invariant over c.in_ok-end.ensures c.into_items-items.ensures (rw c.reserve.ensures.items at c.push_reserved.ensures.items) c.push_reserved-2.ensures.items in
    subst (λ (s : LaneState). StreamComesTo s.key (stream_shown (record { name = w.name; items = c.into_items-items.result; sessions = w.losses + 1 })) c.push_reserved-2.new.self.items) c.self.view_is comes
