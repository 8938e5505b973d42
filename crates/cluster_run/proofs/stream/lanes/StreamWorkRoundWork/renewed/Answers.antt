use Rattle.std.proofs.Common.{◌≡◌, ◌+◌, ◌-◌, length, true, refl, sym, ◌∙◌, ap, arith}
use Rattle.cluster_run.specs.LaneKeys.{LaneState}
use Rattle.cluster_run.specs.stream.Workers.{StreamSessionState}
use Rattle.cluster_run.proofs.Streams.StreamEnds.{StreamLaws, key_is, next_can_begin, next_items, next_work}
use Rattle.cluster_run.proofs.stream.lanes.StreamWorkRoundWork.renewed.Goals as goal

pub new-requires-clause-ends : goal.new-requires-clause-ends
new-requires-clause-ends c =
    let laws : StreamLaws = record { grow = c.laws_of_sessions.ensures.grow; keep = c.laws_of_sessions.ensures.keep; front = c.laws_of_sessions.ensures.front; largest = c.laws_of_sessions.ensures.largest } in
    let next = c.next_ends-sender in
    next_can_begin laws c.self.inside c.in_ok-end.end next.result.sender next.result.receiver c.self.invariant c.in_ok-end.ensures next.ensures.sender next.ensures.receiver

pub new-requires-clause-total : goal.new-requires-clause-total
new-requires-clause-total c =
    let next = c.next_ends-sender in
    c.total-total.ensures ∙ ap length (sym (next_items c.self.inside c.in_ok-end.end next.result.sender c.in_ok-end.ensures next.ensures.sender))

pub invariant_of-result : goal.invariant_of-result
invariant_of-result c =
    let laws : StreamLaws = record { grow = c.laws_of_sessions.ensures.grow; keep = c.laws_of_sessions.ensures.keep; front = c.laws_of_sessions.ensures.front; largest = c.laws_of_sessions.ensures.largest } in
    let w = c.self.inside in
    let next = c.next_ends-sender in
    let ahead = c.if-self-eq0.false in
    let less : (w.ahead - 1) + 1 ≡ w.ahead = omega arith in
    let cut : w.session.cut ≡ true = sym c.is_cut.ensures ∙ c.if-not-is_cut.false in
    next_work laws w c.in_ok-end.end next.result.sender next.result.receiver c.in_ok-new.field-0 c.push_reserved.new.self.items c.push_reserved-2.new.self (w.ahead - 1) c.self.invariant less cut c.in_ok-end.ensures
    next.ensures.sender next.ensures.receiver c.in_ok-new.ensures (rw c.reserve.ensures.items at c.push_reserved.ensures.items) c.push_reserved-2.ensures.items

pub returns-clause-key : goal.returns-clause-key
returns-clause-key c =
    let next = c.next_ends-sender in
    let items = ap (λ (s : StreamSessionState). s.key.items) c.in_ok-new.ensures ∙ next_items c.self.inside c.in_ok-end.end next.result.sender c.in_ok-end.ensures next.ensures.sender in
    key_is refl refl refl refl items ∙ ap (λ (s : LaneState). s.key) c.self.view_is
