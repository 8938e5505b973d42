use Rattle.std.proofs.Common.{◌≡◌, ◌∙◌, ◌-◌, ◌<◌, ◌≤◌, true, ap, subst, sym, arith, length}
use Rattle.lane_model.specs.Tests.{is_empty_list}
use Rattle.frame_ring.specs.Calls.{let_go, rest_of}
use Rattle.frame_ring.specs.Outgoing.{IsSender, Outgoing, entries_under, entry_at, sender_seen, with_progress, port_writes_in}
use Rattle.frame_ring.specs.Port.{Sending}
use Rattle.frame_ring.specs.declared.sending.Sender.TheInside.{Inside}
use Rattle.frame_ring.proofs.Entries.{few_writes}
use Rattle.frame_ring.proofs.Progress.{one_is_left, posted_last, posted_more}
use Rattle.frame_ring.proofs.sending.Sender.posted.Goals as goal

among_is : (kept : Inside) → IsSender kept → kept.piece < length (entries_under kept.largest kept.frame)
among_is kept law = omega (arith, law.pieces, law.piece)

-- a write of the entry at hand is left
more_is : (kept : Inside) (seen : Outgoing) → IsSender kept → sender_seen kept ≡ seen → (is_empty_list seen.sending.todo ≡ true → is_empty_list seen.sending.waiting ≡ true) → 0 < kept.left
    → kept.next < port_writes_in (entry_at (entries_under kept.largest kept.frame) kept.piece)
more_is kept seen law is moved some =
    one_is_left (entries_under kept.largest kept.frame) kept.queue (kept.begun - 1) kept.piece kept.next kept.left (among_is kept law) law.next law.left
    (subst (λ (outgoing : Outgoing). is_empty_list outgoing.sending.todo ≡ true → is_empty_list outgoing.sending.waiting ≡ true) (sym is) moved) some

abbrev step : Outgoing → Sending
step outgoing = let_go (record outgoing.sending { todo = rest_of outgoing.sending.todo })

-- where the sender is as it is kept, it is as it is seen
seen_to_step : (kept : Inside) (seen : Outgoing) (sending : Sending) → sender_seen kept ≡ seen → sending ≡ step (sender_seen kept) → with_progress (sender_seen kept) sending ≡ with_progress seen (step seen)
seen_to_step kept seen sending is same = ap (with_progress (sender_seen kept)) same ∙ ap (λ (outgoing : Outgoing). with_progress outgoing (step outgoing)) is

pub overflow_add-self : goal.overflow_add-self
overflow_add-self c =
    let kept = c.self.inside in
    let few : port_writes_in (entry_at (entries_under kept.largest kept.frame) kept.piece) ≤ 516 = few_writes kept.largest kept.frame kept.piece c.self.invariant.few (among_is kept c.self.invariant) in
    omega (arith, few, c.self.invariant.next)

pub invariant_of-self-else-self-eq0-2 : goal.invariant_of-self-else-self-eq0-2
invariant_of-self-else-self-eq0-2 c =
    let law = c.self.invariant in
    let more = more_is c.self.inside c.args.self.now law c.self.view_is c.requires (omega (arith, c.if-self-eq0.false)) in
    record {
      payload = law.payload;
      pieces = law.pieces;
      piece = law.piece;
      few_pieces = law.few_pieces;
      next = omega (arith, more);
      left = omega (arith, law.left, c.if-self-eq0.false);
      begun = law.begun;
      told = law.told;
      few_left = omega (arith, law.few_left);
      gone = λ none. absurd (c.if-self-eq0-2.false none);
    }

pub returns-then-self-eq0-2 : goal.returns-then-self-eq0-2
returns-then-self-eq0-2 c =
    let kept = c.self.inside in
    let more = more_is kept c.args.self.now c.self.invariant c.self.view_is c.requires (omega (arith, c.if-self-eq0.false)) in
    seen_to_step kept c.args.self.now _ c.self.view_is
    (posted_last (entries_under kept.largest kept.frame) kept.queue kept.piece kept.next kept.begun kept.told (among_is kept c.self.invariant) more (omega (arith, c.self.invariant.left, c.if-self-eq0.false, c.if-self-eq0-2.true)))

pub returns-else-self-eq0-2 : goal.returns-else-self-eq0-2
returns-else-self-eq0-2 c =
    let kept = c.self.inside in
    let more = more_is kept c.args.self.now c.self.invariant c.self.view_is c.requires (omega (arith, c.if-self-eq0.false)) in
    seen_to_step kept c.args.self.now _ c.self.view_is
    (posted_more (entries_under kept.largest kept.frame) kept.queue kept.piece kept.next kept.begun kept.told (kept.left - 1) (among_is kept c.self.invariant) more
    (omega (arith, c.self.invariant.left, c.if-self-eq0.false)) (omega (arith, c.if-self-eq0-2.false)))
