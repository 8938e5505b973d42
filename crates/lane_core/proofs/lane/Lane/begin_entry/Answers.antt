use Rattle.std.proofs.Common.{refl, false, eqb, ◌%◌, map, get_or, vec_capacity, List, ◌≡◌, ◌<◌, ◌≤◌, ◌^◌, [], ◌∷◌, ◌++◌, length, ap, ◌∙◌, sym, subst, arith}
use Rattle.std.proofs.lemmas.Bool.{eqb-true}
use Rattle.std.proofs.lemmas.Result.{IfOk-from_err}
use Rattle.std.proofs.lemmas.List.{length-map, length_push, nil_from_length}
use Rattle.lane_model.specs.Steps.{after_begin}
use Rattle.posted_queue.specs.Flight.{Flight}
use Rattle.lane_core.specs.declared.write.PostedWrite.{PostedWrite}
use Rattle.lane_laws.specs.Laws.{IsOpen}
use Rattle.lane_model.specs.Lane.{GoesDown, Lane, bytes_of, writes_of}
use Rattle.lane_model.specs.Law.{HoldsRingLaw}
use Rattle.lane_laws.proofs.Facade.{begin_keeps}
use Rattle.lane_core.specs.Calls.{LaneValue, core_down_answer, core_with_lane}
use Rattle.lane_core.specs.Parts.{entry_seen}
use Rattle.lane_core.specs.LaneView.{Buffers, lane_seen, value_seen}
use Rattle.lane_core.specs.declared.entry.Entry.{Entry}
use Rattle.step_kinds.specs.declared.lanes.Begun.TheVariants.{Ok as Began, Busy, NoRoom}
use Rattle.lane_core.proofs.BegunEntries.{answers_begun, answers_busy, answers_no_room, seen_stays, free_seen, begun_lane, buffers_stay}
use Rattle.lane_core.proofs.Parts.{on_err}
use Rattle.lane_core.proofs.Writes.{length-writes_of}
use Rattle.lane_core.proofs.lane.Lane.begin_entry.Goals as goal

pub invariant_of-self-2 : goal.invariant_of-self-2
invariant_of-self-2 c =
    let kept = c.self.invariant in
    let old = c.self.inside in
    let entry = c.args.entry in
    let was_open : IsOpen (lane_seen old) = subst (λ (value : LaneValue). IsOpen value.lane) (sym c.self.view_is) c.requires.open in
    let fits : length (bytes_of (entry_seen entry)) ≤ old.largest = subst (λ (value : LaneValue). length (bytes_of (entry_seen entry)) ≤ value.lane.largest) (sym c.self.view_is) c.requires.fits in
    let few : length (lane_seen old).sent < 2 ^ 46 = subst (λ (value : LaneValue). length value.lane.sent < 2 ^ 46) (sym c.self.view_is) c.requires.few in
    let begun : c.len-number.result ≡ length old.sent.items = omega (arith, c.len-number.ensures, old.sent.ok.0) in
    let none : old.todo.items ≡ [] = nil_from_length old.todo.items (omega (arith, eqb-true _ _ (sym c.is_empty.ensures ∙ c.if-not-is_empty.false))) in
    let free = free_seen old c.len-number.result c.position_of-head.result c.free_between.result begun c.position_of-head.ensures.value c.free_between.ensures in
    let pushed = c.push_reserved.ensures.items ∙ ap (λ entries. entries ++ entry ∷ []) c.make_room.ensures.sent in
    let filled = c.fill_todo.ensures ∙ ap (λ marks. marks ++ writes_of c.len-number.result (entry_seen entry)) c.make_room.ensures.todo in
    let seen = begun_lane old entry c.push_reserved.new.self.items c.fill_todo.new.todo.items c.len-number.result begun none pushed filled in
    let law = begin_keeps (lane_seen old) (entry_seen entry) none (omega (arith, c.if-free_between-eq0.false, free)) fits was_open kept.law in
    let writes = length-writes_of c.len-number.result (entry_seen entry) in
    let all = ap length (filled ∙ ap (λ marks. marks ++ writes_of c.len-number.result (entry_seen entry)) none) in
    let more = ap length pushed ∙ length_push old.sent.items entry in
    let count = length-map old.sent.items entry_seen in
    rw c.in_ok-make_room.ensures.promised
    (record {
      law = subst HoldsRingLaw (sym seen) law;
      sending = record { few = omega (arith, more, few, count); small = kept.sending.small; orders = kept.sending.orders; room = omega (arith, all, writes, c.chunks.ensures.value) };
      index_room = kept.index_room;
      buffers = buffers_stay old entry c.push_reserved.new.self.items pushed kept;
    })

pub returns-clause-law : goal.returns-clause-law
returns-clause-law c = (invariant_of-self-2 c).law

pub returns-then-not-is_empty : goal.returns-then-not-is_empty
returns-then-not-is_empty c =
    let old = c.self.inside in
    let some : eqb old.todo.len 0 ≡ false = sym c.is_empty.ensures ∙ c.if-not-is_empty.true in
    let len : old.todo.len ≡ length old.todo.items = omega arith in
    record {
      answer = subst (λ (value : LaneValue). Busy ≡ core_down_answer value.lane) c.self.view_is (sym (answers_busy (lane_seen old) old.todo.len len some));
      after = refl;
      err = tt;
      wants = tt;
      law = subst (λ (value : LaneValue). HoldsRingLaw value.lane) c.self.view_is c.self.invariant.law;
    }

pub returns-then-free_between-eq0 : goal.returns-then-free_between-eq0
returns-then-free_between-eq0 c =
    let old = c.self.inside in
    let count = length-map old.sent.items entry_seen in
    let begun : c.len-number.result ≡ length old.sent.items = omega (arith, c.len-number.ensures, old.sent.ok.0) in
    let none : old.todo.items ≡ [] = nil_from_length old.todo.items (omega (arith, eqb-true _ _ (sym c.is_empty.ensures ∙ c.if-not-is_empty.false))) in
    let free = free_seen old c.len-number.result c.position_of-head.result c.free_between.result begun c.position_of-head.ensures.value c.free_between.ensures in
    let answer = answers_no_room (lane_seen old) c.position_of-head.result none (c.position_of-head.ensures.value ∙ ap (λ n. n % old.entries) (begun ∙ sym count)) (sym free ∙ c.if-free_between-eq0.true) in
    record {
      answer = subst (λ (value : LaneValue). NoRoom c.position_of-head.result old.index_word ≡ core_down_answer value.lane) c.self.view_is (sym answer);
      after = refl;
      err = tt;
      wants = tt;
      law = subst (λ (value : LaneValue). HoldsRingLaw value.lane) c.self.view_is c.self.invariant.law;
    }

pub invariant_of-self : goal.invariant_of-self
invariant_of-self c =
    let kept = c.self.invariant in
    let old = c.self.inside in
    let failed = c.in_err-make_room.ensures in
    let same = seen_stays old c.make_room.new.sent.items c.make_room.new.todo.items c.make_room.new.flight failed.sent failed.todo failed.err in
    record {
      law = subst HoldsRingLaw (sym same) kept.law;
      sending = rw (failed.sent, failed.todo, failed.err) kept.sending;
      index_room = kept.index_room;
      buffers = subst (λ (sent : List Entry). Buffers old.phase old.part (bytes_of (get_or (map entry_seen sent) old.got GoesDown)) old.copied.items (vec_capacity old.copied)) (sym failed.sent) kept.buffers;
    }

pub returns-in_err-make_room : goal.returns-in_err-make_room
returns-in_err-make_room c =
    let old = c.self.inside in
    let failed = c.in_err-make_room.ensures in
    let residual = c.from_residual in
    let same = seen_stays old c.make_room.new.sent.items c.make_room.new.todo.items c.make_room.new.flight failed.sent failed.todo failed.err in
    let begun : c.len-number.result ≡ length old.sent.items = omega (arith, c.len-number.ensures, old.sent.ok.0) in
    let none : old.todo.items ≡ [] = nil_from_length old.todo.items (omega (arith, eqb-true _ _ (sym c.is_empty.ensures ∙ c.if-not-is_empty.false))) in
    let free = free_seen old c.len-number.result c.position_of-head.result c.free_between.result begun c.position_of-head.ensures.value c.free_between.ensures in
    let answer = answers_begun (lane_seen old) (length (lane_seen old).sent) none refl (λ full. c.if-free_between-eq0.false (free ∙ full)) in
    record {
      answer = IfOk-from_err residual.result _ residual.ensures.0;
      after = IfOk-from_err residual.result _ residual.ensures.0;
      err = on_err residual.result (ap (λ (lane : Lane). core_with_lane (value_seen old) lane) same ∙ c.self.view_is);
      wants = on_err residual.result (subst (λ (value : LaneValue). core_down_answer value.lane ≡ Began (length value.lane.sent)) c.self.view_is answer);
      law = (invariant_of-self c).law;
    }

pub returns-clause-answer : goal.returns-clause-answer
returns-clause-answer c =
    let old = c.self.inside in
    let count = length-map old.sent.items entry_seen in
    let begun : c.len-number.result ≡ length old.sent.items = omega (arith, c.len-number.ensures, old.sent.ok.0) in
    let none : old.todo.items ≡ [] = nil_from_length old.todo.items (omega (arith, eqb-true _ _ (sym c.is_empty.ensures ∙ c.if-not-is_empty.false))) in
    let free = free_seen old c.len-number.result c.position_of-head.result c.free_between.result begun c.position_of-head.ensures.value c.free_between.ensures in
    let answer = answers_begun (lane_seen old) c.len-number.result none (begun ∙ sym count) (λ full. c.if-free_between-eq0.false (free ∙ full)) in
    subst (λ (value : LaneValue). Began c.len-number.result ≡ core_down_answer value.lane) c.self.view_is (sym answer)

pub returns-clause-after : goal.returns-clause-after
returns-clause-after c =
    let old = c.self.inside in
    let entry = c.args.entry in
    let begun : c.len-number.result ≡ length old.sent.items = omega (arith, c.len-number.ensures, old.sent.ok.0) in
    let none : old.todo.items ≡ [] = nil_from_length old.todo.items (omega (arith, eqb-true _ _ (sym c.is_empty.ensures ∙ c.if-not-is_empty.false))) in
    let pushed = c.push_reserved.ensures.items ∙ ap (λ entries. entries ++ entry ∷ []) c.make_room.ensures.sent in
    let filled = c.fill_todo.ensures ∙ ap (λ marks. marks ++ writes_of c.len-number.result (entry_seen entry)) c.make_room.ensures.todo in
    let flight = ap (λ (lane : Flight PostedWrite). record (lane_seen old) { sent = map entry_seen c.push_reserved.new.self.items; todo = c.fill_todo.new.todo.items; flight = map (λ (write : PostedWrite). write.mark) lane.writes }) c.in_ok-make_room.ensures.promised in
    let seen = flight ∙ begun_lane old entry c.push_reserved.new.self.items c.fill_todo.new.todo.items c.len-number.result begun none pushed filled in
    ap (λ (lane : Lane). core_with_lane (value_seen old) lane) seen ∙ ap (λ (value : LaneValue). core_with_lane value (after_begin value.lane (entry_seen entry))) c.self.view_is
