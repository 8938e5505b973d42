-- A lane before and after an entry is begun.
use Rattle.std.proofs.Common.{refl, false, eqb, ◌≡◌, ℕ, ◌*◌, ◌%◌, ◌≤◌, List, [], ◌∷◌, ◌++◌, length, map, take, get_or, sym, ap, ◌∙◌, subst, arith, vec_capacity}
use Rattle.std.proofs.lemmas.Bool.{cond-false, cond-true, ne_eqb}
use Rattle.std.proofs.lemmas.List.{get_or_append_left, length-map, map_push}
use Rattle.lane_model.specs.Ring.{free_entries}
use Rattle.lane_model.specs.Lane as model
use Rattle.lane_model.specs.Lane.{Lane, bytes_of, chunk_size, entry_of, free_in, writes_of}
use Rattle.lane_model.specs.Steps.{after_begin}
use Rattle.lane_model.specs.declared.Write.{Write}
use Rattle.lane_model.specs.declared.Phase.TheVariants.{Copying}
use Rattle.lane_laws.proofs.Facade.{copy_sees}
use Rattle.posted_queue.specs.Flight.{Flight}
use Rattle.step_kinds.specs.declared.lanes.Begun.TheVariants.{Ok as Began, Busy, NoRoom}
use Rattle.lane_core.specs.Calls.{core_down_answer, has_room, is_empty_list}
use Rattle.lane_core.specs.Parts.{entry_seen}
use Rattle.lane_core.specs.LaneView.{Buffers, IsCoreKept, lane_seen}
use Rattle.lane_core.specs.declared.entry.Entry.{Entry}
use Rattle.lane_core.specs.declared.write.PostedWrite.{PostedWrite}
use Rattle.lane_core.specs.declared.lane.Lane.TheInside.{Inside}

-- the free entries that the sender counts are the model's
pub free_seen : (l : Inside) (number head free : ℕ) → number ≡ length l.sent.items → head ≡ number % l.entries → free ≡ free_entries l.entries head l.index_word → free ≡ free_in (lane_seen l)
free_seen l number head free begun at counted =
    counted
    ∙ ap (λ h. free_entries l.entries h l.index_word) (at ∙ ap (λ n. n % l.entries) (begun ∙ sym (length-map l.sent.items entry_seen)))

-- where writes are left to post, no entry is begun
pub answers_busy : (lane : Lane) (count : ℕ) → count ≡ length lane.todo → eqb count 0 ≡ false → core_down_answer lane ≡ Busy
answers_busy lane count all some = cond-false (is_empty_list lane.todo) (has_room lane) Busy (not_empty lane.todo (subst (λ (n : ℕ). eqb n 0 ≡ false) all some))
  where
    not_empty : (marks : List Write) → eqb (length marks) 0 ≡ false → is_empty_list marks ≡ false
    not_empty [] h = h
    not_empty (mark ∷ marks) h = refl

-- where none is left, an entry is begun if and only if the ring has room
no_writes : (lane : Lane) → lane.todo ≡ [] → core_down_answer lane ≡ has_room lane
no_writes lane none = cond-true (is_empty_list lane.todo) (has_room lane) Busy (ap is_empty_list none)

-- a ring with no free entry has no room
pub answers_no_room : (lane : Lane) (head : ℕ) → lane.todo ≡ [] → head ≡ length lane.sent % lane.entries → free_in lane ≡ 0 → core_down_answer lane ≡ NoRoom head lane.index_word
answers_no_room lane head none at full =
    no_writes lane none
    ∙ cond-true (eqb (free_in lane) 0) _ _ (ap (λ n. eqb n 0) full)
    ∙ ap (λ n. NoRoom n lane.index_word) (sym at)

-- a ring with a free entry takes one more
pub answers_begun : (lane : Lane) (number : ℕ) → lane.todo ≡ [] → number ≡ length lane.sent → (free_in lane ≡ 0 → ⊥) → core_down_answer lane ≡ Began number
answers_begun lane number none begun room =
    no_writes lane none
    ∙ cond-false (eqb (free_in lane) 0) _ _ (ne_eqb (free_in lane) 0 room)
    ∙ ap Began (sym begun)

-- lists with the same in them are seen as the same lane
pub seen_stays : (l : Inside) (sent : List Entry) (todo : List Write) (flight : Flight PostedWrite) → sent ≡ l.sent.items → todo ≡ l.todo.items → flight ≡ l.flight
    → record (lane_seen l) { sent = map entry_seen sent; todo = todo; flight = map (λ (write : PostedWrite). write.mark) flight.writes } ≡ lane_seen l
seen_stays l sent todo flight same_sent same_todo same_flight =
    ap (λ (entries : List Entry). record (lane_seen l) { sent = map entry_seen entries; todo = todo; flight = map (λ (write : PostedWrite). write.mark) flight.writes }) same_sent
    ∙ ap (λ (marks : List Write). record (lane_seen l) { todo = marks; flight = map (λ (write : PostedWrite). write.mark) flight.writes }) same_todo
    ∙ ap (λ (f : Flight PostedWrite). record (lane_seen l) { flight = map (λ (write : PostedWrite). write.mark) f.writes }) same_flight

-- the entry and its writes are the model's
pub begun_lane : (l : Inside) (entry : Entry) (sent : List Entry) (todo : List Write) (number : ℕ) → number ≡ length l.sent.items → l.todo.items ≡ []
    → sent ≡ l.sent.items ++ entry ∷ [] → todo ≡ l.todo.items ++ writes_of number (entry_seen entry)
    → record (lane_seen l) { sent = map entry_seen sent; todo = todo } ≡ after_begin (lane_seen l) (entry_seen entry)
begun_lane l entry sent todo number begun none pushed filled =
    ap (λ (entries : List model.Entry). record (lane_seen l) { sent = entries; todo = todo }) (ap (map entry_seen) pushed ∙ map_push entry_seen l.sent.items entry)
    ∙ ap (λ (marks : List Write). record (lane_seen l) { sent = map entry_seen l.sent.items ++ entry_seen entry ∷ []; todo = marks })
    (filled ∙ ap (λ marks. marks ++ writes_of number (entry_seen entry)) none ∙ ap (λ n. writes_of n (entry_seen entry)) (begun ∙ sym (length-map l.sent.items entry_seen)))

-- the entry that is copied stays what it was
pub buffers_stay : (l : Inside) (entry : Entry) (sent : List Entry) → sent ≡ l.sent.items ++ entry ∷ [] → IsCoreKept l
    → Buffers l.phase l.part (bytes_of (get_or (map entry_seen sent) l.got model.GoesDown)) l.copied.items (vec_capacity l.copied)
buffers_stay l entry sent pushed kept = record {
  items = λ copying. subst (λ (e : model.Entry). l.copied.items ≡ take (chunk_size * l.part) (bytes_of e)) (sym (same copying)) (kept.buffers.items copying);
  room = λ copying. subst (λ (e : model.Entry). length (bytes_of e) ≤ vec_capacity l.copied) (sym (same copying)) (kept.buffers.room copying);
}
  where
    same : l.phase ≡ Copying → get_or (map entry_seen sent) l.got model.GoesDown ≡ entry_of (lane_seen l) l.got
    same copying =
        let law = kept.law in
        let sees = copy_sees (lane_seen l) copying law in
        ap (λ (entries : List model.Entry). get_or entries l.got model.GoesDown) (ap (map entry_seen) pushed ∙ map_push entry_seen l.sent.items entry)
        ∙ get_or_append_left (map entry_seen l.sent.items) (entry_seen entry ∷ []) model.GoesDown l.got (omega (arith, sees.0, law.2.counts.flagged_first))
