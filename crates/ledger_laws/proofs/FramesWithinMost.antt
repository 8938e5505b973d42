-- The bytes of a frame under way, with those of the entry that comes next, are no more than a frame may have. A
-- receiver that copies an entry knows how many bytes it has.
use Rattle.std.proofs.Common.{◌≡◌, ℕ, zero, suc, ◌+◌, ◌<◌, ◌≤◌, Bool, false, List, [], ◌∷◌, ◌++◌, length, take, refl, sym, ap, ◌∙◌, subst, inl, inr, arith}
use Rattle.std.specs.Prelude.{slice_index_or}
use Rattle.std.specs.List.{AllByRecursion}
use Rattle.std.proofs.lemmas.Bool.{both_ways, false≢true}
use Rattle.std.proofs.lemmas.List.{length-append, take-append-le, get_or_append_left}
use Rattle.step_kinds.specs.Bits.{has_bit}
use Rattle.step_kinds.specs.declared.names.LaneName.{LaneName}
use Rattle.step_kinds.specs.declared.plan.Plan.{Plan}
use Rattle.lane_model.specs.Lane.{Entry, Carries, GoesDown, bytes_of}
use Rattle.ledger_model.specs.Ledger.{LanePart}
use Rattle.ledger_model.specs.Log.{Answered, Numbered, ledger_of}
use Rattle.ledger_model.specs.Next.{fresh_pair}
use Rattle.pair_model.specs.Plans.{pair_plan}
use Rattle.ledger_laws.specs.States.{FreedWereBegun, ReceiverKnowsItsFrame}
use Rattle.ledger_laws.proofs.AtStart.{fresh-lane}
use Rattle.ledger_laws.proofs.EntriesFit.{EntriesKnown, entries_run, freed-begun}
use Rattle.ledger_laws.proofs.Frames.{frames_from, rest_after}
use Rattle.ledger_laws.proofs.FramesInOrder.{Grows, GoOn, Anew, BegunOf, ReceivesOf, taken_of, begun_kept, receives_kept, piece_of_copy, idle-not_copying}
use Rattle.ledger_laws.proofs.walk.Logs.{HoldsAlways, always_after}
use Rattle.ledger_laws.proofs.walk.News.{News}
use Rattle.ledger_laws.proofs.walk.Sight.{Sight, sight}
use Rattle.ledger_laws.proofs.walk.Turn.{Turn, Begins, IsRaw, SizesOf}

-- Frames of entries

abbrev IsWithinMost : ℕ → Numbered → Type 0
IsWithinMost most frame = length frame.bytes ≤ most

abbrev AreWithinMost : ℕ → List Numbered → Type 0
AreWithinMost most frames = AllByRecursion (IsWithinMost most) frames

-- bytes of a frame that goes on in entries after which none is under way
rest_within : (most n : ℕ) (rest : List ℕ) (xs : List Entry) → AreWithinMost most (frames_from n rest xs) → rest_after rest xs ≡ [] → length rest ≤ most
rest_within most n rest [] all whole = let none = ap length whole in omega (arith, none)
rest_within most n rest (GoesDown ∷ xs) all whole = rest_within most n rest xs all whole
rest_within most n rest (Carries bytes zero ∷ xs) all whole = let e = length-append rest bytes in let h = all.0 in omega (arith, e, h)
rest_within most n rest (Carries bytes (suc left) ∷ xs) all whole =
    let e = length-append rest bytes in let h = rest_within most n (rest ++ bytes) xs all whole in omega (arith, e, h)

-- with those of the entry that comes next
next_within : (most n : ℕ) (rest : List ℕ) (xs : List Entry) (got : ℕ) → got < length xs → AreWithinMost most (frames_from n rest xs) → rest_after rest xs ≡ []
    → length (rest_after rest (take got xs)) + length (bytes_of (slice_index_or xs got GoesDown)) ≤ most
next_within most n rest [] got below all whole = absurd (omega arith)
next_within most n rest (GoesDown ∷ xs) zero below all whole = let h = rest_within most n rest xs all whole in omega (arith, h)
next_within most n rest (GoesDown ∷ xs) (suc got) below all whole = next_within most n rest xs got (omega arith) all whole
next_within most n rest (Carries bytes zero ∷ xs) zero below all whole = let e = length-append rest bytes in let h = all.0 in omega (arith, e, h)
next_within most n rest (Carries bytes zero ∷ xs) (suc got) below all whole = next_within most (n + 1) [] xs got (omega arith) all.1 whole
next_within most n rest (Carries bytes (suc left) ∷ xs) zero below all whole =
    let e = length-append rest bytes in let h = rest_within most n (rest ++ bytes) xs all whole in omega (arith, e, h)
next_within most n rest (Carries bytes (suc left) ∷ xs) (suc got) below all whole = next_within most n (rest ++ bytes) xs got (omega arith) all whole

-- The frames that were accepted

all_join : {X : Type 0} (P : X → Type 0) (xs ys : List X) → AllByRecursion P xs → AllByRecursion P ys → AllByRecursion P (xs ++ ys)
all_join P [] ys first second = second
all_join P (x ∷ xs) ys first second = (first.0, all_join P xs ys first.1 second)

accepted_within : (plan : Plan) (lane : LaneName) (s : Sight) (made : Answered) (news : News) (t : Sight) → Turn plan lane s made news t → AreWithinMost (SizesOf plan lane).most news.accepted
accepted_within plan lane s made news t (Begins bytes first others may cut) = (may.fits, tt)
accepted_within plan lane s made news t turn = tt

grown_within : (most : ℕ) {more before after : List Numbered} {starts : Bool} → Grows more before starts after → AreWithinMost most more → AreWithinMost most before → AreWithinMost most after
grown_within most {more} {before} (GoOn e) new old = subst (AreWithinMost most) (sym e) (all_join (IsWithinMost most) before more old new)
grown_within most (Anew none e) new old = subst (AreWithinMost most) (sym e) tt

record FrameKnown (plan : Plan) (lane : LaneName) (s : Sight) : Type 0 where
  coming : List Entry
  begun : BegunOf s coming
  receives : ReceivesOf lane.queue s
  within : AreWithinMost (SizesOf plan lane).most (taken_of s coming)

frame_kept : (plan : Plan) (lane : LaneName) (s : Sight) (made : Answered) (news : News) (t : Sight) → IsRaw plan lane ≡ false → Turn plan lane s made news t → FrameKnown plan lane s
    → FrameKnown plan lane t
frame_kept plan lane s made news t no_raw turn h =
    let next = begun_kept plan lane s made news t no_raw turn h.coming h.begun in record {
      coming = next.after;
      begun = next.begun;
      receives = (receives_kept plan lane s made news t no_raw turn h.receives).receives;
      within = grown_within (SizesOf plan lane).most next.grows (accepted_within plan lane s made news t turn) h.within;
    }

frame_runs : (plan : Plan) (lane : LaneName) → IsRaw plan lane ≡ false → HoldsAlways plan lane (λ log s. FrameKnown plan lane s)
frame_runs plan lane no_raw = record {
  fresh =
      subst (λ (l : LanePart). FrameKnown plan lane (record (sight lane.from lane.queue (fresh_pair (pair_plan plan lane.pair))) { lane = l })) (sym (fresh-lane (pair_plan plan lane.pair) lane.from lane.queue))
      (record {
        coming = [];
        begun = record { to_come = inl refl; told_is = refl; whole = refl };
        receives = record { within = omega arith; done_is = refl; has = inl (record { between = λ _. refl; copying = λ c. absurd (false≢true c) }) };
        within = tt;
      });
  turns = λ log s made news t tells turn h. frame_kept plan lane s made news t no_raw turn h;
}

-- The laws

-- On an ordinary pair a receiver that copies knows its entry's length, and a frame under way never gets too long.
pub receiver_knows_its_frame : ReceiverKnowsItsFrame
receiver_knows_its_frame plan memories steps name no_raw =
    let s = sight name.from name.queue (ledger_of plan memories steps name.pair) in
    let known = always_after plan name (λ log s. FrameKnown plan name s) (frame_runs plan name no_raw) memories steps in record {
      len_is = λ turn. let piece = piece_of_copy turn known.receives in sym (ap (λ entry. length (bytes_of entry)) piece.there ∙ piece.size);
      fits = λ joined idle below. elim known.receives.has [
        | inl has ↦
            let most = (SizesOf plan name).most in
            let next = next_within most 0 [] (s.lane.sent ++ known.coming) s.lane.got (let e = length-append s.lane.sent known.coming in omega (arith, e, below)) known.within known.begun.whole in
            let some : length (rest_after [] (take s.lane.got s.lane.sent)) + length (bytes_of (slice_index_or s.lane.sent s.lane.got GoesDown)) ≤ most =
            subst (λ entry. length (rest_after [] (take s.lane.got s.lane.sent)) + length (bytes_of entry) ≤ most) (get_or_append_left s.lane.sent known.coming GoesDown s.lane.got below)
            (subst (λ xs. length (rest_after [] xs) + length (bytes_of (slice_index_or (s.lane.sent ++ known.coming) s.lane.got GoesDown)) ≤ most)
            (take-append-le s.lane.got s.lane.sent known.coming known.receives.within) next) in
            subst (λ bytes. length bytes + length (bytes_of (slice_index_or s.lane.sent s.lane.got GoesDown)) ≤ most) (sym (has.between (idle-not_copying s.lane.phase idle))) some
        | inr forgot ↦ absurd (both_ways (has_bit s.receiver.joined name.queue) forgot.not_joined joined)
      ];
    }

-- On an ordinary pair no more entries of a lane were given back than were begun.
pub freed_were_begun : FreedWereBegun
freed_were_begun plan memories steps pair from queue no_raw =
    let lane : LaneName = record { pair = pair; from = from; queue = queue } in
    let known = always_after plan lane (EntriesKnown plan lane) (entries_run plan lane no_raw) memories steps in
    freed-begun queue (sight from queue (ledger_of plan memories steps pair)) known.room.chain known.room.waits known.room.takes
