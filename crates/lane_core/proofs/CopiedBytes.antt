-- What a copying receiver reads, and what it has copied.
use Rattle.std.proofs.Common.{refl, ◌-◌, vec_capacity, length-take, ◌≡◌, ℕ, ◌+◌, ◌*◌, ◌<◌, ◌≤◌, Bool, true, false, IsTrue, List, ◌++◌, length, take, drop, sym, ap, ◌∙◌, inl, inr, arith, lt-ltb, le-ltb}
use Rattle.std.proofs.lemmas.Bool.{cases_lt, cond-true, cond-false, false≢true}
use Rattle.std.proofs.lemmas.List.{take-take, drop-take, take-append-drop, take_all}
use Rattle.lane_model.specs.Lane as model
use Rattle.lane_model.specs.Lane.{Lane, bytes_of, chunk_of, chunk_size, copies_of, entry_of, lane_slot_of}
use Rattle.lane_model.specs.Steps.{more_to_copy}
use Rattle.lane_model.specs.declared.Phase.{Phase}
use Rattle.lane_model.specs.declared.Phase.TheVariants.{Idle, Copying, Copied, Cleared}
use Rattle.lane_laws.proofs.Facade.{copy_sees}
use Rattle.lane_core.specs.Calls.{after_copying, core_copy_answer, is_copying}
use Rattle.lane_core.specs.Parts.{place_seen}
use Rattle.step_kinds.specs.declared.lanes.LaneCopy.TheVariants.{Whole, OutOfTurn}
use Rattle.lane_core.specs.LaneView.{IsCoreKept, lane_seen}
use Rattle.lane_core.specs.declared.lane.Lane.TheInside.{Inside}
use Rattle.lane_core.specs.declared.slot.Slot.{Slot}

-- two pieces of a list, one after the other
pub take_both : (n m : ℕ) (xs : List ℕ) → take n xs ++ take m (drop n xs) ≡ take (n + m) xs
take_both n m xs =
    let low : n ≤ n + m = omega arith in
    ap (λ front. front ++ take m (drop n xs)) (sym (take-take n (n + m) xs low))
    ∙ ap (λ behind. take n (take (n + m) xs) ++ behind) (sym (drop-take n m xs))
    ∙ take-append-drop n (take (n + m) xs)

-- the bytes of the entry that the receiver is at
abbrev pub bytes_at : Inside → List ℕ
bytes_at l = bytes_of (entry_of (lane_seen l) l.got)

-- what is known of a slot that is copied from, and of the bytes copied so far
pub record CopiesFrom (l : Inside) (place : Slot) (buffer : List ℕ) : Type 0 where
  pub len : place.len ≡ length (bytes_at l)
  pub copied : buffer ≡ take (chunk_size * l.part + chunk_size) (bytes_at l)
  pub small : length (bytes_at l) ≤ 65536

-- A copying receiver that appends the next chunk of its slot has copied its entry's bytes up to that chunk's end.
pub copies_from : (l : Inside) (place : Slot) (copied : List ℕ) → lane_slot_of (lane_seen l) l.got ≡ place_seen place → l.phase ≡ Copying → IsCoreKept l
    → copied ≡ l.copied.items ++ chunk_of (take place.len place.payload.items) l.part → CopiesFrom l place copied
copies_from l place copied here copying kept now =
    let lane = lane_seen l in
    let sees = copy_sees lane copying kept.law in
    let whole = sees.1 in
    let len : place.len ≡ length (bytes_at l) = sym (ap (λ (p : model.Slot). p.len) here) ∙ whole.len in
    let payload : take place.len place.payload.items ≡ bytes_at l =
    ap (λ n. take n place.payload.items) len ∙ ap (λ (p : model.Slot). take (length (bytes_at l)) p.payload) (sym here) ∙ whole.payload in
    let h = kept.law.2 in
    let fits = h.frames.fits l.got (omega (arith, sees.0, h.counts.flagged_first)) in
    record {
      len = len;
      copied = now
          ∙ ap (λ bytes. l.copied.items ++ chunk_of bytes l.part) payload
          ∙ ap (λ before. before ++ chunk_of (bytes_at l) l.part) (kept.buffers.items copying)
          ∙ take_both (chunk_size * l.part) chunk_size (bytes_at l);
      small = omega (arith, fits, kept.sending.small);
    }

-- more is left where another chunk begins within the bytes
pub more_left : (lane : Lane) → chunk_size * (lane.part + 1) < length (bytes_of (entry_of lane lane.got)) → more_to_copy lane ≡ true
more_left lane more = lt-ltb (lane.part + 1) _ (omega arith)

-- No further part is left to copy where the entry's bytes end with the part that is copied next.
pub none_left : (lane : Lane) → length (bytes_of (entry_of lane lane.got)) ≤ chunk_size * (lane.part + 1) → more_to_copy lane ≡ false
none_left lane all = le-ltb (lane.part + 1) _ (omega arith)

-- where no more is left, the whole entry was copied
pub record IsWhole (l : Inside) (bytes : List ℕ) : Type 0 where
  pub bytes_are : bytes ≡ bytes_at l
  pub small : length bytes ≤ 65536
  pub last : more_to_copy (lane_seen l) ≡ false

-- The bytes that a receiver has copied are the whole entry, at most 65,536 of them, once no further part is left.
pub is_whole : (l : Inside) (place : Slot) (buffer bytes : List ℕ) (more : Bool) → CopiesFrom l place buffer → bytes ≡ buffer
    → (chunk_size * (l.part + 1) < place.len → IsTrue more) → more ≡ false → IsWhole l bytes
is_whole l place buffer bytes more copies same when none =
    let all : length (bytes_at l) ≤ chunk_size * (l.part + 1) = elim (cases_lt (chunk_size * (l.part + 1)) place.len) [
      | inl left ↦ absurd (false≢true (sym none ∙ when left))
      | inr ended ↦ omega (arith, ended, copies.len)
    ] in
    let entry : bytes ≡ bytes_at l = same ∙ copies.copied ∙ take_all (chunk_size * l.part + chunk_size) (bytes_at l) (omega (arith, all)) in
    record { bytes_are = entry; small = omega (arith, ap length entry, copies.small); last = none_left (lane_seen l) all }

-- The model's lane answers a copy with the whole frame where a copying receiver has the whole of its entry.
pub answer_whole : (l : Inside) (bytes : List ℕ) → l.phase ≡ Copying → IsWhole l bytes → Whole l.got bytes ≡ core_copy_answer (lane_seen l)
answer_whole l bytes copying whole =
    ap (Whole l.got) whole.bytes_are
    ∙ sym (cond-true (is_copying l.phase) _ OutOfTurn (ap is_copying copying) ∙ cond-false (more_to_copy (lane_seen l)) _ _ whole.last)

-- a receiver that copies nothing answers so, and stays as it is
pub record StaysOutOfTurn (lane : Lane) : Type 0 where
  pub answer : core_copy_answer lane ≡ OutOfTurn
  pub after : after_copying lane ≡ lane

-- A copy is out of turn where the receiver is not copying.
pub not_copying_lane : (lane : Lane) → (lane.phase ≡ Copying → ⊥) → StaysOutOfTurn lane
not_copying_lane lane other = record {
  answer = cond-false (is_copying lane.phase) _ _ (not_now lane.phase other);
  after = cond-false (is_copying lane.phase) _ _ (not_now lane.phase other);
}
  where
    not_now : (phase : Phase) → (phase ≡ Copying → ⊥) → is_copying phase ≡ false
    not_now Idle h = refl
    not_now Copying h = absurd (h refl)
    not_now Copied h = refl
    not_now Cleared h = refl

-- the next part begins within the frame in the slot, which stands whole there, and has room after what was copied
pub record CanCopy (l : Inside) (place : Slot) : Type 0 where
  pub begins : chunk_size * l.part ≤ place.len
  pub stands : place.len ≤ length place.payload.items
  pub room : length l.copied.items + (place.len - chunk_size * l.part) ≤ vec_capacity l.copied

-- A copying receiver can copy the next part of the frame in its slot.
pub can_copy : (l : Inside) (place : Slot) → lane_slot_of (lane_seen l) l.got ≡ place_seen place → l.phase ≡ Copying → IsCoreKept l → CanCopy l place
can_copy l place here copying kept =
    let sees = copy_sees (lane_seen l) copying kept.law in
    let len : place.len ≡ length (bytes_at l) = sym (ap (λ (p : model.Slot). p.len) here) ∙ sees.1.len in
    let payload : take (length (bytes_at l)) place.payload.items ≡ bytes_at l = ap (λ (p : model.Slot). take (length (bytes_at l)) p.payload) (sym here) ∙ sees.1.payload in
    let whole : length (bytes_at l) ≤ length place.payload.items = omega (arith, length-take (length (bytes_at l)) place.payload.items, ap length payload) in
    let part : l.part < copies_of (entry_of (lane_seen l) l.got) = sees.2 in
    let copied = ap length (kept.buffers.items copying) in
    let most : length (bytes_at l) ≤ vec_capacity l.copied = kept.buffers.room copying in
    let begins : chunk_size * l.part ≤ place.len = omega (arith, len, part) in
    record {
      begins = begins;
      stands = omega (arith, len, whole);
      room = omega (arith, len, begins, most, copied, length-take (chunk_size * l.part) (bytes_at l));
    }
