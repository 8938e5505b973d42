-- An entry that is begun: its writes are left to post.
use Rattle.std.proofs.Common.{◌≡◌, ℕ, zero, suc, ◌+◌, ◌-◌, ◌*◌, ◌/◌, ◌%◌, ◌<◌, ◌≤◌, Bool, true, false, List, [], ◌∷◌, ◌++◌, length, map, max, take, drop, refl, sym, ap, ◌∙◌, subst, inl, inr, arith}
use Rattle.std.specs.Prelude.{if◌then◌else◌, nat_lt, slice_index_or}
use Rattle.std.specs.List.{AllByRecursion}
use Rattle.std.proofs.Math.Nat.{mod-eq_of_lt, mod-eq-sub-mod, mod-add-mod}
use Rattle.std.proofs.lemmas.Nat.{mod_below}
use Rattle.std.proofs.lemmas.Bool.{cases_lt, le-leb, lt-leb, ltb-true, ltb-false}
use Rattle.std.proofs.lemmas.List.{length-append, length-map, length-take, get_or_push}
use Rattle.step_kinds.specs.declared.names.Side.{Side}
use Rattle.step_kinds.specs.declared.plan.PairPlan.{PairPlan}
use Rattle.step_kinds.specs.declared.steps.Label.{Label}
use Rattle.lane_model.specs.Lane.{Entry, Carries, GoesDown, bytes_of, chunks_in, count_from}
use Rattle.lane_model.specs.declared.Field.TheVariants.{Chunk, Length, Version}
use Rattle.lane_model.specs.declared.Write.TheVariants.{Data, Flag, Bell}
use Rattle.lane_model.specs.Ring.{free_entries, head_of}
use Rattle.pair_model.specs.DeclaredPlans.{SizesFit}
use Rattle.pair_model.specs.Labels.{label_of, labels_of}
use Rattle.pair_model.specs.Pieces.{piece_of, pieces_of}
use Rattle.pair_model.specs.Sizes.{pieces_in}
use Rattle.pair_model.specs.Headers.{free_in_memory}
use Rattle.fabric_rule.specs.InPlace.{FitsSlot, IsLeftOf, IsWriteOf, SendingEnd, SendingInPlace, last_entry}

-- the labels of an entry's writes are of its writes
module _ (queue n : ℕ) (entry : Entry) where
  flags_of_entry : (entry : Entry) → IsWriteOf queue n entry (label_of queue entry (Flag n))
  flags_of_entry (Carries bytes left) = (refl, refl)
  flags_of_entry GoesDown = (refl, refl)

  chunks : (from count : ℕ) → from + count ≤ chunks_in (length (bytes_of entry))
      → AllByRecursion (IsWriteOf queue n entry) (map (label_of queue entry) ((map (λ part. Data n (Chunk part)) (count_from from count) ++ Data n Length ∷ Data n Version ∷ []) ++ Flag n ∷ Bell ∷ []))
  chunks from zero within = ((refl, refl), ((refl, refl), (flags_of_entry entry, (refl, tt))))
  chunks from (suc count) within = ((refl, refl, omega arith), chunks (suc from) count (omega arith))

  pub labels_are_writes : AllByRecursion (IsWriteOf queue n entry) (labels_of queue n entry)
  labels_are_writes = chunks 0 (chunks_in (length (bytes_of entry))) (omega arith)

-- what its sender has then
abbrev pub begun_end : ℕ → SendingEnd → Entry → List Entry → ℕ → SendingEnd
begun_end queue sends first others told = record { sent = sends.sent ++ first ∷ []; waiting = others; todo = labels_of queue (length sends.sent) first; told = told }

-- A list of entries is one longer once an entry was begun.
pub length-begun : (entries : List Entry) (first : Entry) → length (entries ++ first ∷ []) ≡ length entries + 1
length-begun entries first = length-append entries (first ∷ [])

-- The entry that a sender has just begun is the one that it began last.
pub last-begun : (queue : ℕ) (sends : SendingEnd) (first : Entry) (others : List Entry) (told : ℕ) → last_entry (begun_end queue sends first others told) ≡ first
last-begun queue sends first others told =
    ap (λ n. slice_index_or (sends.sent ++ first ∷ []) n GoesDown) (let l = length-begun sends.sent first in let e : length (sends.sent ++ first ∷ []) - 1 ≡ length sends.sent = omega (arith, l) in e)
    ∙ get_or_push sends.sent first GoesDown (length sends.sent) refl

-- If a pair's sizes fit, and an entry and those waiting fit a slot, a sender that begins it has all in place.
pub begun_in_place : (plan : PairPlan) (side : Side) (queue : ℕ) (sends : SendingEnd) (first : Entry) (others : List Entry) (told : ℕ) → SizesFit plan → FitsSlot plan side queue first → AllByRecursion (FitsSlot plan side queue) others
    → SendingInPlace plan side queue (begun_end queue sends first others told)
begun_in_place plan side queue sends first others told fits short all =
    record {
      todo = left (labels_of queue (length sends.sent) first) (labels_are_writes queue (length sends.sent) first);
      last = subst (FitsSlot plan side queue) (sym (last-begun queue sends first others told)) short;
      waiting = all;
      todo_fits = inr fits;
      waiting_fits = inr fits;
    }
  where
    count : length (sends.sent ++ first ∷ []) - 1 ≡ length sends.sent
    count = let l = length-begun sends.sent first in omega (arith, l)

    some : 0 < length (sends.sent ++ first ∷ [])
    some = let l = length-begun sends.sent first in omega (arith, l)

    one : (label : Label) → IsWriteOf queue (length sends.sent) first label → IsLeftOf queue (begun_end queue sends first others told) label
    one label own = (some, subst (λ n. IsWriteOf queue n (last_entry (begun_end queue sends first others told)) label) (sym count) (subst (λ entry. IsWriteOf queue (length sends.sent) entry label) (sym (last-begun queue sends first others told)) own))

    left : (labels : List Label) → AllByRecursion (IsWriteOf queue (length sends.sent) first) labels → AllByRecursion (IsLeftOf queue (begun_end queue sends first others told)) labels
    left [] all = tt
    left (label ∷ labels) all = (one label all.0, left labels all.1)

-- Pieces

-- A frame is cut into as many pieces as its length takes where each has the largest payload at most.
pub length-pieces : (largest : ℕ) (bytes : List ℕ) → length (pieces_of largest bytes) ≡ pieces_in largest (length bytes)
length-pieces largest bytes = length-map (count_from 0 (pieces_in largest (length bytes))) (piece_of largest bytes) ∙ counted 0 (pieces_in largest (length bytes))
  where
    counted : (from count : ℕ) → length (count_from from count) ≡ count
    counted from zero = refl
    counted from (suc count) = ap suc (counted (suc from) count)

-- Each piece of a frame has at most as many bytes as the largest payload.
pub pieces_fit : (largest : ℕ) (bytes : List ℕ) → AllByRecursion (λ entry. length (bytes_of entry) ≤ largest) (pieces_of largest bytes)
pieces_fit largest bytes = each 0 (pieces_in largest (length bytes))
  where
    short : (n : ℕ) → length (take largest (drop (largest * n) bytes)) ≤ largest
    short n = let e = length-take largest (drop (largest * n) bytes) in grind (arith, e)

    each : (from count : ℕ) → AllByRecursion (λ entry. length (bytes_of entry) ≤ largest) (map (piece_of largest bytes) (count_from from count))
    each from zero = tt
    each from (suc count) = (short from, each (suc from) count)

-- A frame of whatever length takes at least one piece.
pub some_pieces : (largest len : ℕ) → 1 ≤ pieces_in largest len
some_pieces largest len = at_least ((len + largest - 1) / largest)
  where
    at_least : (n : ℕ) → 1 ≤ max 1 n
    at_least n = grind arith

-- Room

-- what is free after this many entries were begun
free_step : (entries head more index : ℕ) → head < entries → index < entries → more ≤ free_entries entries head index → 1 ≤ more
    → free_entries entries ((head + more) % entries) index ≡ free_entries entries head index - more
free_step entries head more index p q room one = elim (cases_lt index head) [
  | inl behind ↦
      let left : more ≤ entries + index - head = rw (lt-leb head index behind) at room in
      elim (cases_lt (head + more) entries) [
        | inl r ↦ rw (mod-eq_of_lt r, lt-leb (head + more) index (omega arith), lt-leb head index behind) (omega arith)
        | inr r ↦
            let e : (head + more) % entries ≡ head + more - entries = mod-eq-sub-mod {n = head + more} {m = entries} r ∙ mod-eq_of_lt (omega arith) in
            rw (e, le-leb (head + more - entries) index (omega arith), lt-leb head index behind) (omega arith)
      ]
  | inr before ↦
      let left : more ≤ index - head = rw (le-leb head index before) at room in
      let r : head + more < entries = omega arith in
      rw (mod-eq_of_lt r, le-leb (head + more) index (omega arith), le-leb head index before) (omega arith)
]

free_then : (entries begun more index : ℕ) → index < entries → more ≤ free_entries entries (begun % entries) index → 1 ≤ more
    → free_entries entries ((begun + more) % entries) index ≡ free_entries entries (begun % entries) index - more
free_then entries begun more index small room one =
    ap (λ head. free_entries entries head index) (sym (mod-add-mod begun entries more)) ∙ free_step entries (begun % entries) more index (mod_below begun entries (omega arith)) small room one

-- Beginning one entry or more for which there is room leaves that many fewer free by head and index word.
pub free_less : (entries begun more index : ℕ) → nat_lt (free_in_memory entries (head_of entries begun) index) more ≡ false → 1 ≤ more
    → free_in_memory entries (head_of entries (begun + more)) index ≡ free_in_memory entries (head_of entries begun) index - more
free_less entries begun more index room one = at (nat_lt index entries) refl room
  where
    at : (small : Bool) → nat_lt index entries ≡ small → nat_lt (if small then free_entries entries (head_of entries begun) index else 0) more ≡ false
        → (if small then free_entries entries (head_of entries (begun + more)) index else 0) ≡ (if small then free_entries entries (head_of entries begun) index else 0) - more
    at true small room = free_then entries begun more index (ltb-true index entries small) (ltb-false (free_entries entries (head_of entries begun) index) more room) one
    at false small room = let none = ltb-false 0 more room in absurd (omega (arith, none, one))
