-- The entries that wait for their header, and the slots that the mover has.
use Rattle.std.proofs.Common.{◌≡◌, ℕ, zero, suc, ◌+◌, ◌-◌, ◌%◌, ◌<◌, ◌≤◌, Bool, true, false, List, [], ◌∷◌, ◌++◌, length, drop, set, get_or, refl, sym, ap, ◌∙◌, arith, not, eqb, eq-eqb, ne_eqb, ◌≢◌, length-set, Some}
use Rattle.std.proofs.lemmas.List.{length_push}
use Rattle.atomic_table.specs.Table.{rest}
use Rattle.table_lane.specs.declared.parts.MovePart.{MovePart}
use Rattle.table_lane.specs.declared.parts.LaneView.{LaneView}
use Rattle.table_lane.specs.Views.{the_move, with_move}
use Rattle.table_lane.specs.Knowledge.{posted_loaded, frame_taken, header_stored, flag_stored}
use Rattle.std.specs.Prelude.{remove}
use Rattle.table_lane.specs.Rule.{Content, Sitter}
use Rattle.table_lane.specs.MoveChoice.{waiting}
use Rattle.table_lane.specs.EndFields.{slots_of, MovesWith}

-- one more entry is held
pub waiting-push : (n m : ℕ) (stored : List Bool) → m ≡ n + length stored → waiting n (stored ++ false ∷ []) ≡ waiting n stored ++ m ∷ []
waiting-push n m [] is = let same : n ≡ m = omega arith in ap (λ (k : ℕ). k ∷ []) same
waiting-push n m (true ∷ stored) is = waiting-push (suc n) m stored (omega arith)
waiting-push n m (false ∷ stored) is = ap (λ ns. n ∷ ns) (waiting-push (suc n) m stored (omega arith))

-- No more entries wait for their header than the mover holds.
pub waiting-length : (n : ℕ) (stored : List Bool) → length (waiting n stored) ≤ length stored
waiting-length n [] = omega arith
waiting-length n (true ∷ stored) = omega (arith, waiting-length (suc n) stored)
waiting-length n (false ∷ stored) = omega (arith, waiting-length (suc n) stored)

-- the k-th of them is held and waits, and leaves the list once its header is stored
pub waiting-store : (n k : ℕ) (stored : List Bool) → k < length (waiting n stored)
    → (j : ℕ) × (get_or (waiting n stored) k 0 ≡ n + j) × (j < length stored) × (get_or stored j false ≡ false) × (waiting n (set stored j true) ≡ remove (waiting n stored) k)
waiting-store n k [] below = absurd (omega arith)
waiting-store n k (true ∷ stored) below =
    let next = waiting-store (suc n) k stored below in
    (suc next.0, next.1 ∙ omega arith, omega (arith, next.2), next.3, next.4)
waiting-store n zero (false ∷ stored) below = (0, omega arith, omega arith, refl, refl)
waiting-store n (suc k) (false ∷ stored) below =
    let next = waiting-store (suc n) k stored (omega arith) in
    (suc next.0, next.1 ∙ omega arith, omega (arith, next.2), next.3, ap (λ ns. n ∷ ns) next.4)

-- those that wait have at least the first number
pub waiting-from : (n k : ℕ) (stored : List Bool) → k < length (waiting n stored) → n ≤ get_or (waiting n stored) k 0
waiting-from n k stored below = let w = waiting-store n k stored below in omega (arith, w.1)

-- one more slot is with the mover, after the others
pub slots-push : (N n m : ℕ) (frames : List (List ℕ)) (frame : List ℕ) → m ≡ n + length frames → slots_of N n (frames ++ frame ∷ []) ≡ slots_of N n frames ++ (m % N, Some frame) ∷ []
slots-push N n m [] frame is = let same : n ≡ m = omega arith in ap (λ (k : ℕ). (k % N, Some frame) ∷ []) same
slots-push N n m (f ∷ frames) frame is = ap (λ slots. (n % N, Some f) ∷ slots) (slots-push N (suc n) m frames frame (omega arith))

-- the first of a list with something in it
same_first : (xs : List ℕ) (d e : ℕ) → 0 < length xs → get_or xs 0 d ≡ get_or xs 0 e
same_first [] d e some = absurd (omega arith)
same_first (x ∷ xs) d e some = refl

same_item : (xs : List ℕ) (k d e : ℕ) → k < length xs → get_or xs k d ≡ get_or xs k e
same_item [] k d e below = absurd (omega arith)
same_item (x ∷ xs) zero d e below = refl
same_item (x ∷ xs) (suc k) d e below = same_item xs k d e (omega arith)

-- the header of the first held entry is stored just where another one is the first that waits
pub stored_by_first : (n first : ℕ) (stored : List Bool) → 0 < length (waiting n stored) → first ≡ get_or (waiting n stored) 0 first → not (eqb first n) ≡ get_or stored 0 false
stored_by_first n first [] some is = absurd (omega arith)
stored_by_first n first (false ∷ stored) some is = ap not (eq-eqb first n is)
stored_by_first n first (true ∷ stored) some is =
    let low : suc n ≤ get_or (waiting (suc n) stored) 0 0 = waiting-from (suc n) 0 stored some in
    let same = same_first (waiting (suc n) stored) first 0 some in
    let other : first ≢ n = λ e. omega arith in
    ap not (ne_eqb first n other)

module _ (N first next : ℕ) (waits : List ℕ) (me : Sitter) (h : MovesWith N first next waits me) where
  abbrev part : MovePart
  part = the_move me.0

  -- what a move needs of the entry that waits at place k
  pub waits_at : (k number : ℕ) → k < length (waiting part.flagged part.stored) → number ≡ get_or waits k number
      → (part.flagged ≤ number) × (number < part.flagged + length part.held) × (get_or part.stored (number - part.flagged) false ≡ false) × (waiting first (set part.stored (number - part.flagged) true) ≡ remove waits k)
      × (number ≡ get_or (waiting part.flagged part.stored) k 0)
  waits_at k number below is =
      let same : waiting part.flagged part.stored ≡ waits = ap (λ (n : ℕ). waiting n part.stored) h.flagged ∙ sym h.waiting_are in
      let at : number ≡ get_or (waiting part.flagged part.stored) k 0 = is ∙ ap (λ (ws : List ℕ). get_or ws k number) (sym same) ∙ same_item (waiting part.flagged part.stored) k number 0 below in
      let w = waiting-store part.flagged k part.stored below in
      let marks = h.marks in
      let place : number - part.flagged ≡ w.0 = omega (arith, w.1) in (
        omega (arith, w.1),
        omega (arith, w.1, w.2),
        ap (λ (j : ℕ). get_or part.stored j false) place ∙ w.3,
        ap (λ (n : ℕ). waiting n (set part.stored (number - part.flagged) true)) (sym h.flagged) ∙ ap (λ (j : ℕ). waiting part.flagged (set part.stored j true)) place ∙ w.4 ∙ ap (λ (ws : List ℕ). remove ws k) same,
        at,
      )

  -- such an entry is fewer than N after the first that is held
  pub waits_near : (k number : ℕ) → k < length (waiting part.flagged part.stored) → number ≡ get_or waits k number → (first ≤ number) × (number - first < N)
  waits_near k number below is =
      let at = waits_at k number below is in
      (omega (arith, at.0, h.flagged), omega (arith, at.1, at.0, h.flagged, h.few))

  -- a header is stored
  pub with_header : (k number : ℕ) → k < length (waiting part.flagged part.stored) → number ≡ get_or waits k number → MovesWith N first next (remove waits k) (with_move me.0 (header_stored part number), me.1)
  with_header k number below is =
      let at = waits_at k number below is in
      record {
        view = ap (λ (v : LaneView). with_move v (header_stored part number)) h.view;
        slots = h.slots;
        entries = h.entries;
        flagged = h.flagged;
        taken = h.taken;
        marks = length-set part.stored (number - part.flagged) true ∙ h.marks;
        waiting_are = sym at.3;
        few = h.few;
      }

  -- the first slot, if the header of the first held entry is stored
  pub first_slot : get_or part.stored 0 false ≡ true
      → (frame : List ℕ) × (me.1 ≡ (first % N, Some frame) ∷ rest me.1) × (part.held ≡ frame ∷ drop 1 part.held) × (part.stored ≡ true ∷ drop 1 part.stored)
  first_slot up = of_lists part.held part.stored h.marks h.slots up
    where
      of_lists : (held : List (List ℕ)) (stored : List Bool) → length stored ≡ length held → me.1 ≡ slots_of N first held → get_or stored 0 false ≡ true
          → (frame : List ℕ) × (me.1 ≡ (first % N, Some frame) ∷ rest me.1) × (held ≡ frame ∷ drop 1 held) × (stored ≡ true ∷ drop 1 stored)
      of_lists held [] same slots is = cc
      of_lists [] (b ∷ stored) same slots is = absurd (omega arith)
      of_lists (frame ∷ held) (b ∷ stored) same slots is = (frame, slots ∙ ap (λ (others : List (ℕ × Content)). (first % N, Some frame) ∷ others) (sym (ap rest slots)), refl, ap (λ (x : Bool). x ∷ stored) is)

  -- a flag is stored
  pub with_flag : get_or part.stored 0 false ≡ true → MovesWith N (first + 1) next waits (with_move me.0 (flag_stored part), rest me.1)
  with_flag up =
      let slot = first_slot up in
      let one : first + 1 ≡ suc first = omega arith in
      let long : length part.held ≡ suc (length (drop 1 part.held)) = ap length slot.2 in
      let long_marks : length part.stored ≡ suc (length (drop 1 part.stored)) = ap length slot.3 in
      let marks = h.marks in
      let taken = h.taken in
      let few = h.few in
      record {
        view = ap (λ (v : LaneView). with_move v (flag_stored part)) h.view;
        slots = ap rest (h.slots ∙ ap (slots_of N first) slot.2) ∙ ap (λ (n : ℕ). slots_of N n (drop 1 part.held)) (sym one);
        entries = h.entries;
        flagged = ap (λ (n : ℕ). n + 1) h.flagged;
        taken = omega arith;
        marks = omega arith;
        waiting_are = h.waiting_are ∙ ap (waiting first) slot.3 ∙ ap (λ (n : ℕ). waiting n (drop 1 part.stored)) (sym one);
        few = omega arith;
      }

  -- the posted header is loaded
  pub with_load : (found : ℕ) → MovesWith N first next waits (with_move me.0 (posted_loaded part found), me.1)
  with_load found = record {
    view = ap (λ (v : LaneView). with_move v (posted_loaded part found)) h.view;
    slots = h.slots;
    entries = h.entries;
    flagged = h.flagged;
    taken = h.taken;
    marks = h.marks;
    waiting_are = h.waiting_are;
    few = h.few;
  }

  -- a frame is taken, and its slot goes after the others
  pub with_frame : (found : ℕ) (frame : List ℕ) → length part.held + 2 ≤ N → MovesWith N first (next + 1) (waits ++ next ∷ []) (with_move me.0 (frame_taken (posted_loaded part found) frame), me.1 ++ (next % N, Some frame) ∷ [])
  with_frame found frame room =
      let more : length (part.held ++ frame ∷ []) ≡ length part.held + 1 = length_push part.held frame in
      let more_marks : length (part.stored ++ false ∷ []) ≡ length part.stored + 1 = length_push part.stored false in
      let marks = h.marks in
      let taken = h.taken in
      record {
        view = ap (λ (v : LaneView). with_move v (frame_taken (posted_loaded part found) frame)) h.view;
        slots = ap (λ (slots : List (ℕ × Content)). slots ++ (next % N, Some frame) ∷ []) h.slots ∙ sym (slots-push N first next part.held frame (sym h.taken));
        entries = h.entries;
        flagged = h.flagged;
        taken = omega arith;
        marks = omega arith;
        waiting_are = ap (λ (ws : List ℕ). ws ++ next ∷ []) h.waiting_are ∙ sym (waiting-push first next part.stored (omega arith));
        few = omega arith;
      }

  -- there is room for one more number that waits
  pub waits_few : length waits + 1 ≤ N
  waits_few =
      let same = ap length h.waiting_are in
      let marks = h.marks in
      omega (arith, waiting-length first part.stored, h.few)
