-- The list in flight, as its entries come and go.
use Rattle.std.proofs.Common.{◌≡◌, ℕ, zero, suc, ◌+◌, ◌<◌, ◌≤◌, Bool, true, false, List, [], ◌∷◌, ◌++◌, length, drop, set, get_or, refl, sym, ap, ◌∙◌, append_assoc, length-drop, arith, if◌then◌else◌}
use Rattle.table_lane.specs.LaneNames.{Entry, GoesDown, Write, Flag, Bell, data_of, writes_of}
use Rattle.table_lane.specs.ShownLane.{table_in_flight}

-- the fields of an entry, if its header is not stored
abbrev fields_left : ℕ → List Bool → Entry → List Write
fields_left n stored entry = if get_or stored 0 false then [] else data_of n entry

-- an entry is sent
pub in_flight-send : (n m : ℕ) (stored : List Bool) (entries : List Entry) (entry : Entry) → length stored ≤ length entries → m ≡ n + length entries
    → table_in_flight n stored (entries ++ entry ∷ []) ≡ table_in_flight n stored entries ++ writes_of m entry
in_flight-send n m [] [] entry small is = let same : n ≡ m = omega arith in ap (λ k. writes_of k entry) same
in_flight-send n m (s ∷ stored) [] entry small is = absurd (omega arith)
in_flight-send n m stored (x ∷ entries) entry small is =
    let next = in_flight-send (suc n) m (drop 1 stored) entries entry (omega (arith, length-drop 1 stored)) (omega arith) in
    ap (λ w. fields_left n stored x ++ Flag n ∷ Bell ∷ w) next
    ∙ sym (append_assoc (fields_left n stored x) (Flag n ∷ Bell ∷ table_in_flight (suc n) (drop 1 stored) entries) (writes_of m entry))

-- an entry is taken, whose header is still to be stored
pub in_flight-take : (n : ℕ) (stored : List Bool) (entries : List Entry) → table_in_flight n (stored ++ false ∷ []) entries ≡ table_in_flight n stored entries
in_flight-take n stored [] = refl
in_flight-take n [] (x ∷ entries) = refl
in_flight-take n (s ∷ stored) (x ∷ entries) = ap (λ w. fields_left n (s ∷ stored) x ++ Flag n ∷ Bell ∷ w) (in_flight-take (suc n) stored entries)

-- the header of an entry is stored: its fields leave the list
pub in_flight-store : (n j m : ℕ) (stored : List Bool) (entries : List Entry) → j < length stored → j < length entries → m ≡ n + j → get_or stored j false ≡ false
    → (before : List Write) × (behind : List Write) × (table_in_flight n stored entries ≡ before ++ (data_of m (get_or entries j GoesDown) ++ behind)) × (table_in_flight n (set stored j true) entries ≡ before ++ behind)
in_flight-store n j m [] entries low below is left = absurd (omega arith)
in_flight-store n j m (s ∷ stored) [] low below is left = absurd (omega arith)
in_flight-store n zero m (s ∷ stored) (x ∷ entries) low below is left =
    let same : n ≡ m = omega arith in
    let behind : List Write = Flag n ∷ Bell ∷ table_in_flight (suc n) stored entries in
    ([], behind, ap (λ b. (if b then [] else data_of n x) ++ behind) left ∙ ap (λ k. data_of k x ++ behind) same, refl)
in_flight-store n (suc j) m (s ∷ stored) (x ∷ entries) low below is left =
    let next = in_flight-store (suc n) j m stored entries (omega arith) (omega arith) (omega arith) left in
    let front : List Write = fields_left n (s ∷ stored) x in (
      front ++ Flag n ∷ Bell ∷ next.0,
      next.1,
      ap (λ w. front ++ Flag n ∷ Bell ∷ w) next.2 ∙ sym (append_assoc front (Flag n ∷ Bell ∷ next.0) _),
      ap (λ w. front ++ Flag n ∷ Bell ∷ w) next.3 ∙ sym (append_assoc front (Flag n ∷ Bell ∷ next.0) next.1),
    )
