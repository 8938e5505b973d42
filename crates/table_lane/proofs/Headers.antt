-- The header words of a ring, as headers and flags are stored.
use Rattle.std.proofs.Common.{◌≡◌, ◌≢◌, ℕ, zero, suc, ◌+◌, ◌-◌, ◌%◌, ◌<◌, ◌≤◌, Bool, true, false, List, [], ◌∷◌, ◌++◌, length, set, get_or, refl, sym, ap, ◌∙◌, inl, inr, arith, mod-lt, mod-eq_of_lt, get_or-set_same, get_or-set_other, if◌then◌else◌, nat_lt}
use native.Mathlib.Nat.{add-mod_right}
use Rattle.std.proofs.lemmas.Bool.{lt-ltb, le-ltb, cases_eq, cases_lt, cases_Bool, cond-true, cond-false}
use Rattle.table_lane.specs.Words.{table_header_of}
use Rattle.table_lane.specs.ShownLane.{header_stands, HeadersStand}
use Rattle.table_lane.proofs.LaneLaws.{other_number}

-- a header stands where its flag is stored, and else by its mark
stands_below : (flagged : ℕ) (stored : List Bool) (n : ℕ) → n < flagged → header_stands flagged stored n ≡ true
stands_below flagged stored n low = cond-true (nat_lt n flagged) _ _ (lt-ltb n flagged low)

stands_marked : (flagged : ℕ) (stored : List Bool) (n : ℕ) → flagged ≤ n → header_stands flagged stored n ≡ get_or stored (n - flagged) false
stands_marked flagged stored n high = cond-false (nat_lt n flagged) _ _ (le-ltb n flagged high)

-- no mark is set past the end
marks_within : (stored : List Bool) (i : ℕ) → get_or stored i false ≡ true → i < length stored
marks_within [] i e = cc
marks_within (b ∷ stored) zero e = omega arith
marks_within (b ∷ stored) (suc i) e = omega (arith, marks_within stored i e)

-- the headers that stand are of entries below the first that the mover hasn't taken
stands_within : (flagged : ℕ) (stored : List Bool) (n : ℕ) → header_stands flagged stored n ≡ true → n < flagged + length stored
stands_within flagged stored n stands = elim (cases_lt n flagged) [
  | inl low ↦ omega arith
  | inr high ↦ let within = marks_within stored (n - flagged) (sym (stands_marked flagged stored n high) ∙ stands) in omega arith
]

-- those that don't stand aren't flagged
none_below : (flagged : ℕ) (stored : List Bool) (n : ℕ) → header_stands flagged stored n ≡ false → flagged ≤ n
none_below flagged stored n none = elim (cases_lt n flagged) [
  | inl low ↦ let stands = stands_below flagged stored n low in cc
  | inr high ↦ high
]

-- an entry is taken, whose header is still to be stored
taken_mark : (stored : List Bool) (i : ℕ) → get_or (stored ++ false ∷ []) i false ≡ get_or stored i false
taken_mark [] zero = refl
taken_mark [] (suc i) = refl
taken_mark (b ∷ stored) zero = refl
taken_mark (b ∷ stored) (suc i) = taken_mark stored i

stands_after_take : (flagged : ℕ) (stored : List Bool) (n : ℕ) → header_stands flagged (stored ++ false ∷ []) n ≡ header_stands flagged stored n
stands_after_take flagged stored n = ap (λ (b : Bool). if nat_lt n flagged then true else b) (taken_mark stored (n - flagged))

-- the flag of the first held entry is stored, whose header stands
stands_after_flag : (flagged : ℕ) (stored : List Bool) (n : ℕ) → header_stands (flagged + 1) stored n ≡ header_stands flagged (true ∷ stored) n
stands_after_flag flagged stored n = elim (cases_lt n flagged) [
  | inl low ↦ stands_below (flagged + 1) stored n (omega arith) ∙ sym (stands_below flagged (true ∷ stored) n low)
  | inr high ↦ elim (cases_eq n flagged) [
    | inl same ↦
        let first : n - flagged ≡ 0 = omega arith in
        stands_below (flagged + 1) stored n (omega arith) ∙ sym (stands_marked flagged (true ∷ stored) n high ∙ ap (λ (i : ℕ). get_or (true ∷ stored) i false) first)
    | inr other ↦
        let later : n - flagged ≡ suc (n - (flagged + 1)) = omega arith in
        stands_marked (flagged + 1) stored n (omega arith) ∙ sym (stands_marked flagged (true ∷ stored) n high ∙ ap (λ (i : ℕ). get_or (true ∷ stored) i false) later)
  ]
]

-- the header of one held entry is stored: it stands, and the others stand as before
stands_itself : (flagged j n : ℕ) (stored : List Bool) → n ≡ flagged + j → j < length stored → header_stands flagged (set stored j true) n ≡ true
stands_itself flagged j n stored is within =
    let mark : n - flagged ≡ j = omega arith in
    stands_marked flagged (set stored j true) n (omega arith) ∙ ap (λ (i : ℕ). get_or (set stored j true) i false) mark ∙ get_or-set_same stored j true false within

others_stand : (flagged j n : ℕ) (stored : List Bool) (k : ℕ) → n ≡ flagged + j → k ≢ n → header_stands flagged (set stored j true) k ≡ header_stands flagged stored k
others_stand flagged j n stored k is other = elim (cases_lt k flagged) [
  | inl low ↦ stands_below flagged (set stored j true) k low ∙ sym (stands_below flagged stored k low)
  | inr high ↦
      stands_marked flagged (set stored j true) k high
      ∙ get_or-set_other stored j (k - flagged) true false (λ e. other (omega arith))
      ∙ sym (stands_marked flagged stored k high)
]

-- as many headers stand after a step, and the words are as before
same_headers : (N : ℕ) (headers : List ℕ) (flagged next : ℕ) (stored after : List Bool) → ((n : ℕ) → header_stands next after n ≡ header_stands flagged stored n) → HeadersStand N headers flagged stored → HeadersStand N headers next after
same_headers N headers flagged next stored after same h = record {
  newest = λ n stands none. h.newest n (sym (same n) ∙ stands) (sym (same (n + N)) ∙ none);
  never = λ position below none. h.never position below (sym (same position) ∙ none);
}

-- Each header word is that of the newest stored entry at its position after the mover took an entry.
pub headers_taken : (N : ℕ) (headers : List ℕ) (flagged : ℕ) (stored : List Bool) → HeadersStand N headers flagged stored → HeadersStand N headers flagged (stored ++ false ∷ [])
headers_taken N headers flagged stored = same_headers N headers flagged flagged stored (stored ++ false ∷ []) (stands_after_take flagged stored)

-- It is so after the flag of the first held entry is stored, whose header stands.
pub headers_flagged : (N : ℕ) (headers : List ℕ) (flagged : ℕ) (stored : List Bool) → HeadersStand N headers flagged (true ∷ stored) → HeadersStand N headers (flagged + 1) stored
headers_flagged N headers flagged stored = same_headers N headers flagged (flagged + 1) (true ∷ stored) stored (stands_after_flag flagged stored)

-- entries of a ring that are newest at their positions are at different ones
apart : (N n k : ℕ) → k ≢ n → k + N ≢ n → k < n + N → n < k + N + N → k % N ≢ n % N
apart N n k other older near far e = elim (cases_lt n k) [
  | inl later ↦ other_number N n k later near e
  | inr earlier ↦ elim (cases_lt n (k + N)) [
    | inl below ↦ other_number N k n (omega arith) below (sym e)
    | inr past ↦ other_number N (k + N) n (omega arith) far (sym e ∙ sym (add-mod_right k N))
  ]
]

-- And it is so after the header of a held entry is stored.
pub header_stored : (N : ℕ) (headers : List ℕ) (flagged j n : ℕ) (stored : List Bool) → n ≡ flagged + j → j < length stored → length stored < N → length headers ≡ N → HeadersStand N headers flagged stored
    → HeadersStand N (set headers (n % N) (table_header_of n)) flagged (set stored j true)
header_stored N headers flagged j n stored is within few long h =
    let small : n % N < N = mod-lt n (omega arith) in
    let itself : header_stands flagged (set stored j true) n ≡ true = stands_itself flagged j n stored is within in
    let unlike : (k : ℕ) → header_stands flagged (set stored j true) k ≡ false → k ≢ n = λ k none e. let stands : header_stands flagged (set stored j true) k ≡ true = ap (header_stands flagged (set stored j true)) e ∙ itself in cc in
    record {
      newest = λ k stands none. elim (cases_eq k n) [
        | inl same ↦ ap (λ (i : ℕ). get_or (set headers (n % N) (table_header_of n)) (i % N) 0) same ∙ get_or-set_same headers (n % N) (table_header_of n) 0 (omega arith) ∙ ap table_header_of (sym same)
        | inr other ↦
            let older : k + N ≢ n = unlike (k + N) none in
            let stood : header_stands flagged stored k ≡ true = sym (others_stand flagged j n stored k is other) ∙ stands in
            let none_before : header_stands flagged stored (k + N) ≡ false = sym (others_stand flagged j n stored (k + N) is older) ∙ none in
            let high = stands_within flagged stored k stood in
            let low = none_below flagged stored (k + N) none_before in
            get_or-set_other headers (n % N) (k % N) (table_header_of n) 0 (apart N n k other older (omega arith) (omega arith)) ∙ h.newest k stood none_before
      ];
      never = λ position below none.
          let other : position ≢ n = unlike position none in
          let none_before : header_stands flagged stored position ≡ false = sym (others_stand flagged j n stored position is other) ∙ none in
          let low = none_below flagged stored position none_before in
          let at : position % N ≡ position = mod-eq_of_lt below in
          get_or-set_other headers (n % N) position (table_header_of n) 0 (λ e. apart N n position other (λ f. omega arith) (omega arith) (omega arith) (at ∙ e)) ∙ h.never position below none_before;
    }

-- the header of a flagged entry is whole, while the mover holds none of its position
pub header_whole : (N : ℕ) (headers : List ℕ) (flagged : ℕ) (stored : List Bool) (n : ℕ) → n < flagged → flagged + length stored ≤ n + N → HeadersStand N headers flagged stored → get_or headers (n % N) 0 ≡ table_header_of n
header_whole N headers flagged stored n low near h =
    h.newest n (stands_below flagged stored n low) (elim (cases_Bool (header_stands flagged stored (n + N))) [
      | inl stands ↦ let within = stands_within flagged stored (n + N) stands in absurd (omega arith)
      | inr none ↦ none
    ])

-- no header stands in a new table
pub no_headers : (N : ℕ) (headers : List ℕ) → ((position : ℕ) → position < N → get_or headers position 0 ≡ 0) → HeadersStand N headers 0 []
no_headers N headers zeros = record {
  newest = λ n stands none. let within = stands_within 0 [] n stands in absurd (omega arith);
  never = λ position below none. zeros position below;
}
