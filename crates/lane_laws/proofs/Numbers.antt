-- Remainders, the free entries of a ring, and numbers counted one after another.
use Rattle.std.proofs.Common.{◌≡◌, ℕ, zero, suc, ◌+◌, ◌-◌, ◌%◌, ◌<◌, ◌≤◌, ◌≢◌, ◌⊎◌, List, [], ◌∷◌, ◌++◌, sym, ap, ◌∙◌, inl, inr, arith, mod-eq_of_lt, mod-lt}
use native.Mathlib.Nat.{mod-eq-sub-mod, mod-add-mod, add-mod_right}
use Rattle.std.proofs.lemmas.Bool.{cases_lt, cond-true, cond-false, le-leb, lt-leb}
use Rattle.lane_model.specs.Ring.{head_of, tail_of, free_entries, room_of}
use Rattle.lane_model.specs.Lane.{count_from}
pub use Rattle.lane_model.proofs.Facade.{length-count_from, get_or-count_from}

-- a number below 2 N wraps once at most
wraps_once : (N j : ℕ) → j < N + N → ((j < N) × (j % N ≡ j)) ⊎ ((N ≤ j) × (j % N ≡ j - N))
wraps_once N j below = elim (cases_lt j N) [
  | inl low ↦ inl (low, mod-eq_of_lt low)
  | inr high ↦ inr (high, mod-eq-sub-mod high ∙ mod-eq_of_lt (omega arith))
]

-- the remainder some steps on
pub steps_on : (N a d : ℕ) → d < N → ((a % N + d < N) × ((a + d) % N ≡ a % N + d)) ⊎ ((N ≤ a % N + d) × ((a + d) % N ≡ a % N + d - N))
steps_on N a d below =
    let small : a % N < N = mod-lt a (omega arith) in
    let e : (a % N + d) % N ≡ (a + d) % N = mod-add-mod a N d in
    elim (wraps_once N (a % N + d) (omega arith)) [
      | inl w ↦ inl (w.0, sym e ∙ w.1)
      | inr w ↦ inr (w.0, sym e ∙ w.1)
    ]

-- two numbers less than N apart with one remainder are equal
pub same_number : (N a b : ℕ) → a ≤ b → b < a + N → a % N ≡ b % N → a ≡ b
same_number N a b low high e =
    let f : (a + (b - a)) % N ≡ b % N = ap (λ j. j % N) (omega arith) in
    let small : a % N < N = mod-lt a (omega arith) in
    elim (steps_on N a (b - a) (omega arith)) [
      | inl w ↦ omega arith
      | inr w ↦ omega arith
    ]

-- so different ones have different remainders
pub other_number : (N a b : ℕ) → a < b → b < a + N → b % N ≢ a % N
other_number N a b low high e =
    let same : a ≡ b = same_number N a b (omega arith) high (sym e) in
    omega arith

free_below : (N head tail : ℕ) → head ≤ tail → free_entries N head tail ≡ tail - head
free_below N head tail low = cond-true _ _ _ (le-leb head tail low)

free_above : (N head tail : ℕ) → tail < head → free_entries N head tail ≡ N + tail - head
free_above N head tail high = cond-false _ _ _ (lt-leb head tail high)

-- head and index word show the entries that are free
pub free_is_room : (N begun freed : ℕ) → 2 ≤ N → freed ≤ begun → begun + 1 ≤ freed + N → free_entries N (head_of N begun) (tail_of N freed) ≡ room_of N begun freed
free_is_room N begun freed two low high =
    let r : freed % N < N = mod-lt freed (omega arith) in
    let f : (freed + (begun - freed)) % N ≡ begun % N = ap (λ j. j % N) (omega arith) in
    let g : (freed + (N - 1)) % N ≡ (freed + N - 1) % N = ap (λ j. j % N) (omega arith) in
    elim (steps_on N freed (begun - freed) (omega arith)) [
      | inl w ↦ elim (steps_on N freed (N - 1) (omega arith)) [
        | inl v ↦ free_below N (head_of N begun) (tail_of N freed) (omega arith) ∙ omega arith
        | inr v ↦ free_above N (head_of N begun) (tail_of N freed) (omega arith) ∙ omega arith
      ]
      | inr w ↦ elim (steps_on N freed (N - 1) (omega arith)) [
        | inl v ↦ absurd (omega arith)
        | inr v ↦ free_below N (head_of N begun) (tail_of N freed) (omega arith) ∙ omega arith
      ]
    ]

-- the index word after one more entry was given back
pub tail_after : (N freed : ℕ) → 2 ≤ N → freed % N ≡ tail_of N (freed + 1)
tail_after N freed two = sym (ap (λ j. j % N) (omega arith) ∙ add-mod_right freed N)

-- the first number from `freed` on with the remainder of n is n
pub number_at : (N freed n : ℕ) → freed ≤ n → n < freed + N → freed + (n % N + N - freed % N) % N ≡ n
number_at N freed n low high =
    let r : freed % N < N = mod-lt freed (omega arith) in
    let f : (freed + (n - freed)) % N ≡ n % N = ap (λ j. j % N) (omega arith) in
    elim (steps_on N freed (n - freed) (omega arith)) [
      | inl w ↦
          let up : n % N + N - freed % N ≡ n - freed + N = omega arith in
          let back : (n % N + N - freed % N) % N ≡ n - freed = ap (λ j. j % N) up ∙ add-mod_right (n - freed) N ∙ mod-eq_of_lt (omega arith) in
          omega arith
      | inr w ↦
          let up : n % N + N - freed % N ≡ n - freed = omega arith in
          let back : (n % N + N - freed % N) % N ≡ n - freed = ap (λ j. j % N) up ∙ mod-eq_of_lt (omega arith) in
          omega arith
    ]

-- that number is within N of `freed` and has the remainder
pub number_from : (N freed slot : ℕ) → slot < N
    → (freed ≤ freed + (slot + N - freed % N) % N) × (freed + (slot + N - freed % N) % N < freed + N) × ((freed + (slot + N - freed % N) % N) % N ≡ slot)
number_from N freed slot below =
    let r : freed % N < N = mod-lt freed (omega arith) in
    let s : (slot + N - freed % N) % N < N = mod-lt (slot + N - freed % N) (omega arith) in (
      omega arith,
      omega arith,
      elim (wraps_once N (slot + N - freed % N) (omega arith)) [
        | inl w ↦ elim (steps_on N freed ((slot + N - freed % N) % N) s) [
          | inl v ↦ absurd (omega arith)
          | inr v ↦ v.1 ∙ omega arith
        ]
        | inr w ↦ elim (steps_on N freed ((slot + N - freed % N) % N) s) [
          | inl v ↦ v.1 ∙ omega arith
          | inr v ↦ absurd (omega arith)
        ]
      ],
    )

-- one more number at the end
pub count_from-push : (from more last : ℕ) → last ≡ from + more → count_from from more ++ last ∷ [] ≡ count_from from (suc more)
count_from-push from zero last e = ap (λ j. j ∷ []) (e ∙ omega arith)
count_from-push from (suc more) last e = ap (λ js. from ∷ js) (count_from-push (suc from) more last (e ∙ omega arith))

-- the first number, and the rest
pub count_from-first : (from more n : ℕ) (rest : List ℕ) → n ∷ rest ≡ count_from from more → (n ≡ from) × (0 < more) × (rest ≡ count_from (suc from) (more - 1))
count_from-first from zero n rest e = absurd (cc)
count_from-first from (suc more) n rest e = (let front : rest ≡ count_from (suc from) more = cc in (cc, omega arith, front ∙ ap (count_from (suc from)) (omega arith)))
