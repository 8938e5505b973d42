-- Counts of frames by session, and sets of queues with one more.
use Rattle.std.proofs.Common.{◌≡◌, ℕ, ◌+◌, ◌==◌, Bool, true, false, List, [], ◌∷◌, refl, sym, ap, ◌∙◌, inl, inr, arith}
use Rattle.std.specs.Prelude.{if◌then◌else◌, ◌^◌, bit_or}
use Rattle.std.specs.Int.{bit_at}
use Rattle.std.proofs.lemmas.Bool.{cases_eq, eq-eqb, ne_eqb, eqb-true}
use Rattle.std.proofs.lemmas.Nat.Bits.{bit_at-lt, bit_at_or, bit_at-pow_other, bit_at-pow_same}
use Rattle.step_kinds.specs.Bits.{has_bit, with_bit}
use Rattle.ledger_model.specs.Ledger.{updated}
use Rattle.fabric_rule.proofs.Follows.{updated_field}
use Rattle.fabric_rule.specs.Parts.{SessionCount, count_in, one_more}

abbrev pub one_at : ℕ → ℕ → ℕ
one_at session other = if session == other then 1 else 0

-- One frame more in a session raises that session's count by one, and no other session's.
pub count-one_more : (counts : List SessionCount) (session other : ℕ) → count_in (one_more counts session) other ≡ count_in counts other + one_at session other
count-one_more [] session other = added (if session == other then 1 else 0)
  where
    added : (n : ℕ) → n + 0 ≡ 0 + n
    added n = omega arith
count-one_more (one ∷ counts) session other = by_session (one.session == session) refl (count-one_more counts session other)
  where
    grown : (b : Bool) (n r : ℕ) → (if b then n + 1 else 0) + r ≡ (if b then n else 0) + r + (if b then 1 else 0)
    grown true n r = omega arith
    grown false n r = omega arith

    further : (a b c : ℕ) → a + (b + c) ≡ a + b + c
    further a b c = omega arith

    by_session : (same : Bool) → (one.session == session) ≡ same → count_in (one_more counts session) other ≡ count_in counts other + one_at session other
        → count_in (if same then record { session = session; count = one.count + 1 } ∷ counts else one ∷ one_more counts session) other ≡ (if one.session == other then one.count else 0) + count_in counts other + one_at session other
    by_session true e later =
        grown (session == other) one.count (count_in counts other)
        ∙ ap (λ s. (if s == other then one.count else 0) + count_in counts other + one_at session other) (sym (eqb-true one.session session e))
    by_session false e later = ap (λ n. (if one.session == other then one.count else 0) + n) later ∙ further (if one.session == other then one.count else 0) (count_in counts other) (one_at session other)

-- the same of a function of sessions
pub updated-one_more : (f : ℕ → ℕ) (session other : ℕ) → updated f session (f session + 1) other ≡ f other + one_at session other
updated-one_more f session other = elim (cases_eq other session) [
  | inl e ↦
      ap (λ b. if b then f session + 1 else f other) (eq-eqb other session e)
      ∙ ap (λ n. f n + 1) (sym e) ∙ ap (λ b. f other + (if b then 1 else 0)) (sym (eq-eqb session other (sym e)))
  | inr ne ↦
      ap (λ b. if b then f session + 1 else f other) (ne_eqb other session ne)
      ∙ (let same : f other ≡ f other + 0 = omega arith in same) ∙ ap (λ b. f other + (if b then 1 else 0)) (sym (ne_eqb session other (λ e. ne (sym e))))
]

-- a session's count that represents what is read of tallies, with one more of both
pub counts_one_more : {X : Type 0} (g : X → ℕ) (counts : List SessionCount) (tallies : ℕ → X) (session : ℕ) (tally : X) → ((other : ℕ) → count_in counts other ≡ g (tallies other)) → g tally ≡ g (tallies session) + 1
    → (other : ℕ) → count_in (one_more counts session) other ≡ g (updated tallies session tally other)
counts_one_more g counts tallies session tally same more other =
    count-one_more counts session other ∙ ap (λ n. n + one_at session other) (same other)
    ∙ sym (updated_field g tallies session tally other ∙ ap (λ n. updated (λ s. g (tallies s)) session n other) more ∙ updated-one_more (λ s. g (tallies s)) session other)

-- one queue more

-- A number in which bit k was set has bit k.
pub has-with_same : (bits k : ℕ) → has_bit (with_bit bits k) k ≡ true
has-with_same bits k =
    eq-eqb (bit_at (bit_or bits (2 ^ k)) k) 1
    (let e = bit_at_or bits (2 ^ k) k in
    let one = bit_at-pow_same k in
    let small = bit_at-lt bits k in
    omega arith)

-- Setting bit k of a number leaves each of its other bits as it was.
pub has-with_other : (bits k j : ℕ) → (j ≡ k → ⊥) → has_bit (with_bit bits k) j ≡ has_bit bits j
has-with_other bits k j other = ap (λ n. n == 1) same
  where
    same : bit_at (bit_or bits (2 ^ k)) j ≡ bit_at bits j
    same = let e = bit_at_or bits (2 ^ k) j in let none = bit_at-pow_other k j other in omega (arith, e, none)
