-- The pieces of a frame, joined, are the frame.
use Rattle.std.proofs.Common.{◌≡◌, ℕ, zero, suc, ◌+◌, ◌-◌, ◌*◌, ◌/◌, ◌<◌, ◌≤◌, ◌==◌, List, [], ◌∷◌, ◌++◌, length, map, take, drop, refl, sym, ap, ◌∙◌, subst, inl, inr, arith, append_assoc, mod-lt}
use Rattle.std.specs.Prelude.{max, min}
use Rattle.std.proofs.Math.Nat.{div-add-mod, mul-suc}
use Rattle.std.proofs.lemmas.Nat.{mul-le}
use Rattle.std.proofs.lemmas.Bool.{cases_eq, cond_both}
use Rattle.step_kinds.specs.declared.plan.PairPlan.{PairPlan}
use Rattle.ledger_laws.proofs.Frames.{frames_from, number_after, rest_after}
use Rattle.std.proofs.lemmas.List.{length-drop, drop-drop, take_all, take-append-drop}
use Rattle.lane_model.specs.Lane.{Entry, Carries, count_from}
use Rattle.ledger_model.specs.Pieces.{pieces_of}
use Rattle.pair_model.specs.Sizes.{agreed_version, most_bytes, pieces_in}

-- Joined, the pieces are the frame

pub record OneFrame (n : ℕ) (rest : List ℕ) (entries : List Entry) (bytes : List ℕ) : Type 0 where
  pub frames : frames_from n rest entries ≡ record { number = n; bytes = rest ++ bytes } ∷ []
  pub number : number_after n entries ≡ n + 1
  pub none_left : rest_after rest entries ≡ []

last_piece : (n : ℕ) (rest : List ℕ) (piece bytes : List ℕ) (left : ℕ) → left ≡ zero → piece ≡ bytes → OneFrame n rest (Carries piece left ∷ []) bytes
last_piece n rest piece bytes left none same =
    subst (λ l. OneFrame n rest (Carries piece l ∷ []) bytes) (sym none)
    (record { frames = ap (λ b. record { number = n; bytes = rest ++ b } ∷ []) same; number = refl; none_left = refl })

next_piece : (n : ℕ) (rest : List ℕ) (piece later bytes : List ℕ) (left more : ℕ) (entries : List Entry) → left ≡ suc more → piece ++ later ≡ bytes
    → OneFrame n (rest ++ piece) entries later → OneFrame n rest (Carries piece left ∷ entries) bytes
next_piece n rest piece later bytes left more entries some same h =
    subst (λ l. OneFrame n rest (Carries piece l ∷ entries) bytes) (sym some)
    (record {
      frames = h.frames ∙ ap (λ b. record { number = n; bytes = b } ∷ []) (append_assoc rest piece later ∙ ap (λ b. rest ++ b) same);
      number = h.number;
      none_left = h.none_left;
    })

one_more : (k : ℕ) → k + suc zero ≡ suc k
one_more k = omega arith

pieces_from : (largest : ℕ) (bytes : List ℕ) (all : ℕ) → length bytes ≤ largest * all → (more k n : ℕ) (rest : List ℕ) → k + suc more ≡ all
    → OneFrame n rest (map (λ j. Carries (take largest (drop (largest * j) bytes)) (all - 1 - j)) (count_from k (suc more))) (drop (largest * k) bytes)
pieces_from largest bytes all covered zero k n rest count =
    let next : largest * all ≡ largest * k + largest = ap (λ j. largest * j) (sym count ∙ one_more k) ∙ mul-suc largest k in
    let size = length-drop (largest * k) bytes in
    last_piece n rest (take largest (drop (largest * k) bytes)) (drop (largest * k) bytes) (all - 1 - k) (omega arith)
    (take_all largest (drop (largest * k) bytes) (omega (arith, size, next, covered)))
pieces_from largest bytes all covered (suc more) k n rest count =
    let piece = take largest (drop (largest * k) bytes) in
    let later = drop (largest * suc k) bytes in
    let behind : drop largest (drop (largest * k) bytes) ≡ later = drop-drop largest (largest * k) bytes ∙ ap (λ j. drop j bytes) (sym (mul-suc largest k)) in
    next_piece n rest piece later (drop (largest * k) bytes) (all - 1 - k) more _ (omega arith)
    (ap (λ b. piece ++ b) (sym behind) ∙ take-append-drop largest (drop (largest * k) bytes))
    (pieces_from largest bytes all covered more (suc k) n (rest ++ piece) (omega arith))

covered : (largest len : ℕ) → (largest ≡ 0 → len ≡ 0) → len ≤ largest * pieces_in largest len
covered largest len none = elim (cases_eq largest 0) [
  | inl z ↦ omega (arith, none z)
  | inr some ↦
      let more : 0 < largest = omega arith in
      let all = div-add-mod (len + largest - 1) largest in
      let small = mod-lt (len + largest - 1) more in
      let q = (len + largest - 1) / largest in
      let enough = mul-le largest q largest (max 1 q) (omega arith) (omega arith) in
      omega (arith, all, small, enough)
]

-- The pieces of a frame, joined, are that frame and no other, unless slots take no byte and the frame has some.
pub pieces_one_frame : (largest : ℕ) (bytes : List ℕ) (n : ℕ) → (largest ≡ 0 → length bytes ≡ 0) → OneFrame n [] (pieces_of largest bytes) bytes
pieces_one_frame largest bytes n none = go (pieces_in largest (length bytes)) (omega arith) (covered largest (length bytes) none)
  where
    go : (all : ℕ) → 0 < all → length bytes ≤ largest * all → OneFrame n [] (map (λ j. Carries (take largest (drop (largest * j) bytes)) (all - 1 - j)) (count_from 0 all)) bytes
    go zero some within = absurd (omega arith)
    go (suc more) some within =
        let nothing : largest * 0 ≡ 0 = omega arith in
        subst (OneFrame n [] (map (λ j. Carries (take largest (drop (largest * j) bytes)) (suc more - 1 - j)) (count_from 0 (suc more)))) (ap (λ j. drop j bytes) nothing)
        (pieces_from largest bytes (suc more) within more 0 n [] (omega arith))

-- a ring whose entries hold nothing takes no byte
pub no_byte_fits : (plan : PairPlan) (entries largest len : ℕ) → len ≤ most_bytes plan entries largest → largest ≡ 0 → len ≡ 0
no_byte_fits plan entries largest len =
    cond_both (agreed_version plan == 5) (min 65536 ((entries - 1) * largest)) largest (λ most. len ≤ most → largest ≡ 0 → len ≡ 0)
    (λ five fits z. let none : (entries - 1) * largest ≡ 0 = ap (λ k. (entries - 1) * k) z ∙ omega arith in omega (arith, none, fits)) (λ four fits z. omega arith)
