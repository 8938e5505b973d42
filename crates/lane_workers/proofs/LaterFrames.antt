-- What comes later follows what came before.
use Rattle.std.proofs.Common.{◌≡◌, ℕ, List, ◌++◌, length, take, drop, sym, ap, ◌∙◌, append_assoc}
use Rattle.std.proofs.lemmas.List.{take-append-drop}
use Rattle.std.proofs.Math.Seq.{take-append_seam, drop-append_seam}

begins_with : (first later : List (List ℕ)) → take (length first) later ≡ first → later ≡ first ++ drop (length first) later
begins_with first later begins = sym (take-append-drop (length first) later) ∙ ap (λ xs. xs ++ drop (length first) later) begins

-- of three lists, each the beginning of the next, the first is the beginning of the last. What the last has more than
-- the first is what the second has more, and then what the last has more than the second.
pub record IsLater (first next last : List (List ℕ)) : Type 0 where
  pub begins : take (length first) last ≡ first
  pub came : drop (length first) last ≡ drop (length first) next ++ drop (length next) last

-- Where a list of frames begins a second, and that a third, the third is the first and then both growths in order.
pub is_later : (first next last : List (List ℕ)) → take (length first) next ≡ first → take (length next) last ≡ next → IsLater first next last
is_later first next last begins goes_on =
    let one : List (List ℕ) = drop (length first) next in
    let two : List (List ℕ) = drop (length next) last in
    let whole : last ≡ first ++ (one ++ two) = begins_with next last goes_on ∙ ap (λ xs. xs ++ two) (begins_with first next begins) ∙ append_assoc first one two in
    record {
      begins = ap (λ xs. take (length first) xs) whole ∙ take-append_seam first (one ++ two);
      came = ap (λ xs. drop (length first) xs) whole ∙ drop-append_seam first (one ++ two);
    }

-- frames that were put after others as they came are all that came, in order
pub got_later : (first next last before got now : List (List ℕ)) → take (length first) next ≡ first → take (length next) last ≡ next → got ≡ before ++ drop (length first) next → now ≡ got ++ drop (length next) last
    → now ≡ before ++ drop (length first) last
got_later first next last before got now begins goes_on got_is now_is =
    now_is ∙ ap (λ xs. xs ++ drop (length next) last) got_is ∙ append_assoc before (drop (length first) next) (drop (length next) last) ∙ sym (ap (λ xs. before ++ xs) (is_later first next last begins goes_on).came)
