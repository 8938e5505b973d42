-- Lists in which each item has a fact about those before it.
use Rattle.std.proofs.Common.{◌≡◌, ℕ, ◌⊎◌, List, [], ◌∷◌, ◌++◌, sym, subst, inl, inr, append_assoc, append-nil, Contains}
use Rattle.read_path.specs.InFlight.{PathFlying, Write, Request, Part, Last}
use Rattle.read_path.specs.Pushed.{Sent}

-- each item of a list, which stands after others, has a fact about all before it
abbrev pub AllAhead : (List Sent → Sent → Type 0) → List Sent → List Sent → Type 0
AllAhead P before [] = Unit {0}
AllAhead P before (x ∷ xs) = P before x × AllAhead P (before ++ x ∷ []) xs

-- what stands after an item and others
step_over : (before xs : List Sent) (x : Sent) → (before ++ x ∷ []) ++ xs ≡ before ++ x ∷ xs
step_over before xs x = append_assoc before (x ∷ []) xs

-- Items of two joined lists have facts about all before them, if the second's have theirs after the first list.
pub ahead_append : (P : List Sent → Sent → Type 0) (before xs ys : List Sent) → AllAhead P before xs → AllAhead P (before ++ xs) ys → AllAhead P before (xs ++ ys)
ahead_append P before [] ys has more = subst (λ b. AllAhead P b ys) (append-nil before) more
ahead_append P before (x ∷ xs) ys has more =
    (has.0, ahead_append P (before ++ x ∷ []) xs ys has.1 (subst (λ b. AllAhead P b ys) (sym (step_over before xs x)) more))

-- If one fact implies another, a list whose items have the first about those before them has the second too.
pub ahead_map : (P Q : List Sent → Sent → Type 0) → ((b : List Sent) (x : Sent) → P b x → Q b x) → (before xs : List Sent) → AllAhead P before xs → AllAhead Q before xs
ahead_map P Q weaker before [] has = tt
ahead_map P Q weaker before (x ∷ xs) has = (weaker before x has.0, ahead_map P Q weaker (before ++ x ∷ []) xs has.1)

-- the fact of the item at a place
pub ahead_at : (P : List Sent → Sent → Type 0) (before xs ys : List Sent) (x : Sent) → AllAhead P before (xs ++ x ∷ ys) → P (before ++ xs) x
ahead_at P before [] ys x has = subst (λ b. P b x) (sym (append-nil before)) has.0
ahead_at P before (z ∷ xs) ys x has = subst (λ b. P b x) (step_over before xs z) (ahead_at P (before ++ z ∷ []) xs ys x has.1)

-- those after an item that is taken out
ahead_after : (P Q : List Sent → Sent → Type 0) (x : Sent) → ((b c : List Sent) (z : Sent) → P (b ++ x ∷ c) z → Q (b ++ c) z)
    → (before c ys : List Sent) → AllAhead P (before ++ x ∷ c) ys → AllAhead Q (before ++ c) ys
ahead_after P Q x gone before c [] has = tt
ahead_after P Q x gone before c (y ∷ ys) has = (
  gone before c y has.0,
  subst (λ b. AllAhead Q b ys) (sym (append_assoc before c (y ∷ [])))
      (ahead_after P Q x gone before (c ++ y ∷ []) ys (subst (λ b. AllAhead P b ys) (append_assoc before (x ∷ c) (y ∷ [])) has.1)),
)

-- without one item the others have their facts, if the fact of each stays without that item before it
pub ahead_without : (P Q : List Sent → Sent → Type 0) (x : Sent) → ((b : List Sent) (z : Sent) → P b z → Q b z) → ((b c : List Sent) (z : Sent) → P (b ++ x ∷ c) z → Q (b ++ c) z)
    → (before xs ys : List Sent) → AllAhead P before (xs ++ x ∷ ys) → AllAhead Q before (xs ++ ys)
ahead_without P Q x weaker gone before [] ys has =
    subst (λ b. AllAhead Q b ys) (append-nil before) (ahead_after P Q x gone before [] ys has.1)
ahead_without P Q x weaker gone before (z ∷ xs) ys has = (weaker before z has.0, ahead_without P Q x weaker gone (before ++ z ∷ []) xs ys has.1)

-- Writes in flight

abbrev pub IsWrite : PathFlying → Type 0
IsWrite (Write at bytes relaxed) = Unit {0}
IsWrite (Request number at len) = ⊥
IsWrite (Part number part) = ⊥
IsWrite (Last number bytes) = ⊥

-- the write of this place is in flight
abbrev pub Flies : ℕ → List Sent → Type 0
Flies w [] = ⊥
Flies w (x ∷ xs) = ((x.place ≡ w) × IsWrite x.what) ⊎ Flies w xs

-- A write in flight in a list is in flight in that list with more after it.
pub flies_left : (w : ℕ) (xs ys : List Sent) → Flies w xs → Flies w (xs ++ ys)
flies_left w [] ys flies = absurd flies
flies_left w (x ∷ xs) ys (inl here) = inl here
flies_left w (x ∷ xs) ys (inr later) = inr (flies_left w xs ys later)

-- A write in flight in a list is in flight in that list with more before it.
pub flies_right : (w : ℕ) (xs ys : List Sent) → Flies w ys → Flies w (xs ++ ys)
flies_right w [] ys flies = flies
flies_right w (x ∷ xs) ys flies = inr (flies_right w xs ys flies)

-- it is in flight without this item, or is this item
pub flies_without : (w : ℕ) (x : Sent) (xs ys : List Sent) → Flies w (xs ++ x ∷ ys) → Flies w (xs ++ ys) ⊎ ((x.place ≡ w) × IsWrite x.what)
flies_without w x [] ys (inl here) = inr here
flies_without w x [] ys (inr later) = inl later
flies_without w x (z ∷ xs) ys (inl here) = inl (inl here)
flies_without w x (z ∷ xs) ys (inr later) = or_here (flies_without w x xs ys later) where
  or_here : Flies w (xs ++ ys) ⊎ ((x.place ≡ w) × IsWrite x.what) → Flies w (z ∷ (xs ++ ys)) ⊎ ((x.place ≡ w) × IsWrite x.what)
  or_here (inl flies) = inl (inr flies)
  or_here (inr is) = inr is

-- it landed, or is in flight among these
abbrev pub Waits : List ℕ → List Sent → ℕ → Type 0
Waits landed before w = Contains landed w ⊎ Flies w before
