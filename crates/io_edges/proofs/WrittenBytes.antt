-- What a sink holds part way through a list of bytes.
use Rattle.std.proofs.Common.{◌≡◌, ◌∙◌, ap, sym, subst, refl, ℕ, ◌+◌, ◌-◌, ◌<◌, ◌≤◌, List, [], ◌++◌, length, take, drop, Option, Ok, Err, Some, None, append_assoc, arith, length-append, length-drop}
use Rattle.std.proofs.lemmas.List.{take-append-drop, append-nil, take_all}
use Rattle.std.proofs.Math.Seq.{take-append_seam}
use Rattle.io_edges.specs.Streams.{Writes}
use Rattle.io_edges.specs.Whole.{HoldsAll, HoldsPart, HoldsPartAtWrites}

-- a front of the bytes stands after what was held, and the rest is still to be written
pub record WrittenSoFar (before now : Option (List ℕ)) (bytes rest : List ℕ) : Type 0 where
  pub front : List ℕ
  pub split : bytes ≡ front ++ rest
  pub held : HoldsAll before now front

holds_none : (before : Option (List ℕ)) → HoldsAll before before []
holds_none None = refl
holds_none (Some xs) = ap Some (sym (append-nil xs))

holds_more : (E : Type 0) (before now later : Option (List ℕ)) (front rest : List ℕ) (count : ℕ)
    → HoldsAll before now front → Writes {E = E} now later (Ok count) rest → HoldsAll before later (front ++ take count rest)
holds_more E None now later front rest count h w =
    let P : Option (List ℕ) → Type 0 = λ o. Writes {E = E} o later (Ok count) rest in subst P h w
holds_more E (Some xs) now later front rest count h w =
    let P : Option (List ℕ) → Type 0 = λ o. Writes {E = E} o later (Ok count) rest in
    subst P h w ∙ ap Some (append_assoc xs front (take count rest))

holds_same : (E : Type 0) (before now later : Option (List ℕ)) (front rest : List ℕ) (e : E)
    → HoldsAll before now front → Writes {E = E} now later (Err e) rest → HoldsAll before later front
holds_same E None now later front rest e h w =
    let P : Option (List ℕ) → Type 0 = λ o. Writes {E = E} o later (Err e) rest in subst P h w
holds_same E (Some xs) now later front rest e h w =
    let P : Option (List ℕ) → Type 0 = λ o. Writes {E = E} o later (Err e) rest in subst P h w

holds_part : (before now : Option (List ℕ)) (front rest : List ℕ)
    → HoldsAll before now front → 0 < length rest → HoldsPart before now (front ++ rest)
holds_part None now front rest h some = h
holds_part (Some xs) now front rest h some =
    (length front, omega (arith, length-append front rest), h ∙ ap (λ ys. Some (xs ++ ys)) (sym (take-append_seam front rest)))

-- nothing is written yet
pub written_none : (before : Option (List ℕ)) (bytes : List ℕ) → WrittenSoFar before before bytes bytes
written_none before bytes = record { front = []; split = refl; held = holds_none before }

-- the slice from there on is what is left
rest_of : (rest : List ℕ) (count : ℕ) → take (length rest - count) (drop count rest) ≡ drop count rest
rest_of rest count = take_all (length rest - count) (drop count rest) (omega (arith, length-drop count rest))

-- a write that took a byte or more leaves this many fewer
pub fewer_left : (rest : List ℕ) (count most writes writes' : ℕ) → count ≤ length rest → 0 < length rest → (0 < length rest → 0 < count) →
    writes' ≤ writes + 1 → writes + length rest ≤ most → writes' + length (take (length rest - count) (drop count rest)) ≤ most
fewer_left rest count most writes writes' bound some took one few =
    let left : length (take (length rest - count) (drop count rest)) ≡ length rest - count = ap length (rest_of rest count) ∙ length-drop count rest in
    let taken : 0 < count = took some in
    omega arith

-- a write took some bytes
pub written_more : (E : Type 0) (before now later : Option (List ℕ)) (bytes rest : List ℕ) (count : ℕ)
    → WrittenSoFar before now bytes rest → Writes {E = E} now later (Ok count) rest → WrittenSoFar before later bytes (take (length rest - count) (drop count rest))
written_more E before now later bytes rest count so_far w =
    rw (rest_of rest count) (record {
      front = so_far.front ++ take count rest;
      split = so_far.split ∙ ap (λ ys. so_far.front ++ ys) (sym (take-append-drop count rest)) ∙ sym (append_assoc so_far.front (take count rest) (drop count rest));
      held = holds_more E before now later so_far.front rest count so_far.held w;
    })

-- a write failed
pub written_part : (E : Type 0) (before now later : Option (List ℕ)) (bytes rest : List ℕ) (e : E)
    → WrittenSoFar before now bytes rest → Writes {E = E} now later (Err e) rest → 0 < length rest → HoldsPart before later bytes
written_part E before now later bytes rest e so_far w some =
    let P : List ℕ → Type 0 = λ ys. HoldsPart before later ys in
    subst P (sym so_far.split) (holds_part before later so_far.front rest (holds_same E before now later so_far.front rest e so_far.held w) some)

-- the same, with the writes that were counted: as many as bytes were taken before, and the failed one
pub written_at_writes : (E : Type 0) (before now later : Option (List ℕ)) (bytes rest : List ℕ) (writes writes' : ℕ) (e : E)
    → WrittenSoFar before now bytes rest → Writes {E = E} now later (Err e) rest → 0 < length rest → writes' + length rest ≤ writes + length bytes + 1 →
    HoldsPartAtWrites before later bytes writes writes'
written_at_writes E before now later bytes rest writes writes' e so_far w some few =
    let seam : take (length so_far.front) (so_far.front ++ rest) ≡ so_far.front = take-append_seam so_far.front rest in
    let front : take (length so_far.front) bytes ≡ so_far.front = subst (λ (ys : List ℕ). take (length so_far.front) ys ≡ so_far.front) (sym so_far.split) seam in
    let all : length bytes ≡ length so_far.front + length rest = ap length so_far.split ∙ length-append so_far.front rest in
    (length so_far.front, omega arith, omega arith, subst (λ (ys : List ℕ). HoldsAll before later ys) (sym front) (holds_same E before now later so_far.front rest e so_far.held w))

-- all is written
pub written_all : {before now : Option (List ℕ)} {bytes rest : List ℕ}
    → WrittenSoFar before now bytes rest → rest ≡ [] → HoldsAll before now bytes
written_all {before = before} {now = now} {bytes = bytes} {rest = rest} so_far none =
    let P : List ℕ → Type 0 = λ ys. HoldsAll before now ys in
    subst P (sym (so_far.split ∙ ap (λ ys. so_far.front ++ ys) none ∙ append-nil so_far.front)) so_far.held
