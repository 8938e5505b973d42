-- Writes in front, and others after them.
use Rattle.std.proofs.Common.{◌≡◌, ℕ, ◌≤◌, ◌-◌, true, false, ◌||◌, List, ◌++◌, length, take, Option, Some, None, slice_get, sym, ap, ◌∙◌, arith}
use Rattle.std.specs.List.{remove}
use Rattle.std.specs.Option.{OnSome}
use Rattle.std.proofs.lemmas.Bool.{or_left}
use Rattle.std.proofs.lemmas.List.Edits.{remove-append_right}
use Rattle.order_rules.specs.Order.{Order}
use Rattle.posted_queue.specs.Rows.{is_held_back}
use Rattle.posted_queue.proofs.RowLemmas.{is_held_back-append, take-append_far}
use Rattle.posted_queue.proofs.LevelLemmas.{slice_get-append_far}

-- what holds a write back stands in front, or before it among the others
behind-is_held_back : {W : Type 0} (order : W → Order) (waits_for : Option ℕ) (front rest : List W) (place : ℕ) → length front ≤ place → is_held_back order waits_for (take place (front ++ rest)) ≡ (is_held_back order waits_for front || is_held_back order waits_for (take (place - length front) rest))
behind-is_held_back order waits_for front rest place far =
    ap (is_held_back order waits_for) (take-append_far front rest place far)
    ∙ is_held_back-append order waits_for front (take (place - length front) rest)

-- A write after the front is held back in the whole list where some write of the front holds it back.
pub behind-held : {W : Type 0} (order : W → Order) (waits_for : Option ℕ) (front rest : List W) (place : ℕ) → length front ≤ place → is_held_back order waits_for front ≡ true → is_held_back order waits_for (take place (front ++ rest)) ≡ true
behind-held order waits_for front rest place far held = behind-is_held_back order waits_for front rest place far ∙ or_left _ _ held

-- A write after the front that no write of the front holds back is held back just as among the rest.
pub behind-free : {W : Type 0} (order : W → Order) (waits_for : Option ℕ) (front rest : List W) (place : ℕ) → length front ≤ place → is_held_back order waits_for front ≡ false → is_held_back order waits_for (take place (front ++ rest)) ≡ is_held_back order waits_for (take (place - length front) rest)
behind-free order waits_for front rest place far free =
    behind-is_held_back order waits_for front rest place far
    ∙ ap (λ held. held || is_held_back order waits_for (take (place - length front) rest)) free

-- the write at a place after those in front
pub behind-slice_get : {W : Type 0} (front rest : List W) (place : ℕ) → length front ≤ place → slice_get (front ++ rest) place ≡ slice_get rest (place - length front)
behind-slice_get front rest place far = slice_get-append_far front rest place (place - length front) (omega arith)

-- is taken out of the others
pub behind-remove : {W : Type 0} (front rest : List W) (place : ℕ) → length front ≤ place → front ++ remove rest (place - length front) ≡ remove (front ++ rest) place
behind-remove front rest place far = sym (remove-append_right front rest (length front) place (omega arith) far)

-- what follows from what is so of an answer
pub on_some-then : {X P Q : Type 0} (answer : Option X) → OnSome answer P → (P → Q) → OnSome answer Q
on_some-then None so then = so
on_some-then (Some x) so then = then so
