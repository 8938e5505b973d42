-- Bridges that differ in promised pages alone.
use Rattle.std.proofs.Common.{◌≡◌, ◌∙◌, ℕ, true, Contains, List, Result, Ok, Err, OnErr, refl, sym, ap, subst}
use Rattle.step_kinds.specs.declared.names.Side.{Side}
use Rattle.step_kinds.specs.declared.names.Side.TheVariants.{A, B}
use Rattle.bridge_pair.specs.Bridge.{Bridge, pages_of, with_pages}
use Rattle.bridge_pair.specs.Writes.{PostedWrite}
use Rattle.hand_shake.specs.Checks.{after_check_answer, after_check, check_answer}
use Rattle.hand_shake.specs.Offers.{with_posted}
use Rattle.hand_shake.specs.declared.CheckAnswer.{CheckAnswer}
use Rattle.hand_shake.specs.declared.CheckAnswer.TheVariants.{Up}
use Rattle.pair_model.specs.Link.{is_up}
use Rattle.fabric_core.specs.Promises.{HasMorePages, with_promised}
use Rattle.fabric_rule.specs.Turns.{posted_aside}

-- A fact that holds anyway holds where a result is an error.
pub on_err : {X E : Type 0} {P : Type 0} (result : Result X E) → P → OnErr result P
on_err (Ok x) p = tt
on_err (Err e) p = p

-- A bridge in which one side's promised pages alone changed, and none was lost, differs in further pages alone.
pub more_pages : (old new : Bridge) (side : Side) → new ≡ with_pages old side (pages_of new side)
    → ((page : ℕ) → Contains (pages_of old side) page → Contains (pages_of new side) page) → HasMorePages old new
more_pages old new A is stay =
    let other : new.memories.b.promised ≡ old.memories.b.promised = ap (λ (bridge : Bridge). bridge.memories.b.promised) is in
    record {
      rest = is ∙ ap (λ pages. with_promised old new.memories.a.promised pages) (sym other);
      stay = at_side;
    } where
      at_side : (side : Side) (page : ℕ) → Contains (pages_of old side) page → Contains (pages_of new side) page
      at_side A page had = stay page had
      at_side B page had = subst (λ pages. Contains pages page) (sym (ap (λ (bridge : Bridge). bridge.memories.b.promised) is)) had
more_pages old new B is stay =
    let other : new.memories.a.promised ≡ old.memories.a.promised = ap (λ (bridge : Bridge). bridge.memories.a.promised) is in
    record {
      rest = is ∙ ap (λ pages. with_promised old pages new.memories.b.promised) (sym other);
      stay = at_side;
    } where
      at_side : (side : Side) (page : ℕ) → Contains (pages_of old side) page → Contains (pages_of new side) page
      at_side A page had = subst (λ pages. Contains pages page) (sym (ap (λ (bridge : Bridge). bridge.memories.a.promised) is)) had
      at_side B page had = stay page had

-- a post leaves the pages, and depends on none
posted-promised : (bridge : Bridge) (side : Side) (write : PostedWrite) (a b : List ℕ) → with_posted (with_promised bridge a b) side write ≡ with_promised (with_posted bridge side write) a b
posted-promised bridge A write a b = refl
posted-promised bridge B write a b = refl

posted-pages : (bridge : Bridge) (side any : Side) (write : PostedWrite) → pages_of (with_posted bridge side write) any ≡ pages_of bridge any
posted-pages bridge A any write = refl
posted-pages bridge B any write = refl

-- If the link is up, further pages promised before a post are all that differs from the post without them.
pub posted_more : (old mid new : Bridge) (side : Side) (write : PostedWrite) → is_up old.link.state ≡ true → HasMorePages old mid → new ≡ with_posted mid side write
    → HasMorePages (posted_aside old side write) new
posted_more old mid new side write up more is =
    let pages = λ (any : Side). ap (λ (bridge : Bridge). pages_of bridge any) is ∙ posted-pages mid side any write in
    let up_is : posted_aside old side write ≡ with_posted old side write = rw up refl in
    subst (λ (before : Bridge). HasMorePages before new) (sym up_is)
    (record {
      rest = is ∙ ap (λ (bridge : Bridge). with_posted bridge side write) more.rest
          ∙ posted-promised old side write mid.memories.a.promised mid.memories.b.promised
          ∙ ap (λ a. with_promised (with_posted old side write) a mid.memories.b.promised) (sym (pages A))
          ∙ ap (λ b. with_promised (with_posted old side write) new.memories.a.promised b) (sym (pages B));
      stay = λ any page had.
          subst (λ pages. Contains pages page) (sym (pages any)) (more.stay any page (subst (λ pages. Contains pages page) (posted-pages old side any write) had));
    })

checked-pages : (bridge : Bridge) (side : Side) (answer : CheckAnswer) → pages_of (after_check_answer bridge side answer) side ≡ pages_of bridge side
checked-pages bridge A Up = refl
checked-pages bridge B Up = refl
checked-pages bridge side answer = refl

-- A bridge as a check leaves it, but for pages of that side, none of them lost, differs in further pages alone.
pub checked_more : (old new : Bridge) (side : Side) → new ≡ with_pages (after_check old side) side (pages_of new side)
    → ((page : ℕ) → Contains (pages_of old side) page → Contains (pages_of new side) page) → HasMorePages (after_check old side) new
checked_more old new side is stay =
    more_pages (after_check old side) new side is (λ page had. stay page (subst (λ pages. Contains pages page) (checked-pages old side (check_answer old side)) had))

-- a bridge has its own pages
pub same_pages : (bridge : Bridge) → HasMorePages bridge bridge
same_pages bridge = record { rest = refl; stay = λ any page had. had }
