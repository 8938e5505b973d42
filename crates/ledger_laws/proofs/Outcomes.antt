-- The result of a step that may be refused: its first refusal, or its answer and the new pair.
use Rattle.pair_model.specs.Link.{refused_where}
use Rattle.pair_model.specs.declared.LinkRefusal.{LinkRefusal}
use Rattle.std.proofs.Common.{◌≡◌, Bool, true, false, Option, Some, None, refl}
use Rattle.step_kinds.specs.declared.steps.Answer.{Answer}
use Rattle.ledger_model.specs.Ledger.{PairPart}
use Rattle.ledger_model.specs.Outcome.{Outcome, refuse_if, decided}

-- a property of the refusal, if there is one
pub data Each (P : Answer → Type 0) : Option Answer → Type 0 where
  Nothing : Each P None
  Just : {refusal : Answer} → P refusal → Each P (Some refusal)

-- What holds of a test's refusal, and of what later tests refuse, holds of the first refusal among them.
pub each_if : (P : Answer → Type 0) (b : Bool) (refusal : Answer) (later : Option Answer) → P refusal → Each P later → Each P (refuse_if b refusal later)
each_if P true refusal later first rest = Just first
each_if P false refusal later first rest = rest

-- What holds of a step's refusal, if there is one, and of its answer holds of what the step is answered.
pub each_decided : (P : Answer → Type 0) (old : PairPart) (refusal : Option Answer) (answer : Answer) (new : PairPart)
    → Each P refusal → P answer → P (decided old refusal answer new).answer
each_decided P old refusal answer new Nothing made = made
each_decided P old refusal answer new (Just refused) made = refused

-- what a step leaves as it was, whether it is refused or not
pub decided_same : {X : Type 0} (f : PairPart → X) (old : PairPart) (refusal : Option Answer) (answer : Answer) (new : PairPart)
    → f new ≡ f old → f (decided old refusal answer new).after ≡ f old
decided_same f old None answer new e = e
decided_same f old (Some refusal) answer new e = refl

-- the two cases of a step: refused with one of its refusals, or made
pub decided_cases : (P : Outcome → Type 0) (Q : Answer → Type 0) (old : PairPart) (refusal : Option Answer) (answer : Answer) (new : PairPart)
    → Each Q refusal
    → ((r : Answer) → Q r → P (record { answer = r; after = old }))
    → (refusal ≡ None → P (record { answer = answer; after = new }))
    → P (decided old refusal answer new)
decided_cases P Q old refusal answer new Nothing refused made = made refl
decided_cases P Q old refusal answer new (Just {refusal = r} q) refused made = refused r q

-- a step that is made passed its first test
pub passed : (b : Bool) (refusal : Answer) (later : Option Answer) → refuse_if b refusal later ≡ None → (b ≡ false) × (later ≡ None)
passed true refusal later e = absurd (cc)
passed false refusal later e = (refl, e)

-- the same of a refusal of the link
pub refused_passed : (b : Bool) (refusal : LinkRefusal) (later : Option LinkRefusal) → refused_where b refusal later ≡ None → (b ≡ false) × (later ≡ None)
refused_passed true refusal later e = absurd (cc)
refused_passed false refusal later e = (refl, e)
