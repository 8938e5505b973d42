-- What holds of the value that a chain of tests gives, if it gives one.
use Rattle.std.proofs.Common.{◌≡◌, ℕ, Bool, true, false, cond, Option, Some, None, Result, Ok, Err, refl, subst}
use Rattle.script_words.specs.Before.{Given}
use Rattle.script_words.specs.StepLines.{or_unknown}
use Rattle.script_words.specs.Tests.{and_then, fault_if, found_or, at, within}
use Rattle.script_words.specs.declared.fault.Cause.{Cause}
use Rattle.script_words.specs.declared.fault.LineFault.{LineFault}

pub record Gives {X E : Type 0} (P : X → Type 0) (result : Result X E) : Type 0 where
  pub holds : (x : X) → result ≡ Ok x → P x

-- a value, and a fault
pub gives_ok : {X E : Type 0} (P : X → Type 0) (x : X) → P x → Gives {E = E} P (Ok x)
gives_ok P x p = record { holds = λ y e. let same : x ≡ y = cc in subst P same p }

-- A fault gives no value, so any property holds of every value that it gives.
pub gives_fault : {X E : Type 0} (P : X → Type 0) (error : E) → Gives P (Err error)
gives_fault P error = record { holds = λ y e. cc e }

-- one part after another
pub gives_then : {X Y E : Type 0} {P : X → Type 0} (Q : Y → Type 0) (first : Result X E) (next : X → Result Y E) → Gives P first → ((x : X) → P x → Gives Q (next x))
    → Gives Q (and_then first next)
unfolding and_then
gives_then Q (Ok x) next h k = k x (h.holds x refl)
gives_then Q (Err fault) next h k = record { holds = λ y e. cc e }

-- a test that has to fail
pub gives_passed : {E : Type 0} (test : Bool) (fault : E) → Gives (λ _. test ≡ false) (fault_if test fault)
gives_passed true fault = record { holds = λ y e. cc e }
gives_passed false fault = record { holds = λ y e. refl }

-- what a word gives, in its place
pub gives_at : {X : Type 0} (P : X → Type 0) (n : ℕ) (result : Result X Cause) → Gives P result → Gives P (at n result)
gives_at P n (Ok x) h = gives_ok P x (h.holds x refl)
gives_at P n (Err cause) h = record { holds = λ y e. cc e }

-- What holds of a result's value still holds where its fault is told with its word and the range wanted.
pub gives_within : {X : Type 0} (P : X → Type 0) (n least most : ℕ) (result : Result X Cause) → Gives P result → Gives P (within n least most result)
gives_within P n least most (Ok x) h = gives_ok P x (h.holds x refl)
gives_within P n least most (Err cause) h = record { holds = λ y e. cc e }

-- what there is
pub gives_found : {X : Type 0} (option : Option X) (cause : Cause) → Gives (λ x. option ≡ Some x) (found_or option cause)
gives_found (Some x) cause = record { holds = λ y e. let same : x ≡ y = cc in rw same refl }
gives_found None cause = record { holds = λ y e. cc e }

-- any value
pub gives_any : {X E : Type 0} (result : Result X E) → Gives (λ x. Unit {0}) result
gives_any result = record { holds = λ x e. tt }

-- one of two
pub gives_if : {X E : Type 0} (P : X → Type 0) (test : Bool) (one other : Result X E) → Gives P one → Gives P other → Gives P (cond test one other)
gives_if P true one other h k = h
gives_if P false one other h k = k

-- the line of a word that is known
pub gives_known : {X : Type 0} (P : Given → Type 0) (option : Option X) (line : X → Result Given LineFault) → ((x : X) → option ≡ Some x → Gives P (line x)) → Gives P (or_unknown option line)
gives_known P (Some x) line h = h x refl
gives_known P None line h = record { holds = λ y e. cc e }

-- What holds of the value that a word means, if it means one.
pub record Means {X : Type 0} (P : X → Type 0) (option : Option X) : Type 0 where
  pub holds : (x : X) → option ≡ Some x → P x

-- a word and those after it
pub means_one : {X : Type 0} (P : X → Type 0) (test : Bool) (x : X) (rest : Option X) → P x → Means P rest → Means P (cond test (Some x) rest)
means_one P true x rest p others = record { holds = λ y e. let same : x ≡ y = cc in subst P same p }
means_one P false x rest p others = others

-- Any other word means nothing, so any property holds of what it means.
pub means_none : {X : Type 0} (P : X → Type 0) → Means P None
means_none P = record { holds = λ y e. cc e }
