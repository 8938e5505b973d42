-- What holds of the devices that words name as ports.
use Rattle.std.proofs.Common.{◌≡◌, ℕ, ◌+◌, ◌<◌, ◌==◌, true, false, ◌||◌, inl, inr, List, [], ◌∷◌, ◌++◌, length, get_or, sym, subst, arith}
use Rattle.std.proofs.lemmas.Bool.{both_ways, eq-eqb, eqb-true, or_cases, or_parts}
use Rattle.std.proofs.lemmas.List.{append_assoc, append-nil, length-append}
use Rattle.std.proofs.lemmas.List.Elements.{All-append, All-cons, All-nil, All-push, Contains-append_left, Contains-append_right}
use Rattle.std.proofs.lemmas.List.Folds.{Any-from_list_any}
use Rattle.std.proofs.lemmas.List.Quantifiers.{all_pairs_push}
use Rattle.std.specs.List.{All, AllPairs, Contains, list_any}
use Rattle.step_kinds.specs.declared.plan.SwitchPlan.{SwitchPlan}
use Rattle.pair_model.specs.Plans.{ports_in}
use Rattle.script_words.specs.Before.{Before}
use Rattle.script_words.specs.Ports.{is_among, is_port, port_place, script_with_port, ports_from}
use Rattle.script_words.specs.Tests.{fault_at}
use Rattle.script_words.specs.declared.fault.Cause.TheVariants.{Repeated}
use Rattle.script_text.proofs.Fits.{AddsPorts}
use Rattle.script_text.proofs.Gives.{Gives, gives_ok, gives_then, gives_passed, gives_at}
use Rattle.script_text.proofs.WordFacts.{dev_declared}

-- Devices that are none of the ports

none_among : (devs : List ℕ) (dev : ℕ) → is_among devs dev ≡ false → All (λ other. other ≡ dev → ⊥) devs
none_among [] dev e = All-nil (λ other. other ≡ dev → ⊥)
none_among (first ∷ devs) dev e =
    let parts = or_parts (first == dev) (is_among devs dev) e in
    All-cons (λ other. other ≡ dev → ⊥) first devs (λ same. both_ways (first == dev) parts.0 (eq-eqb first dev same)) (none_among devs dev parts.1)

none_port : (switches : List SwitchPlan) (dev : ℕ) → list_any (λ switch. is_among switch.ports dev) switches ≡ false → All (λ other. other ≡ dev → ⊥) (ports_in switches)
none_port [] dev e = All-nil (λ other. other ≡ dev → ⊥)
none_port (switch ∷ switches) dev e =
    let parts = or_parts (is_among switch.ports dev) (list_any (λ other. is_among other.ports dev) switches) e in
    All-append (λ other. other ≡ dev → ⊥) switch.ports (ports_in switches) (none_among switch.ports dev parts.0) (none_port switches dev parts.1)

-- and one that is

is_there : (devs : List ℕ) (dev : ℕ) → is_among devs dev ≡ true → Contains devs dev
is_there devs dev e =
    let (k, other, within, at, same) = Any-from_list_any (λ other. other == dev) devs e in
    let is : other ≡ dev = eqb-true other dev same in
    (k, within, subst (λ d. get_or devs k d ≡ d) is at)

-- A device that the test finds among the ports of some switch stands in the list of all switches' ports.
pub port_is_there : (switches : List SwitchPlan) (dev : ℕ) → list_any (λ switch. is_among switch.ports dev) switches ≡ true → Contains (ports_in switches) dev
port_is_there [] dev e = cc e
port_is_there (switch ∷ switches) dev e = elim (or_cases (is_among switch.ports dev) (list_any (λ other. is_among other.ports dev) switches) e) [
  | inl here ↦ Contains-append_left switch.ports (ports_in switches) dev (is_there switch.ports dev here)
  | inr later ↦ Contains-append_right switch.ports (ports_in switches) dev (port_is_there switches dev later)
]

-- The ports that words name

one_more : (before : Before) (devs : List ℕ) (word : List ℕ) → AddsPorts before devs → Gives (λ more. AddsPorts before more × (length more ≡ length devs + 1)) (script_with_port before devs word)
one_more before devs word adds =
    let apart : ℕ → ℕ → Type 0 = λ one other. one ≡ other → ⊥ in
    let ports = ports_in before.plan.switches in
    gives_then _ _ _ (gives_at _ (port_place devs) _ (dev_declared before word)) (λ dev lt.
    gives_then _ _ _ (gives_passed (is_port before dev || is_among devs dev) (fault_at (port_place devs) Repeated)) (λ _ e.
    let parts = or_parts (is_port before dev) (is_among devs dev) e in
    let news : All (λ other. other ≡ dev → ⊥) (ports ++ devs) =
    All-append (λ other. other ≡ dev → ⊥) ports devs (none_port before.plan.switches dev parts.0) (none_among devs dev parts.1) in
    gives_ok _ (devs ++ dev ∷ []) (
      record {
        declared = All-push (λ d. d < length before.plan.devs) devs dev adds.declared lt;
        apart = subst (AllPairs apart) (append_assoc ports devs (dev ∷ [])) (all_pairs_push apart (ports ++ devs) dev adds.apart news);
      },
      length-append devs (dev ∷ []),
    )))

-- Further words for ports give one declared device each, none of which is a port yet or is named twice.
pub all_ports : (before : Before) (devs : List ℕ) (words : List (List ℕ)) → AddsPorts before devs
    → Gives (λ more. AddsPorts before more × (length more ≡ length devs + length words)) (ports_from before devs words)
all_ports before devs [] adds = gives_ok _ devs (adds, omega arith)
all_ports before devs (word ∷ words) adds =
    gives_then _ _ _ (one_more before devs word adds) (λ more h. record {
      holds = λ ports e. let rest = (all_ports before more words h.0).holds ports e in (rest.0, let long = h.1 in let longer = rest.1 in omega arith);
    })

-- before a line names its first port
pub no_ports : (before : Before) → AllPairs (λ one other. one ≡ other → ⊥) (ports_in before.plan.switches) → AddsPorts before []
no_ports before apart = record { declared = All-nil (λ d. d < length before.plan.devs); apart = subst (AllPairs (λ (one other : ℕ). one ≡ other → ⊥)) (sym (append-nil (ports_in before.plan.switches))) apart }

-- each of them is a declared device, whatever ports there are
one_declared : (before : Before) (devs : List ℕ) (word : List ℕ) → All (λ dev. dev < length before.plan.devs) devs
    → Gives (λ more. All (λ dev. dev < length before.plan.devs) more) (script_with_port before devs word)
one_declared before devs word all =
    gives_then _ _ _ (gives_at _ (port_place devs) _ (dev_declared before word)) (λ dev lt.
    gives_then _ _ _ (gives_passed (is_port before dev || is_among devs dev) (fault_at (port_place devs) Repeated)) (λ _ _.
    gives_ok _ (devs ++ dev ∷ []) (All-push (λ d. d < length before.plan.devs) devs dev all lt)))

-- The devices that words name as ports are all declared, if those named before them are.
pub all_declared : (before : Before) (devs : List ℕ) (words : List (List ℕ)) → All (λ dev. dev < length before.plan.devs) devs
    → Gives (λ more. All (λ dev. dev < length before.plan.devs) more) (ports_from before devs words)
all_declared before devs [] all = gives_ok _ devs all
all_declared before devs (word ∷ words) all = gives_then _ _ _ (one_declared before devs word all) (λ more h. all_declared before more words h)
