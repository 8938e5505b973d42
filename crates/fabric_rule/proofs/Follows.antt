-- What is owed of each step: its answer is the ledger's, and the pair after it represents one step more.
use Rattle.std.proofs.Common.{◌≡◌, ℕ, ◌==◌, true, false, List, ◌++◌, refl, sym, ap, ◌∙◌, subst, inl, inr}
use Rattle.std.specs.Prelude.{if◌then◌else◌}
use Rattle.std.proofs.lemmas.Bool.{eq-eqb, ne_eqb, cases_eq}
use Rattle.step_kinds.specs.Sides.{other_side}
use Rattle.step_kinds.specs.declared.names.Side.{Side}
use Rattle.step_kinds.specs.declared.names.Side.TheVariants.{A, B}
use Rattle.step_kinds.specs.declared.plan.DevPlan.{DevPlan}
use Rattle.step_kinds.specs.declared.plan.PairPlan.{PairPlan}
use Rattle.step_kinds.specs.declared.steps.Step.{Step}
use Rattle.pair_model.specs.Both.{Both, at_side}
use Rattle.ledger_model.specs.Ledger.{PairPart, updated}
use Rattle.ledger_model.specs.Next.{read_next}
use Rattle.ledger_model.specs.Outcome.{Outcome}
use Rattle.ledger_model.specs.Reading.{by_bytes}
use Rattle.ledger_model.specs.Memory.{Site, bytes_of_site, stores_by}
use Rattle.bridge_pair.specs.Bridge.{Bridge}
use Rattle.fabric_rule.specs.Parts.{PairState, QueuePart}
use Rattle.fabric_rule.specs.StandsFor.{PairStands, SideStandsIn, bridge_for}
use Rattle.fabric_rule.specs.Moves.{Move, move_of}

-- Sides

-- What holds of side A and of side B holds of each side.
pub by_side : (P : Side → Type 0) → P A → P B → (side : Side) → P side
by_side P a b A = a
by_side P a b B = b

-- of a side and its peer
pub by_end : (P : Side → Type 0) (side : Side) → P side → P (other_side side) → (s : Side) → P s
by_end P A own peer = by_side P own peer
by_end P B own peer = by_side P peer own

-- a bridge with these promises
abbrev pub with_promises : Bridge → Both (List ℕ) → Both ℕ → Bridge
with_promises bridge pages spare =
    record bridge {
      memories = record { a = record bridge.memories.a { promised = pages.a }; b = record bridge.memories.b { promised = pages.b } };
      flights = record { a = record bridge.flights.a { spare = spare.a }; b = record bridge.flights.b { spare = spare.b } };
    }

abbrev pub pages_in : Bridge → Both (List ℕ)
pages_in bridge = record { a = bridge.memories.a.promised; b = bridge.memories.b.promised }

abbrev pub spare_in : Bridge → Both ℕ
spare_in bridge = record { a = bridge.flights.a.spare; b = bridge.flights.b.spare }

-- what a fabric keeps of a site
abbrev pub state_for : PairPlan → Site → Both (List ℕ) → Both ℕ → Both (List QueuePart) → PairState
state_for plan site pages spare queues = record { bridge = with_promises (bridge_for plan site) pages spare; queues = queues }

-- a site after a step that came to this
abbrev pub site_made : PairPlan → Site → Step → Outcome → Site
site_made plan site step made =
    record {
      pair = made.after;
      stores = record { a = stores_by plan site.pair A step made.answer ++ site.stores.a; b = stores_by plan site.pair B step made.answer ++ site.stores.b };
    }

abbrev pub Follows : List DevPlan → PairPlan → ℕ → Site → Step → Outcome → Move → Type 0
Follows devs plan k site step made move = (move.answer ≡ made.answer) × PairStands devs plan k (site_made plan site step made) move.after

-- the outcome of a step by the bytes
abbrev pub made_by_bytes : List DevPlan → PairPlan → Site → Step → Outcome
made_by_bytes devs plan site step = read_next devs plan (by_bytes plan (bytes_of_site site) site.pair) (bytes_of_site site) site.pair step

abbrev pub AllSides : List DevPlan → PairPlan → ℕ → PairPart → Both (List QueuePart) → Type 0
AllSides devs plan k pair queues = (side : Side) → SideStandsIn devs plan k pair side (at_side queues side)

-- a state that represents a site is the site's
pub state_is : (devs : List DevPlan) (plan : PairPlan) (k : ℕ) (site : Site) (state : PairState) → PairStands devs plan k site state
    → state ≡ state_for plan site (pages_in state.bridge) (spare_in state.bridge) state.queues
state_is devs plan k site state h = ap (λ (bridge : Bridge). record { bridge = with_promises bridge (pages_in state.bridge) (spare_in state.bridge); queues = state.queues }) h.bridge

-- it is enough to show a step of that state
pub follows_if : (devs : List DevPlan) (plan : PairPlan) (k : ℕ) (site : Site) (step : Step) (made : Outcome) (state : PairState) → PairStands devs plan k site state
    → Follows devs plan k site step made (move_of devs (state_for plan site (pages_in state.bridge) (spare_in state.bridge) state.queues) step)
    → Follows devs plan k site step made (move_of devs state step)
follows_if devs plan k site step made state h follows = subst (λ (state : PairState). Follows devs plan k site step made (move_of devs state step)) (sym (state_is devs plan k site state h)) follows

-- Functions with another value at one number

-- Functions that have equal values everywhere are equal.
pub same_at : {X Y : Type 0} {f g : X → Y} → ((x : X) → f x ≡ g x) → f ≡ g
same_at h = λ i x. h x i

-- A function that was given a new value at a number has that value there.
pub updated_here : {X : Type 0} (f : ℕ → X) (k : ℕ) (x : X) → updated f k x k ≡ x
updated_here f k x = ap (λ b. if b then x else f k) (eq-eqb k k refl)

-- A function that was given a new value at one number has its old value at each other number.
pub updated_other : {X : Type 0} (f : ℕ → X) (k : ℕ) (x : X) (j : ℕ) → (j ≡ k → ⊥) → updated f k x j ≡ f j
updated_other f k x j other = ap (λ b. if b then x else f j) (ne_eqb j k other)

-- If a function's new value at a number reads as the old one there, all its values read as before.
pub updated_same : {X Y : Type 0} (g : X → Y) (f : ℕ → X) (k : ℕ) (x : X) → g x ≡ g (f k) → (j : ℕ) → g (updated f k x j) ≡ g (f j)
updated_same g f k x same j = elim (cases_eq j k) [
  | inl e ↦ ap (λ b. g (if b then x else f j)) (eq-eqb j k e) ∙ same ∙ ap (λ i. g (f i)) (sym e)
  | inr ne ↦ ap g (updated_other f k x j ne)
]

-- a field of a function with another value at one number
pub updated_field : {X Y : Type 0} (g : X → Y) (f : ℕ → X) (k : ℕ) (x : X) (j : ℕ) → g (updated f k x j) ≡ updated (λ i. g (f i)) k (g x) j
updated_field g f k x j = elim (j == k) as (λ b. g (if b then x else f j) ≡ (if b then g x else g (f j))) [ true ↦ refl | false ↦ refl ]

-- A function of three arguments has equal values at equal arguments.
pub three_same : {X Y Z W : Type 0} (f : X → Y → Z → W) {x x' : X} {y y' : Y} {z z' : Z} → x ≡ x' → y ≡ y' → z ≡ z' → f x y z ≡ f x' y' z'
three_same f p q r = λ i. f (p i) (q i) (r i)

-- A function of two arguments has equal values at equal arguments.
pub two_same : {X Y W : Type 0} (f : X → Y → W) {x x' : X} {y y' : Y} → x ≡ x' → y ≡ y' → f x y ≡ f x' y'
two_same f p q = λ i. f (p i) (q i)
