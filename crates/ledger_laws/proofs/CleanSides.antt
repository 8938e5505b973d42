-- While the link is down, a side that is clean has nothing of a session, and a side that agreed to the next session is
-- clean.
use Rattle.std.proofs.Common.{◌≡◌, ℕ, Bool, true, false, List, [], refl, sym, ap, ◌∙◌, inl, inr}
use Rattle.std.specs.Prelude.{slice_get, replicate}
use Rattle.std.proofs.lemmas.Bool.{both_ways, false≢true, cases_Bool}
use Rattle.std.proofs.lemmas.Option.{none-some}
use Rattle.step_kinds.specs.declared.names.LaneName.{LaneName}
use Rattle.step_kinds.specs.declared.plan.Plan.{Plan}
use Rattle.step_kinds.specs.declared.steps.Label.{Label}
use Rattle.step_kinds.specs.declared.steps.Label.TheVariants.{Pad}
use Rattle.pair_model.specs.Link.{is_down}
use Rattle.ledger_model.specs.Log.{Answered}
use Rattle.pair_model.specs.declared.LinkState.{LinkState}
use Rattle.ledger_laws.proofs.AtStart.{up-not_down}
use Rattle.ledger_laws.proofs.InFlight.{EmptyOf}
use Rattle.step_kinds.specs.declared.names.Side.{Side}
use Rattle.step_kinds.specs.declared.plan.PairPlan.{PairPlan}
use Rattle.ledger_laws.proofs.walk.Sight.{Sight, End, Role, Sender, Receiver}
use Rattle.ledger_laws.proofs.walk.News.{News}
use Rattle.ledger_laws.proofs.walk.Turn.{MayLand, Turn, Enables, Trains, Breaks, Drops, Forgets, Offers, Checks, Readies, Joins, LandsPad}

pub record IsNew (up : Bool) (ready joined offered : ℕ) (pads : List ℕ) : Type 0 where
  pub not_up : up ≡ false
  pub none_ready : ready ≡ 0
  pub none_joined : joined ≡ 0
  pub none_offered : offered ≡ 0
  pub none_landed : pads ≡ replicate 16 0

-- while the link is down, a side that is clean has forgotten its session, and one that agreed is clean
pub record IsSettled (state : LinkState) (clean enabled up : Bool) (ready joined offered : ℕ) (pads : List ℕ) : Type 0 where
  pub new_once_clean : is_down state ≡ true → clean ≡ true → IsNew up ready joined offered pads
  pub clean_once_enabled : is_down state ≡ true → enabled ≡ true → clean ≡ true

abbrev pub SettledEnd : LinkState → End → Type 0
SettledEnd state own = IsSettled state own.clean own.enabled own.up own.ready own.joined own.offered own.pads

abbrev pub SettledOf : Sight → Type 0
SettledOf s = SettledEnd s.state s.sender × SettledEnd s.state s.receiver

-- While the link isn't down every side is settled, since that asks something of a down link alone.
pub settled_up : (state : LinkState) {clean enabled up : Bool} {ready joined offered : ℕ} {pads : List ℕ} → is_down state ≡ false
    → IsSettled state clean enabled up ready joined offered pads
settled_up state up = record { new_once_clean = λ down. absurd (both_ways (is_down state) up down); clean_once_enabled = λ down. absurd (both_ways (is_down state) up down) }

settled_agreed : (state : LinkState) (own : End) → own.clean ≡ true → SettledEnd state own → SettledEnd state (record own { enabled = true })
settled_agreed state own clean h = record { new_once_clean = h.new_once_clean; clean_once_enabled = λ down agreed. clean }

-- A clean side that isn't up and has nothing ready, joined, offered or landed is settled in any state of the link.
pub settled_new : (state : LinkState) (enabled : Bool) → IsSettled state true enabled false 0 0 0 (replicate 16 0)
settled_new state enabled = record { new_once_clean = λ down clean. record { not_up = refl; none_ready = refl; none_joined = refl; none_offered = refl; none_landed = refl }; clean_once_enabled = λ down agreed. refl }

settled_dropped : (state : LinkState) {up : Bool} {ready joined offered : ℕ} {pads : List ℕ} → IsSettled state false false up ready joined offered pads
settled_dropped state = record { new_once_clean = λ down clean. absurd (false≢true clean); clean_once_enabled = λ down agreed. absurd (false≢true agreed) }

-- on a link with a write in flight
pub not_down_with : (s : Sight) {own : PairPlan} {side : Side} (e : Role) (place : ℕ) (label : Label) → EmptyOf s → MayLand own side s e place label → is_down s.state ≡ false
not_down_with s e place label empty may = elim (cases_Bool (is_down s.state)) [ inl down ↦ absurd (nothing e may (empty down)) | inr up ↦ up ]
  where
    nothing : {own : PairPlan} {side : Side} (e : Role) → MayLand own side s e place label → (s.sender.flight ≡ []) × (s.receiver.flight ≡ []) → ⊥
    nothing Sender may none = none-some label (ap (λ flight. slice_get flight place) (sym none.0) ∙ may.there)
    nothing Receiver may none = none-some label (ap (λ flight. slice_get flight place) (sym none.1) ∙ may.there)

-- Each turn keeps it so that on a down link a clean side has nothing of a session and an enabled side is clean.
pub settled_kept : (plan : Plan) (lane : LaneName) (s : Sight) (made : Answered) (news : News) (t : Sight) → Turn plan lane s made news t → EmptyOf s → SettledOf s → SettledOf t
settled_kept plan lane s made news t (Enables Sender may) empty h = (settled_agreed s.state s.sender may.clean h.0, h.1)
settled_kept plan lane s made news t (Enables Receiver may) empty h = (h.0, settled_agreed s.state s.receiver may.clean h.1)
settled_kept plan lane s made news t (Trains may) empty h = (settled_up _ refl, settled_up _ refl)
settled_kept plan lane s made news t (Breaks may) empty h = (settled_up _ refl, settled_up _ refl)
settled_kept plan lane s made news t (Drops may) empty h = (settled_dropped _, settled_dropped _)
settled_kept plan lane s made news t (Forgets Sender may) empty h = (settled_new _ _, h.1)
settled_kept plan lane s made news t (Forgets Receiver may) empty h = (h.0, settled_new _ _)
settled_kept plan lane s made news t (Offers e label may) empty h = let up = up-not_down s.state may.up in (settled_up _ up, settled_up _ up)
settled_kept plan lane s made news t (Checks e may) empty h = let up = up-not_down s.state may.up in (settled_up _ up, settled_up _ up)
settled_kept plan lane s made news t (Readies e queue may) empty h = let up = up-not_down s.state may.up in (settled_up _ up, settled_up _ up)
settled_kept plan lane s made news t (Joins e queue may) empty h = let up = up-not_down s.state may.up in (settled_up _ up, settled_up _ up)
settled_kept plan lane s made news t (LandsPad e place i value may) empty h = let up = not_down_with s e place (Pad i value) empty may in (settled_up _ up, settled_up _ up)
settled_kept plan lane s made news t turn empty h = h
