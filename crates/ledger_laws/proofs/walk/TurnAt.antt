-- The turn that a step of a pair is for a lane, if the pair after the step is seen as a sight in closed form.
use Rattle.std.proofs.Common.{◌≡◌, Bool, true, false, sym, ap, subst, inl, inr}
use Rattle.step_kinds.specs.declared.names.LaneName.{LaneName}
use Rattle.step_kinds.specs.declared.plan.Plan.{Plan}
use Rattle.step_kinds.specs.declared.steps.Answer.{Answer}
use Rattle.step_kinds.specs.declared.steps.Step.{Step}
use Rattle.ledger_model.specs.Ledger.{PairPart, lane_of}
use Rattle.ledger_model.specs.Outcome.{Outcome}
use Rattle.ledger_laws.proofs.walk.Cases.{Refused}
use Rattle.ledger_laws.proofs.walk.Sight.{Sight, sight}
use Rattle.ledger_laws.proofs.walk.Turn.{IsRaw, Turned, turned, Rests}
use Rattle.ledger_model.specs.Reading.{Reading, by_ledger}
use Rattle.pair_model.specs.Plans.{pair_plan}
use Rattle.step_kinds.specs.declared.names.Side.{Side}
use Rattle.step_kinds.specs.declared.steps.Label.{Label}
use Rattle.std.proofs.lemmas.Bool.{both_ways, cases_Bool}
use Rattle.ledger_laws.proofs.walk.Tells.{is_read, tells_no, is_look, unread-refused}

-- the step's outcome, seen from the lane
abbrev pub TurnAt : Plan → LaneName → PairPart → Step → Outcome → Type 0
TurnAt plan lane pair step o = Turned plan lane (sight lane.from lane.queue pair) (record { step = step; answer = o.answer }) (sight lane.from lane.queue o.after)

module _ (plan : Plan) (lane : LaneName) (pair : PairPart) where
  pub shown_as : (step : Step) (answer : Answer) (after : PairPart) (t : Sight) → sight lane.from lane.queue after ≡ t
      → Turned plan lane (sight lane.from lane.queue pair) (record { step = step; answer = answer }) t → TurnAt plan lane pair step (record { answer = answer; after = after })
  shown_as step answer after t e turn = subst (λ s. Turned plan lane (sight lane.from lane.queue pair) (record { step = step; answer = answer }) s) (sym e) turn

  -- nothing changes, and nothing is told
  pub rests : (step : Step) (answer : Answer) → is_read step answer ≡ false → TurnAt plan lane pair step (record { answer = answer; after = pair })
  rests step answer unread = turned (Rests false) (tells_no plan lane (lane_of pair lane.from lane.queue) step answer unread)

  pub refusal : (step : Step) → is_look step ≡ false → (r : Answer) (b : Bool) → Refused b r → TurnAt plan lane pair step (record { answer = r; after = pair })
  refusal step not_look r b is = rests step r (unread-refused step r not_look is.is)

-- what a step reads of rings: the ledger, if the pair isn't raw
abbrev pub ReadsLedger : Plan → LaneName → PairPart → Reading → Type 0
ReadsLedger plan lane pair reading = IsRaw plan lane ≡ false → reading ≡ by_ledger (pair_plan plan lane.pair) pair

-- a write that doesn't reach the peer is one of a raw pair
pub unreached_raw : (plan : Plan) (lane : LaneName) (pair : PairPart) (reading : Reading) → ReadsLedger plan lane pair reading → (side : Side) (label : Label)
    → reading.reaches side label ≡ false → IsRaw plan lane ≡ true
unreached_raw plan lane pair reading reads side label lost = elim (cases_Bool (IsRaw plan lane)) [
  | inl is ↦ is
  | inr isnt ↦ absurd (both_ways (reading.reaches side label) lost (ap (λ (r : Reading). r.reaches side label) (reads isnt)))
]
