-- What a step needs and its result, by the place at which it is made.
use Rattle.std.proofs.Common.{◌≡◌, List, Result, subst, sym}
use Rattle.step_kinds.specs.Places.{by_value, step_place}
use Rattle.step_kinds.specs.declared.places.BridgeStep.TheVariants.{Poke}
use Rattle.step_kinds.specs.declared.places.QueueStep.TheVariants.{Begin, Xbegin}
use Rattle.step_kinds.specs.declared.places.StepPlace.{StepPlace}
use Rattle.step_kinds.specs.declared.places.StepPlace.TheVariants.{OnQueue, OnBridge}
use Rattle.step_kinds.specs.declared.plan.DevPlan.{DevPlan}
use Rattle.step_kinds.specs.declared.steps.Answer.{Answer}
use Rattle.step_kinds.specs.declared.steps.Step.{Step}
use Rattle.bridge_pair.specs.Bridge.{Bridge}
use Rattle.fabric_rule.specs.Parts.{PairState}
use Rattle.fabric_core.specs.Parts.{CanMake, CanMakeAt}
use Rattle.fabric_core.specs.StepCalls.{HasMadeAt, HasMadeStep}

-- A step needs at its place what it needs.
pub needed_there : (devs : List DevPlan) (bridge : Bridge) (step : Step) (place : StepPlace) → by_value place ≡ step_place step → CanMake devs bridge step → CanMakeAt devs bridge place
needed_there devs bridge step place is can = by_cases place (subst (CanMakeAt devs bridge) (sym is) can) where
  by_cases : (place : StepPlace) → CanMakeAt devs bridge (by_value place) → CanMakeAt devs bridge place
  by_cases (OnQueue side queue (Begin frame)) can = can
  by_cases (OnQueue side queue (Xbegin dev dst kind payload)) can = can
  by_cases (OnBridge (Poke side window offset bytes)) can = can
  by_cases place can = can

-- The result of a step is its result at its place.
pub made_by_place : {E : Type 0} (result : Result Answer E) (devs : List DevPlan) (old new : PairState) (step : Step) (place : StepPlace) → by_value place ≡ step_place step
    → HasMadeAt devs place old new result → HasMadeStep devs step old new result
made_by_place result devs old new step place is made = subst (λ (place : StepPlace). HasMadeAt devs place old new result) is (by_cases place made) where
  by_cases : (place : StepPlace) → HasMadeAt devs place old new result → HasMadeAt devs (by_value place) old new result
  by_cases (OnQueue side queue (Begin frame)) made = record { answer = made.answer; after = made.after; err = made.err; wants = made.wants; border = made.border }
  by_cases (OnQueue side queue (Xbegin dev dst kind payload)) made = record { answer = made.answer; after = made.after; err = made.err; wants = made.wants; border = made.border }
  by_cases (OnBridge (Poke side window offset bytes)) made = record { answer = made.answer; after = made.after; err = made.err; wants = made.wants; border = made.border }
  by_cases place made = made
