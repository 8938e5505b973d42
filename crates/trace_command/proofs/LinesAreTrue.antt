-- The lines of a trace are true. Its first lines have a log of their bridges, which goes on by a landing with the
-- answer of its line.
use Rattle.std.proofs.Common.{◌≡◌, ℕ, ◌<◌, List, [], ◌∷◌, ◌++◌, map, refl, sym, ap, ◌∙◌, subst}
use Rattle.std.specs.Prelude.{Some, if◌then◌else◌, length, nat_lt, slice_get}
use Rattle.step_kinds.specs.declared.names.Side.{Side}
use Rattle.step_kinds.specs.declared.plan.Plan.{Plan}
use Rattle.step_kinds.specs.declared.steps.Answer.{Answer}
use Rattle.step_kinds.specs.declared.steps.Answer.TheVariants.{Blocked, Landed}
use Rattle.step_kinds.specs.declared.steps.Step.{Step}
use Rattle.step_kinds.specs.declared.steps.Step.TheVariants.{Land}
use Rattle.ledger_model.specs.Log.{Answered, Memories, log_of}
use Rattle.ledger_laws.specs.Laws.{GoesOn}
use Rattle.ledger_laws.proofs.Facade.{log_of-last}
use Rattle.pair_model.specs.Both.{at_side}
use Rattle.ledger_model.specs.NetworkLog.{bridge_steps, network_of}
use Rattle.ledger_model.specs.Network.{Network, items_from, network_from, new_network, next_item, next_network}
use Rattle.ledger_model.specs.Origins.{bytes_kept}
use Rattle.ledger_laws.proofs.Facade.{bridges_have_a_log}
use Rattle.step_kinds.specs.AnsweredSteps.{AnsweredStep}
use Rattle.trace_command.specs.Writes.{PairWrites, SideWrites, trace_number_at, numbers_in, stopped_by}
use Rattle.trace_command.specs.Laws.{HaveTheirAnswers, IsStoppedBy, dropped_numbers, how_often, landed_numbers, posted_labels, side_writes, trace_steps_of}
use Rattle.trace_command.specs.Traces.{PairTracesAreTrue, bridges_after, traced_side}
use Rattle.trace_command.proofs.BlockedWait.{blocked_landings_wait}
use Rattle.trace_command.proofs.LandingsOfLabels.{landings_are_of_their_labels}
use Rattle.trace_command.proofs.NumbersStandOnce.{each_number_stands_once}
use Rattle.trace_command.proofs.TracesFollow.{traces_follow_the_log}

module _ (plan : Plan) (memories : Memories) where
  abbrev Net : Type 0
  Net = Network (List ℕ)

  -- lines have the answers of the items from a network on
  abbrev AnswersFrom : Net → List AnsweredStep → Type 0
  AnswersFrom net lines =
      map (λ (line : AnsweredStep). line.made.answer) lines ≡ map (λ (made : Answered). made.answer) (items_from bytes_kept plan memories net (trace_steps_of lines))

  -- Prefixes of lines that have their answers have theirs.
  first_answers : (net : Net) (before behind : List AnsweredStep) → AnswersFrom net (before ++ behind) → AnswersFrom net before
  first_answers net [] behind e = refl
  first_answers net (line ∷ before) behind e =
      let rest : AnswersFrom (next_network bytes_kept plan memories net line.step) (before ++ behind) = cc in
      let others : AnswersFrom (next_network bytes_kept plan memories net line.step) before = first_answers (next_network bytes_kept plan memories net line.step) before behind rest in
      cc

  -- the line after them has the answer of the item after theirs
  next_answer : (net : Net) (before behind : List AnsweredStep) (line : AnsweredStep) → AnswersFrom net (before ++ line ∷ behind)
      → line.made.answer ≡ (next_item bytes_kept plan memories (network_from bytes_kept plan memories net (trace_steps_of before)) line.step).answer
  next_answer net [] behind line e = cc
  next_answer net (first ∷ before) behind line e =
      let rest : AnswersFrom (next_network bytes_kept plan memories net first.step) (before ++ line ∷ behind) = cc in
      next_answer (next_network bytes_kept plan memories net first.step) before behind line rest

  -- The log of their bridges

  -- the steps that lines made on bridges
  abbrev bridged : List AnsweredStep → List Step
  bridged before = bridge_steps plan memories (trace_steps_of before)

  -- the first lines have a log of their bridges, which goes on by a landing with the answer of the line after them
  landing_goes_on : (before behind : List AnsweredStep) (line : AnsweredStep) (pair : ℕ) (side : Side) (place : ℕ) (answer : Answer)
      → HaveTheirAnswers plan memories (before ++ line ∷ behind) → line.step ≡ Land pair side place → line.made.answer ≡ answer
      → GoesOn plan memories (bridged before) (Land pair side place) answer
  landing_goes_on before behind line pair side place answer answers is_land is_answer =
      log_of-last plan memories (bridged before) (Land pair side place)
      ∙ ap (λ (given : Answer). log_of plan memories (bridged before) ++ record { step = Land pair side place; answer = given } ∷ []) (sym given)
    where
      given : answer ≡ (next_item bytes_kept plan memories (network_of plan memories (trace_steps_of before)) (Land pair side place)).answer
      given =
          sym is_answer ∙ next_answer (new_network plan) before behind line answers
          ∙ ap (λ (step : Step). (next_item bytes_kept plan memories (network_of plan memories (trace_steps_of before)) step).answer) is_land

  -- what is so of that log, with the writes that it gives, is so with the writes that a trace follows
  as_traced : (before : List AnsweredStep) (pair : ℕ) (side : Side) → HaveTheirAnswers plan memories before → pair < length plan.pairs
      → (P : List Answered → SideWrites → Type 0)
      → P (log_of plan memories (bridged before)) (side_writes plan (log_of plan memories (bridged before)) pair side)
      → P (bridges_after plan memories before) (traced_side plan before pair side)
  as_traced before pair side answers within P so =
      subst (P (bridges_after plan memories before)) (ap (λ (now : PairWrites). at_side now.sides side) (sym (traces_follow_the_log plan memories before pair answers within)))
      (subst (λ log. P log (side_writes plan log pair side)) (sym (bridges_have_a_log plan memories (trace_steps_of before))) so)

-- the lines of a trace are true of each pair of its plan
pub traces_are_true : PairTracesAreTrue
traces_are_true plan memories lines pair side answers within = record {
  landings = λ before behind line place label parts is_land is_answer.
      traced before (line ∷ behind) parts
      (λ log now. slice_get (posted_labels plan log pair side) (trace_number_at now.flight place) ≡ Some label)
      (landings_are_of_their_labels plan memories (bridged plan memories before) pair side place label
      (landing_goes_on plan memories before behind line pair side place (Landed label) (of_parts (before ++ line ∷ behind) parts) is_land is_answer));
  once = λ before behind n parts.
      traced before behind parts
      (λ log now.
      how_often n (landed_numbers plan log pair side ++ (dropped_numbers plan log pair side ++ numbers_in now.flight))
      ≡ (if nat_lt n (length (posted_labels plan log pair side)) then 1 else 0))
      (each_number_stands_once plan memories (bridged plan memories before) pair side n);
  waits = λ before behind line place parts is_land is_answer.
      traced before (line ∷ behind) parts
      (λ log now. IsStoppedBy plan log pair side place (stopped_by now.flight place))
      (blocked_landings_wait plan memories (bridged plan memories before) pair side place
      (landing_goes_on plan memories before behind line pair side place Blocked (of_parts (before ++ line ∷ behind) parts) is_land is_answer));
}
  where
    of_parts : (parted : List AnsweredStep) → lines ≡ parted → HaveTheirAnswers plan memories parted
    of_parts parted parts = subst (HaveTheirAnswers plan memories) parts answers

    traced : (before behind : List AnsweredStep) → lines ≡ before ++ behind
        → (P : List Answered → SideWrites → Type 0)
        → P (log_of plan memories (bridged plan memories before)) (side_writes plan (log_of plan memories (bridged plan memories before)) pair side)
        → P (bridges_after plan memories before) (traced_side plan before pair side)
    traced before behind parts = as_traced plan memories before pair side (first_answers plan memories (new_network plan) before behind (of_parts (before ++ behind) parts)) within
