-- What each step does to a pair as a fabric keeps it: the turn of the part that it touches, put back in its place. Room
-- and pages that are promised stand aside (`plain_pair`).
use Rattle.std.specs.Prelude.{ℕ, false, Option, Some, None, List, map}
use Rattle.step_kinds.specs.Places.{step_place}
use Rattle.step_kinds.specs.declared.names.Side.{Side}
use Rattle.step_kinds.specs.declared.plan.DevPlan.{DevPlan}
use Rattle.step_kinds.specs.declared.steps.Answer.{Answer}
use Rattle.step_kinds.specs.declared.steps.Answer.TheVariants.{Ok as Done}
use Rattle.step_kinds.specs.declared.steps.Step.{Step}
use Rattle.step_kinds.specs.declared.places.SideStep.TheVariants.{Clean}
use Rattle.step_kinds.specs.declared.places.StepPlace.{StepPlace}
use Rattle.step_kinds.specs.declared.places.StepPlace.TheVariants.{OnQueue, OnSide, OnBridge, OnSwitch}
use Rattle.pair_model.specs.Link.{clean_refusal}
use Rattle.pair_model.specs.declared.LinkRefusal.{LinkRefusal}
use Rattle.bridge_pair.specs.Links.{after_clean}
use Rattle.queue_pair.specs.Queue.{fresh_queue}
use Rattle.fabric_rule.specs.Answers.{of_link}
use Rattle.fabric_rule.specs.Parts.{PairState, QueuePart, queues_of, queue_of, with_bridge, with_queues, with_queue}
use Rattle.fabric_rule.specs.Turns.{BridgeTurn, QueueTurn, bridge_turn, queue_turn}

pub record Move : Type 0 where
  pub answer : Answer
  pub after : PairState

-- a queue of a side that forgets its session: nothing is sent or received, and its device isn't stopped
abbrev pub forgotten_queue : QueuePart → QueuePart
forgotten_queue part = record part {
  queue = fresh_queue part.queue.port.plan part.queue.port.side part.queue.port.queue;
  flow = record part.flow { stopped = false };
}

abbrev pub forgotten : Option LinkRefusal → PairState → Side → PairState
forgotten None pair side = with_queues pair side (map forgotten_queue (queues_of pair side))
forgotten (Some refusal) pair side = pair

abbrev pub clean_move : PairState → Side → Move
clean_move pair side = record {
  answer = of_link (clean_refusal pair.bridge.link) Done;
  after = with_bridge (forgotten (clean_refusal pair.bridge.link) pair side) (after_clean pair.bridge side);
}

-- the pair with its bridge after a turn
abbrev pub bridge_turned : PairState → BridgeTurn → Move
bridge_turned pair turn = record { answer = turn.answer; after = with_bridge pair turn.bridge }

-- the pair with one of its queues, and its bridge, after a turn
abbrev pub turned : PairState → Side → ℕ → QueueTurn → Move
turned pair side queue turn = record { answer = turn.answer; after = with_bridge (with_queue pair side queue turn.part) turn.bridge }

-- what a step does to its pair at this place; a switch's step is made by no pair
abbrev pub move_at : List DevPlan → PairState → StepPlace → Move
move_at devs pair (OnQueue side queue step) = turned pair side queue (queue_turn devs (queue_of pair side queue) pair.bridge step)
move_at devs pair (OnSide side Clean) = clean_move pair side
move_at devs pair (OnBridge step) = bridge_turned pair (bridge_turn pair.bridge step)
move_at devs pair (OnSwitch step) = record { answer = Done; after = pair }

abbrev pub move_of : List DevPlan → PairState → Step → Move
move_of devs pair step = move_at devs pair (step_place step)
