-- A pair stays whole through a step on its bridge, or on one of its queues.
use Rattle.std.proofs.Common.{◌≡◌, ◌∙◌, ℕ, ◌<◌, List, Result, Ok, Err, OnErr, OnOk, length, get_or, set, ap, refl, subst, sym}
use Rattle.step_kinds.specs.Sides.{other_side}
use Rattle.step_kinds.specs.declared.names.Side.{Side}
use Rattle.step_kinds.specs.declared.names.Side.TheVariants.{A, B}
use Rattle.step_kinds.specs.declared.steps.Answer.{Answer}
use Rattle.step_kinds.specs.declared.places.BridgeStep.{BridgeStep}
use Rattle.step_kinds.specs.declared.places.QueueStep.{QueueStep}
use Rattle.step_kinds.specs.declared.places.StepPlace.TheVariants.{OnQueue}
use Rattle.step_kinds.specs.declared.plan.DevPlan.{DevPlan}
use Rattle.pair_model.specs.Plans.{side_plan}
use Rattle.bridge_pair.specs.Bridge.{Bridge}
use Rattle.fabric_rule.specs.Parts.{PairState, QueuePart, no_queue, plain_pair, with_bridge}
use Rattle.fabric_core.specs.Parts.{IsPairWhole, KeepsPort}
use Rattle.fabric_core.specs.Promises.{HasMorePages}
use Rattle.fabric_core.specs.StepCalls.{HasMadeAt, HasMadeOnQueue}
use Rattle.fabric_core.proofs.TurnsOfPairs.{more_plain, more_promised, turn_promised}
use Rattle.fabric_core.proofs.Whole.{SideIsWhole, both_whole, peer_kept, side_turned, side_whole, whole_kept}
use Rattle.fabric_rule.specs.Turns.{bridge_turn}

abbrev pub state_of : Bridge → List QueuePart → List QueuePart → PairState
state_of bridge a b = record { bridge = bridge; queues = record { a = a; b = b } }

-- On the bridge

-- A pair stays whole where a step leaves the turn's bridge, or out of memory the old one, with further pages.
pub stepped_whole : {E : Type 0} (state : PairState) (new : Bridge) (step : BridgeStep) (result : Result Answer E) → IsPairWhole state
    → OnOk result (HasMorePages (bridge_turn state.bridge step).bridge new) → OnErr result (HasMorePages state.bridge new) → IsPairWhole (with_bridge state new)
stepped_whole state new step (Ok answer) whole after err = whole_kept state new whole (turn_promised state.bridge new step after)
stepped_whole state new step (Err e) whole after err = whole_kept state new whole (more_promised state.bridge new err)

-- If a step on the bridge is made, the pair is as the step's turn leaves it, promises aside.
pub stepped_after : {E : Type 0} (state : PairState) (new : Bridge) (step : BridgeStep) (result : Result Answer E) → OnOk result (HasMorePages (bridge_turn state.bridge step).bridge new)
    → OnOk result (plain_pair (with_bridge state new) ≡ plain_pair (with_bridge state (bridge_turn state.bridge step).bridge))
stepped_after state new step (Ok answer) after =
    ap (λ bridge. record state { bridge = bridge }) (more_plain (bridge_turn state.bridge step).bridge new after)
stepped_after state new step (Err e) after = tt

-- If it is out of memory, the pair is as it was, promises aside.
pub stepped_err : {E : Type 0} (state : PairState) (new : Bridge) (result : Result Answer E) → OnErr result (HasMorePages state.bridge new) → OnErr result (plain_pair (with_bridge state new) ≡ plain_pair state)
stepped_err state new (Ok answer) err = tt
stepped_err state new (Err e) err = ap (λ bridge. record state { bridge = bridge }) (more_plain state.bridge new err)

-- On a queue

-- a pair of a side's queues and its peer's
abbrev pub sides_of : Bridge → Side → List QueuePart → List QueuePart → PairState
sides_of bridge A own peer = state_of bridge own peer
sides_of bridge B own peer = state_of bridge peer own

each_side_whole : (bridge : Bridge) (side : Side) (own peer : List QueuePart) → IsPairWhole (sides_of bridge side own peer) → SideIsWhole bridge side own × SideIsWhole bridge (other_side side) peer
each_side_whole bridge A own peer whole = (side_whole (state_of bridge own peer) A whole, side_whole (state_of bridge own peer) B whole)
each_side_whole bridge B own peer whole = (side_whole (state_of bridge peer own) B whole, side_whole (state_of bridge peer own) A whole)

whole_of_sides : (bridge : Bridge) (side : Side) (own peer : List QueuePart) → SideIsWhole bridge side own → SideIsWhole bridge (other_side side) peer → IsPairWhole (sides_of bridge side own peer)
whole_of_sides bridge A own peer whole peer_whole = both_whole bridge own peer whole peer_whole
whole_of_sides bridge B own peer whole peer_whole = both_whole bridge peer own peer_whole whole

-- A pair stays whole through a call of one queue of a side, if the call keeps what was promised.
pub called : (old new : Bridge) (side : Side) (own peer parts : List QueuePart) (queue : ℕ) → IsPairWhole (sides_of old side own peer) → queue < (side_plan old.plan side).queues
    → parts ≡ set own queue (get_or parts queue no_queue) → KeepsPort (get_or own queue no_queue).queue.port (get_or parts queue no_queue).queue.port old new
    → IsPairWhole (sides_of new side parts peer)
called old new side own peer parts queue whole below is keeps =
    let each = each_side_whole old side own peer whole in
    let part = get_or parts queue no_queue in
    let within : queue < length own = subst (λ n. queue < n) (sym each.0.all_queues) below in
    whole_of_sides new side parts peer (subst (λ parts. SideIsWhole new side parts) (sym is) (side_turned old new side own queue part within keeps each.0))
    (peer_kept old new side own peer queue part within keeps each.0 each.1)

-- pairs with the same bridge and the same queues
same_state : (bridge bridge' : Bridge) (a a' b b' : List QueuePart) → bridge ≡ bridge' → a ≡ a' → b ≡ b' → state_of bridge a b ≡ state_of bridge' a' b'
same_state bridge bridge' a a' b b' one two three = λ i. state_of (one i) (two i) (three i)

-- A pair makes the step that one of its queues made, if all other queues of the side stay.
pub made_on_side : {E : Type 0} (devs : List DevPlan) (step : QueueStep) (result : Result Answer E) (old new : Bridge) (side : Side) (own peer parts : List QueuePart) (queue : ℕ)
    → parts ≡ set own queue (get_or parts queue no_queue) → OnErr result (parts ≡ own)
    → HasMadeOnQueue devs step (get_or own queue no_queue) (get_or parts queue no_queue) old new result
    → HasMadeAt devs (OnQueue side queue step) (sides_of old side own peer) (sides_of new side parts peer) result
made_on_side devs step (Ok answer) old new A own peer parts queue is err made =
    record { answer = made.answer; after = same_state _ _ _ _ peer peer made.bridge (is ∙ ap (set own queue) made.after) refl; err = tt; wants = made.wants; border = tt }
made_on_side devs step (Ok answer) old new B own peer parts queue is err made =
    record { answer = made.answer; after = same_state _ _ peer peer _ _ made.bridge refl (is ∙ ap (set own queue) made.after); err = tt; wants = made.wants; border = tt }
made_on_side devs step (Err error) old new A own peer parts queue is err made =
    record { answer = tt; after = tt; err = same_state _ _ _ _ peer peer made.err_bridge err refl; wants = made.wants; border = made.border }
made_on_side devs step (Err error) old new B own peer parts queue is err made =
    record { answer = tt; after = tt; err = same_state _ _ peer peer _ _ made.err_bridge refl err; wants = made.wants; border = made.border }
