-- A step on a pair is a turn of the part that it touches, and a step on the bridge keeps all that was promised.
use Rattle.std.proofs.Common.{◌≡◌, ◌∙◌, ℕ, Bool, true, false, Contains, IfOk, List, OnOk, Result, length, refl, sym, ap, subst, if◌then◌else◌}
use Rattle.step_kinds.specs.Bits.{with_bit}
use Rattle.step_kinds.specs.declared.names.Side.{Side}
use Rattle.step_kinds.specs.declared.names.Side.TheVariants.{A, B}
use Rattle.step_kinds.specs.declared.plan.DevPlan.{DevPlan}
use Rattle.step_kinds.specs.declared.steps.Answer.{Answer}
use Rattle.step_kinds.specs.declared.steps.Label.TheVariants.{Raw}
use Rattle.step_kinds.specs.declared.steps.Step.{Step}
use Rattle.step_kinds.specs.declared.places.BridgeStep.{BridgeStep}
use Rattle.step_kinds.specs.declared.places.BridgeStep.TheVariants.{Enable, Train, Break, DropDone, Offer, Check, Ready, Join, Land, Irq, Mask, Unmask, Spad, Poke}
use Rattle.step_kinds.specs.declared.places.QueueStep.TheVariants.{Begin, Xbegin}
use Rattle.step_kinds.specs.declared.places.StepPlace.{StepPlace}
use Rattle.step_kinds.specs.declared.places.StepPlace.TheVariants.{OnQueue, OnBridge}
use Rattle.pair_model.specs.Link.{is_up}
use Rattle.pair_model.specs.Pads.{links_pad, pad_index}
use Rattle.bridge_pair.specs.Bridge.{Bridge, book_of, flight_of, with_book, with_bytes}
use Rattle.bridge_pair.specs.Laws.{KeepsPromises}
use Rattle.bridge_pair.specs.Writes.{PostedWrite, memory_write, pad_write}
use Rattle.bridge_pair.specs.declared.book.SideBook.{SideBook}
use Rattle.bridge_pair.proofs.Facade.{bytes_keep, keeps_all, keeps_both, landing_keeps_promises, link_steps_keep_promises, own_writes_keep_promises}
use Rattle.hand_shake.specs.Checks.{after_check_answer, check_answer, fresh_rings}
use Rattle.hand_shake.specs.Offers.{after_offer_answer, next_offer, offer_answer, pad_value, with_posted}
use Rattle.hand_shake.specs.Queues.{after_join_answer, after_ready_answer, join_answer, ready_answer}
use Rattle.hand_shake.specs.declared.CheckAnswer.{CheckAnswer}
use Rattle.hand_shake.specs.declared.CheckAnswer.TheVariants.{Up}
use Rattle.hand_shake.specs.declared.JoinAnswer.{JoinAnswer}
use Rattle.hand_shake.specs.declared.JoinAnswer.TheVariants.{Joined}
use Rattle.hand_shake.specs.declared.OfferAnswer.{OfferAnswer}
use Rattle.hand_shake.specs.declared.OfferAnswer.TheVariants.{Offered}
use Rattle.hand_shake.specs.declared.ReadyAnswer.{ReadyAnswer}
use Rattle.hand_shake.specs.declared.ReadyAnswer.TheVariants.{Ok as IsReady}
use Rattle.fabric_rule.specs.Parts.{PairState, plain_bridge, plain_pair}
use Rattle.fabric_core.specs.Promises.{HasMorePages, KeepsPromised, with_promised}
use Rattle.fabric_rule.specs.Moves.{Move, move_at, move_of}
use Rattle.fabric_rule.specs.Turns.{bridge_turn, posted_aside}
use Rattle.step_kinds.specs.Places.{by_value, step_place}

-- What a step on the bridge keeps

still : (old new : Bridge) → KeepsPromises old new → KeepsPromised old new
still old new keeps =
    record {
      plan = keeps.plan;
      pages = λ side page had. subst (λ pages. Contains pages page) (sym (keeps.pages side)) had;
      spare = keeps.spare;
    }

-- a write that asks for its own room
posted_keeps : (bridge : Bridge) (side : Side) (write : PostedWrite) → KeepsPromises bridge (with_posted bridge side write)
posted_keeps bridge A write = record { plan = refl; pages = λ any. refl; spare = at } where
  at : (any : Side) → (flight_of (with_posted bridge A write) any).spare ≡ (flight_of bridge any).spare
  at A = refl
  at B = refl
posted_keeps bridge B write = record { plan = refl; pages = λ any. refl; spare = at } where
  at : (any : Side) → (flight_of (with_posted bridge B write) any).spare ≡ (flight_of bridge any).spare
  at A = refl
  at B = refl

booked_keeps : (bridge : Bridge) (side : Side) (write : PostedWrite) (book : SideBook) → KeepsPromises bridge (with_book (with_posted bridge side write) side book)
booked_keeps bridge side write book =
    keeps_both bridge (with_posted bridge side write) (with_book (with_posted bridge side write) side book) (posted_keeps bridge side write)
    (own_writes_keep_promises.book (with_posted bridge side write) side book)

offer_keeps : (bridge : Bridge) (side : Side) (answer : OfferAnswer) → KeepsPromises bridge (after_offer_answer bridge side answer)
offer_keeps bridge side (Offered index) = booked_keeps bridge side (pad_write (pad_index (next_offer bridge side)) (pad_value (next_offer bridge side))) _
offer_keeps bridge side answer = keeps_all bridge

check_keeps : (bridge : Bridge) (side : Side) (answer : CheckAnswer) → KeepsPromises bridge (after_check_answer bridge side answer)
check_keeps bridge side Up =
    keeps_both bridge (with_bytes bridge side (fresh_rings bridge side)) (after_check_answer bridge side Up) (bytes_keep bridge side (fresh_rings bridge side))
    (own_writes_keep_promises.book (with_bytes bridge side (fresh_rings bridge side)) side _)
check_keeps bridge side answer = keeps_all bridge

ready_keeps : (bridge : Bridge) (side : Side) (queue : ℕ) (answer : ReadyAnswer) → KeepsPromises bridge (after_ready_answer bridge side queue answer)
ready_keeps bridge side queue IsReady = booked_keeps bridge side (pad_write links_pad (with_bit (book_of bridge side).ready queue)) _
ready_keeps bridge side queue answer = keeps_all bridge

join_keeps : (bridge : Bridge) (side : Side) (queue : ℕ) (answer : JoinAnswer) → KeepsPromises bridge (after_join_answer bridge side queue answer)
join_keeps bridge side queue Joined = own_writes_keep_promises.book bridge side _
join_keeps bridge side queue answer = keeps_all bridge

aside_keeps : (bridge : Bridge) (side : Side) (write : PostedWrite) → KeepsPromises bridge (posted_aside bridge side write)
aside_keeps bridge side write = at_test (is_up bridge.link.state) where
  at_test : (up : Bool) → KeepsPromises bridge (if up then with_posted bridge side write else bridge)
  at_test true = posted_keeps bridge side write
  at_test false = keeps_all bridge

turn_keeps : (bridge : Bridge) (step : BridgeStep) → KeepsPromises bridge (bridge_turn bridge step).bridge
turn_keeps bridge (Enable side) = link_steps_keep_promises.enable bridge side
turn_keeps bridge Train = link_steps_keep_promises.train bridge
turn_keeps bridge Break = link_steps_keep_promises.cut bridge
turn_keeps bridge DropDone = link_steps_keep_promises.drop_done bridge
turn_keeps bridge (Offer side) = offer_keeps bridge side (offer_answer bridge side)
turn_keeps bridge (Check side) = check_keeps bridge side (check_answer bridge side)
turn_keeps bridge (Ready side queue) = ready_keeps bridge side queue (ready_answer bridge side queue)
turn_keeps bridge (Join side queue) = join_keeps bridge side queue (join_answer bridge side queue)
turn_keeps bridge (Land side place) = landing_keeps_promises bridge side place
turn_keeps bridge (Irq side) = own_writes_keep_promises.bells bridge side _
turn_keeps bridge (Mask side bits) = own_writes_keep_promises.bells bridge side _
turn_keeps bridge (Unmask side bits) = own_writes_keep_promises.bells bridge side _
turn_keeps bridge (Spad side i value) = aside_keeps bridge side (pad_write i value)
turn_keeps bridge (Poke side window offset bytes) = aside_keeps bridge side (memory_write (Raw window offset (length bytes.now)) window offset bytes.now)
turn_keeps bridge step = keeps_all bridge

-- and further pages may be promised

more_keeps : (old new : Bridge) → HasMorePages old new → KeepsPromised old new
more_keeps old new more =
    record {
      plan = ap (λ (bridge : Bridge). bridge.plan) more.rest;
      pages = more.stay;
      spare = λ side. ap (λ (bridge : Bridge). (flight_of bridge side).spare) more.rest ∙ same_spare old new.memories.a.promised new.memories.b.promised side;
    } where
      same_spare : (bridge : Bridge) (a b : List ℕ) (side : Side) → (flight_of (with_promised bridge a b) side).spare ≡ (flight_of bridge side).spare
      same_spare bridge a b side = refl

kept_twice : (old mid new : Bridge) → KeepsPromised old mid → KeepsPromised mid new → KeepsPromised old new
kept_twice old mid new first second =
    record {
      plan = second.plan ∙ first.plan;
      pages = λ side page had. second.pages side page (first.pages side page had);
      spare = λ side. second.spare side ∙ first.spare side;
    }

-- A bridge that has further pages promised is the same, promises aside.
pub more_plain : (old new : Bridge) → HasMorePages old new → plain_bridge new ≡ plain_bridge old
more_plain old new more = ap plain_bridge more.rest

-- A step on the bridge, with further pages promised, keeps the plan, all promised pages and each side's room.
pub turn_promised : (old new : Bridge) (step : BridgeStep) → HasMorePages (bridge_turn old step).bridge new → KeepsPromised old new
turn_promised old new step more =
    kept_twice old (bridge_turn old step).bridge new (still old (bridge_turn old step).bridge (turn_keeps old step)) (more_keeps (bridge_turn old step).bridge new more)

-- A bridge that has further pages promised keeps its plan, all promised pages and each side's room.
pub more_promised : (old new : Bridge) → HasMorePages old new → KeepsPromised old new
more_promised old new more = more_keeps old new more
