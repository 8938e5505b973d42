use Rattle.std.proofs.Common.{◌≡◌, ◌∙◌, ◌<◌, [], ap, drop, length, rules}
use Rattle.std.proofs.lemmas.List.{drop_all, take_all}
use Rattle.fabric_core.specs.Parts.{all_unused}
use Rattle.fabric_core.proofs.ForgottenQueues.{items_then, its_turn, one_forgot, plan_then, room_behind, room_then, same_room, side_then}
use Rattle.fabric_core.proofs.pairs.forget_all.Goals as goal

pub loop-number-init : goal.loop-number-init
loop-number-init c = record { items = search rules; bridge = same_room c.args.pair.now c.args.side; room = c.requires.room }

pub forget-requires-clause-plan : goal.forget-requires-clause-plan
forget-requires-clause-plan c =
    let within : c.loop-number.number < length c.args.queues.now.items = search rules in
    plan_then c.args.pair.now c.loop-number.pair c.args.side c.args.queues.now.items c.loop-number.number c.index_mut-queue.result.now within c.requires c.loop-number.invariant.bridge
    (its_turn c.args.queues.now.items c.loop-number.queues.items c.loop-number.number c.index_mut-queue.result.now within c.loop-number.invariant.items c.index_mut-queue.ensures.value)

pub forget-requires-clause-room : goal.forget-requires-clause-room
forget-requires-clause-room c =
    let within : c.loop-number.number < length c.args.queues.now.items = search rules in
    let is = its_turn c.args.queues.now.items c.loop-number.queues.items c.loop-number.number c.index_mut-queue.result.now within c.loop-number.invariant.items c.index_mut-queue.ensures.value in
    room_then c.loop-number.pair c.args.side c.args.queues.now.items c.loop-number.number c.index_mut-queue.result.now within is
    (side_then c.args.pair.now c.args.side c.args.queues.now.items c.loop-number.number c.index_mut-queue.result.now within c.requires is) c.loop-number.invariant.room

pub loop-number-preserved : goal.loop-number-preserved
loop-number-preserved c =
    let within : c.loop-number.number < length c.args.queues.now.items = search rules in
    let is = its_turn c.args.queues.now.items c.loop-number.queues.items c.loop-number.number c.index_mut-queue.result.now within c.loop-number.invariant.items c.index_mut-queue.ensures.value in
    let same = side_then c.args.pair.now c.args.side c.args.queues.now.items c.loop-number.number c.index_mut-queue.result.now within c.requires is in
    record {
      items =
          items_then c.args.queues.now.items c.loop-number.queues.items c.loop-number.number c.index_mut-queue.result.now c.forget.new.self within c.loop-number.invariant.items c.index_mut-queue.ensures.value
          c.forget.ensures.after;
      bridge = one_forgot c.args.pair.now c.loop-number.pair c.forget.new.pair c.args.side c.index_mut-queue.result.now.queue.port c.loop-number.invariant.bridge same c.forget.ensures.bridge;
      room =
          room_behind c.loop-number.pair c.forget.new.pair c.args.side c.args.queues.now.items c.loop-number.number c.index_mut-queue.result.now within is same c.forget.ensures.bridge
          c.loop-number.invariant.room;
    }

pub returns-clause-queues : goal.returns-clause-queues
returns-clause-queues c = search (rules, take_all, drop_all)

pub returns-clause-bridge : goal.returns-clause-bridge
returns-clause-bridge c = c.loop-number.invariant.bridge

pub returns-clause-room : goal.returns-clause-room
returns-clause-room c =
    let none : drop c.loop-number.number c.args.queues.now.items ≡ [] = search (rules, drop_all) in
    c.loop-number.invariant.room ∙ ap all_unused none
