-- What a step does to the part of a pair that it touches, by the bytes in the pair's memories and the counts of its
-- ports. The part is the bridge alone, or one queue and the bridge. The answer stands beside it.
use Rattle.std.specs.Prelude.{ℕ, ◌+◌, List, length, option_map, slice_get, slice_index, bit_or, if◌then◌else◌}
use Rattle.step_kinds.specs.Bits.{without_bits}
use Rattle.step_kinds.specs.declared.names.Side.{Side}
use Rattle.step_kinds.specs.declared.plan.DevPlan.{DevPlan}
use Rattle.step_kinds.specs.declared.lanes.LaneCopy.{LaneCopy}
use Rattle.step_kinds.specs.declared.lanes.LaneCopy.TheVariants.{Whole}
use Rattle.step_kinds.specs.declared.steps.Answer.{Answer}
use Rattle.step_kinds.specs.declared.steps.Answer.TheVariants.{Ok as Done, OkSession, OkNumber, Stopped, Awake, Irq as IrqBits, Mem, PadValue, QueueShown}
use Rattle.step_kinds.specs.declared.steps.Label.TheVariants.{Raw}
use Rattle.step_kinds.specs.declared.places.BridgeStep.{BridgeStep}
use Rattle.step_kinds.specs.declared.places.BridgeStep.TheVariants.{Enable, Train, Break, DropDone, Offer, Check, Ready, Join, Land, Irq, Mask, Unmask, Spad, Poke, ShowMem, ShowPad, ShowQueue}
use Rattle.step_kinds.specs.declared.places.QueueStep.{QueueStep}
use Rattle.step_kinds.specs.declared.places.QueueStep.TheVariants.{Begin, QpDown, Xbegin, Post, Look, Copy, Clear, Ack, Wake}
use Rattle.pair_model.specs.Device.{stopped_after_send, stays_stopped, count_accepted, count_refused, count_delivered}
use Rattle.pair_model.specs.Ethernet.{ethernet_frame}
use Rattle.pair_model.specs.Link.{is_up, enable_refusal, train_refusal, cut_refusal, drop_refusal}
use Rattle.pair_model.specs.Plans.{dev_plan}
use Rattle.bridge_regs.specs.Doorbell.{with_masked}
use Rattle.host_memory.specs.Memory.{bytes_at}
use Rattle.bridge_pair.specs.Bridge.{Bridge, bells_of, bridge_bytes_of, flight_of, pads_of, with_bells}
use Rattle.bridge_pair.specs.Calls.{after_land, landing}
use Rattle.bridge_pair.specs.Ends.{label_landed}
use Rattle.bridge_pair.specs.Flights.{Flying}
use Rattle.bridge_pair.specs.Links.{after_enable, after_train, bridge_after_cut, bridge_after_drop}
use Rattle.bridge_pair.specs.Writes.{PostedWrite, memory_write, pad_write}
use Rattle.hand_shake.specs.Offers.{offer_answer, after_offer, with_posted}
use Rattle.hand_shake.specs.Checks.{check_answer, after_check}
use Rattle.hand_shake.specs.Queues.{ready_answer, after_ready, join_answer, after_join}
use Rattle.frame_ring.specs.Calls.{port_post_answer, port_after_post, posted_by, port_copy_answer, port_after_copy, port_clear_answer, port_after_clear, cleared_by, port_ack_answer, port_after_ack, port_acked_by, free_answer}
use Rattle.frame_ring.specs.Port.{PortState}
use Rattle.queue_pair.specs.Gates.{begin_answer, queue_after_begin, qpdown_answer, after_qpdown, look_answer, queue_after_look, irq_bits, after_irq}
use Rattle.queue_pair.specs.Queue.{with_port}
use Rattle.fabric_rule.specs.Answers.{of_link, of_offer, of_check, of_ready, of_join, of_begin, of_xbegin, of_post, of_land, of_look, of_copy, of_clear, of_ack}
use Rattle.fabric_rule.specs.Parts.{QueuePart, one_more}

-- On the bridge alone

pub record BridgeTurn : Type 0 where
  pub answer : Answer
  pub bridge : Bridge

-- an answer that changes nothing
abbrev pub bridge_shown : Bridge → Answer → BridgeTurn
bridge_shown bridge answer = record { answer = answer; bridge = bridge }

-- a write beside the rings: in flight where the link is up, and else lost
abbrev pub posted_aside : Bridge → Side → PostedWrite → Bridge
posted_aside bridge side write = if is_up bridge.link.state then with_posted bridge side write else bridge

abbrev pub bridge_turn : Bridge → BridgeStep → BridgeTurn
bridge_turn bridge (Enable side) = record { answer = of_link (enable_refusal bridge.link side) Done; bridge = after_enable bridge side }
bridge_turn bridge Train = record { answer = of_link (train_refusal bridge.link) (OkSession (bridge.link.session + 1)); bridge = after_train bridge }
bridge_turn bridge Break = record { answer = of_link (cut_refusal bridge.link) Done; bridge = bridge_after_cut bridge }
bridge_turn bridge DropDone = record { answer = of_link (drop_refusal bridge.link) Done; bridge = bridge_after_drop bridge }
bridge_turn bridge (Offer side) = record { answer = of_offer (offer_answer bridge side); bridge = after_offer bridge side }
bridge_turn bridge (Check side) = record { answer = of_check (check_answer bridge side); bridge = after_check bridge side }
bridge_turn bridge (Ready side queue) = record { answer = of_ready (ready_answer bridge side queue); bridge = after_ready bridge side queue }
bridge_turn bridge (Join side queue) = record { answer = of_join (join_answer bridge side queue); bridge = after_join bridge side queue }
bridge_turn bridge (Land side place) = record { answer = of_land (label_landed (landing bridge side place)); bridge = after_land bridge side place }
bridge_turn bridge (Irq side) = record { answer = IrqBits (irq_bits bridge side); bridge = after_irq bridge side }
bridge_turn bridge (Mask side bits) =
    record { answer = Done; bridge = with_bells bridge side (with_masked (bells_of bridge side) (bit_or (bells_of bridge side).masked bits)) }
bridge_turn bridge (Unmask side bits) =
    record { answer = Done; bridge = with_bells bridge side (with_masked (bells_of bridge side) (without_bits (bells_of bridge side).masked bits)) }
bridge_turn bridge (Spad side i value) = record { answer = Done; bridge = posted_aside bridge side (pad_write i value) }
bridge_turn bridge (Poke side window offset bytes) =
    record { answer = Done; bridge = posted_aside bridge side (memory_write (Raw window offset (length bytes.now)) window offset bytes.now) }
bridge_turn bridge (ShowMem side at len) = bridge_shown bridge (Mem (bytes_at at len (bridge_bytes_of bridge side)))
bridge_turn bridge (ShowPad side i) = bridge_shown bridge (PadValue (slice_index (pads_of bridge side) i))
bridge_turn bridge (ShowQueue side place) =
    let writes = (flight_of bridge side).writes in
    bridge_shown bridge (QueueShown (length writes) (option_map (λ (flying : Flying). flying.label) (slice_get writes place)))

-- On one queue

pub record QueueTurn : Type 0 where
  pub answer : Answer
  pub part : QueuePart
  pub bridge : Bridge

-- the frame is counted in the pair's session, if it was begun
abbrev pub accepted_where_begun : Answer → ℕ → QueuePart → QueuePart
accepted_where_begun (OkNumber number) session part = record part { accepted = one_more part.accepted session }
accepted_where_begun answer session part = part

abbrev pub begin_turn : QueuePart → Bridge → List ℕ → QueueTurn
begin_turn part bridge frame =
    let answer = of_begin (begin_answer part.queue bridge (length frame)) in
    record {
      answer = answer;
      part = accepted_where_begun answer bridge.link.session (record part { queue = queue_after_begin part.queue bridge frame });
      bridge = bridge;
    }

abbrev pub qpdown_turn : QueuePart → Bridge → QueueTurn
qpdown_turn part bridge =
    record { answer = of_begin (qpdown_answer part.queue bridge); part = record part { queue = after_qpdown part.queue bridge }; bridge = bridge }

-- a device's frame was begun: it is counted, and the device stops where it left too few entries free; or it was
-- refused, which is counted, and nothing else changes
abbrev pub xbegun : Answer → Bridge → QueuePart → List ℕ → QueuePart
xbegun (OkNumber number) bridge part frame =
    let begun = queue_after_begin part.queue bridge frame in
    record {
      queue = begun;
      flow = record part.flow { stopped = stopped_after_send part.flow (free_answer begun.port bridge) };
      counters = count_accepted part.counters (length frame);
      accepted = one_more part.accepted bridge.link.session;
      delivered = part.delivered;
    }
xbegun answer bridge part frame = record part { counters = count_refused part.counters }

-- a device's frame, whose answer follows from its length
abbrev pub device_frame_answer : QueuePart → Bridge → ℕ → Answer
device_frame_answer part bridge len = of_xbegin part.flow.stopped (begin_answer part.queue bridge len)

abbrev pub frame_turn : QueuePart → Bridge → List ℕ → QueueTurn
frame_turn part bridge frame =
    let answer = device_frame_answer part bridge (length frame) in
    record { answer = answer; part = xbegun answer bridge part frame; bridge = bridge }

-- the result of a call of the queue's port
abbrev pub port_turn : QueuePart → Answer → PortState → Bridge → QueueTurn
port_turn part answer port bridge = record { answer = answer; part = record part { queue = with_port part.queue port }; bridge = bridge }

abbrev pub post_turn : QueuePart → Bridge → QueueTurn
post_turn part bridge = port_turn part (of_post (port_post_answer part.queue.port)) (port_after_post part.queue.port) (posted_by part.queue.port bridge)

abbrev pub look_turn : QueuePart → Bridge → QueueTurn
look_turn part bridge =
    record { answer = of_look (look_answer part.queue bridge); part = record part { queue = queue_after_look part.queue bridge }; bridge = bridge }

-- a frame that was delivered is counted in the pair's session, and by the device on the queue
abbrev pub delivered_where_whole : LaneCopy → ℕ → QueuePart → QueuePart
delivered_where_whole (Whole number frame) session part =
    record part { delivered = one_more part.delivered session; counters = count_delivered part.counters (length frame) }
delivered_where_whole copy session part = part

abbrev pub copy_turn : QueuePart → Bridge → QueueTurn
copy_turn part bridge =
    let copy = port_copy_answer part.queue.port bridge in
    record {
      answer = of_copy copy;
      part = delivered_where_whole copy bridge.link.session (record part { queue = with_port part.queue (port_after_copy part.queue.port bridge) });
      bridge = bridge;
    }

abbrev pub clear_turn : QueuePart → Bridge → QueueTurn
clear_turn part bridge = port_turn part (of_clear (port_clear_answer part.queue.port)) (port_after_clear part.queue.port) (cleared_by part.queue.port bridge)

abbrev pub ack_turn : QueuePart → Bridge → QueueTurn
ack_turn part bridge = port_turn part (of_ack (port_ack_answer part.queue.port)) (port_after_ack part.queue.port) (port_acked_by part.queue.port bridge)

abbrev pub wake_turn : QueuePart → Bridge → QueueTurn
wake_turn part bridge =
    let stays = stays_stopped part.flow (free_answer part.queue.port bridge) in
    record { answer = (if stays then Stopped else Awake); part = record part { flow = record part.flow { stopped = stays } }; bridge = bridge }

abbrev pub queue_turn : List DevPlan → QueuePart → Bridge → QueueStep → QueueTurn
queue_turn devs part bridge (Begin frame) = begin_turn part bridge frame.now
queue_turn devs part bridge QpDown = qpdown_turn part bridge
queue_turn devs part bridge (Xbegin dev dst kind payload) =
    frame_turn part bridge (ethernet_frame dst.now (dev_plan devs dev).address kind payload.now)
queue_turn devs part bridge Post = post_turn part bridge
queue_turn devs part bridge Look = look_turn part bridge
queue_turn devs part bridge Copy = copy_turn part bridge
queue_turn devs part bridge Clear = clear_turn part bridge
queue_turn devs part bridge Ack = ack_turn part bridge
queue_turn devs part bridge (Wake dev) = wake_turn part bridge
