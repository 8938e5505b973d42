-- A device's frame: begun and then counted, or refused and counted.
use Rattle.std.proofs.Common.{◌≡◌, ◌∙◌, ℕ, ◌+◌, Bool, nat_le, true, false, Some, None, Option, List, length, refl, sym, ap, subst, if◌then◌else◌, arith, length-append}
use Rattle.step_kinds.specs.declared.lanes.Begun.{Begun}
use Rattle.step_kinds.specs.declared.lanes.Begun.TheVariants.{Ok as BegunOk}
use Rattle.step_kinds.specs.declared.names.Side.{Side}
use Rattle.step_kinds.specs.declared.names.Side.TheVariants.{A, B}
use Rattle.step_kinds.specs.declared.steps.Answer.{Answer}
use Rattle.step_kinds.specs.declared.steps.Answer.TheVariants.{OkNumber}
use Rattle.plan_numbers.specs.Memories.{memory_size}
use Rattle.bridge_pair.specs.Bridge.{Bridge, bridge_bytes_of}
use Rattle.pair_model.specs.Addresses.{own_index_word}
use Rattle.pair_model.specs.Headers.{free_in_memory, index_word_in}
use Rattle.host_memory.specs.Memory.{bytes_at}
use Rattle.frame_ring.specs.Calls.{port_begin_answer, port_frame_begun, free_answer, head_seen, sizes_seen, where_begun}
use Rattle.frame_ring.specs.Port.{PortState}
use Rattle.queue_pair.specs.Gates.{queue_after_begin, answer_unless, begin_answer, port_unless, sender_refusal}
use Rattle.queue_pair.specs.Queue.{QueueState}
use Rattle.queue_pair.specs.declared.BeginAnswer.{BeginAnswer}
use Rattle.queue_pair.specs.declared.BeginAnswer.TheVariants.{Ok as QueueBegun, LinkDown, NotReady, Closed, TooLong, Busy, NoRoom}
use Rattle.fabric_rule.specs.Answers.{of_begin, of_xbegin}
use Rattle.fabric_rule.specs.Parts.{QueuePart, one_more, plain_bridge}
use Rattle.fabric_core.specs.QueueCalls.{IsBegun, is_begun, counted_begun, refused_once}
use Rattle.fabric_core.proofs.QueueParts.{not_begun}
use Rattle.pair_model.specs.Ethernet.{ethernet_frame}
use Rattle.fabric_rule.specs.Turns.{accepted_where_begun, begin_turn, device_frame_answer, frame_turn, xbegun}

-- Free entries depend on bytes alone

free_by : PortState → List ℕ → ℕ
free_by port bytes =
    if nat_le (own_index_word port.plan port.side port.queue + 4) (memory_size port.plan port.side)
    then free_in_memory (sizes_seen port).entries (head_seen port) (index_word_in port.plan (λ side at len. bytes_at at len bytes) port.side port.queue)
    else 0

plain_bytes : (bridge : Bridge) (side : Side) → bridge_bytes_of (plain_bridge bridge) side ≡ bridge_bytes_of bridge side
plain_bytes bridge A = refl
plain_bytes bridge B = refl

free_same : (port : PortState) (before after : Bridge) → plain_bridge after ≡ plain_bridge before → free_answer port after ≡ free_answer port before
unfolding free_by
free_same port before after plain =
    ap (free_by port) (sym (plain_bytes after port.side) ∙ ap (λ (bridge : Bridge). bridge_bytes_of bridge port.side) plain ∙ plain_bytes before port.side)

-- A frame that wasn't begun leaves the queue as it was

was_begun : BeginAnswer → Bool
was_begun (QueueBegun number) = true
was_begun answer = false

-- If a begin is answered as one that was begun, the queue begins it.
pub begins_where : (answer : BeginAnswer) → IsBegun (of_begin answer) → (number : ℕ) × (answer ≡ QueueBegun number)
begins_where (QueueBegun number) is = (number, refl)
begins_where LinkDown is = absurd (cc is)
begins_where NotReady is = absurd (cc is)
begins_where Closed is = absurd (cc is)
begins_where (TooLong len most) is = absurd (cc is)
begins_where Busy is = absurd (cc is)
begins_where (NoRoom head tail) is = absurd (cc is)

unbegun_by : (refusal : Option BeginAnswer) (begun : Begun) (queue : QueueState) (new : PortState) → was_begun (answer_unless refusal begun) ≡ false
    → port_unless refusal queue (where_begun queue.port new begun) ≡ queue
unfolding was_begun
unbegun_by (Some refusal) begun queue new is = refl
unbegun_by None (BegunOk number) queue new is = absurd (cc is)
unbegun_by None begun queue new is = refl

unbegun : (queue : QueueState) (bridge : Bridge) (frame : List ℕ) → was_begun (begin_answer queue bridge (length frame)) ≡ false → queue_after_begin queue bridge frame ≡ queue
unbegun queue bridge frame =
    unbegun_by (sender_refusal queue bridge) (port_begin_answer queue.port bridge (length frame)) queue (port_frame_begun queue.port frame)

-- Begun and then counted

-- what is begun is counted in its session
pub begun_counts : (answer : Answer) (session : ℕ) (part : QueuePart) → IsBegun answer → accepted_where_begun answer session part ≡ record part { accepted = one_more part.accepted session }
begun_counts (OkNumber number) session part begun = refl
begun_counts answer session part begun = absurd (cc begun)

-- and once a device's frame is begun, the device and its counters are as the move has them
counted_by : (answer : Answer) (part : QueuePart) (bridge : Bridge) (frame : List ℕ) → IsBegun answer
    → (let begun = accepted_where_begun answer bridge.link.session (record part { queue = queue_after_begin part.queue bridge frame }) in
    counted_begun begun (free_answer begun.queue.port bridge) (length frame) ≡ xbegun answer bridge part frame)
counted_by (OkNumber number) part bridge frame begun = refl
counted_by answer part bridge frame begun = absurd (cc begun)

-- a device whose frame is begun isn't stopped, so the queue's answer is the device's
pub begun_same : (stopped : Bool) (answer : BeginAnswer) → IsBegun (of_xbegin stopped answer) → of_xbegin stopped answer ≡ of_begin answer
begun_same false answer begun = refl
begun_same true LinkDown begun = refl
begun_same true NotReady begun = refl
begun_same true Closed begun = refl
begun_same true (TooLong len most) begun = refl
begun_same true Busy begun = refl
begun_same true (QueueBegun number) begun = absurd (cc begun)
begun_same true (NoRoom head tail) begun = absurd (cc begun)

pub record FrameTurned (part : QueuePart) (bridge : Bridge) (frame : List ℕ) (answer : Answer) (new : QueuePart) : Type 0 where
  pub answered : answer ≡ (frame_turn part bridge frame).answer
  pub turned : new ≡ (frame_turn part bridge frame).part

-- a frame that was begun and then counted took its turn
pub frame_counted : (part begun new : QueuePart) (bridge after : Bridge) (frame : List ℕ) (answer : Answer) → IsBegun (frame_turn part bridge frame).answer
    → answer ≡ (begin_turn part bridge frame).answer → begun ≡ (begin_turn part bridge frame).part → plain_bridge after ≡ plain_bridge bridge
    → new ≡ counted_begun begun (free_answer begun.queue.port after) (length frame) → FrameTurned part bridge frame answer new
frame_counted part begun new bridge after frame answer begins answered turned plain counted =
    let ended = begin_answer part.queue bridge (length frame) in
    let started = (begin_turn part bridge frame).part in
    let same : of_xbegin part.flow.stopped ended ≡ of_begin ended = begun_same part.flow.stopped ended begins in
    record {
      answered = answered ∙ sym same;
      turned = counted
          ∙ ap (λ (begun : QueuePart). counted_begun begun (free_answer begun.queue.port after) (length frame)) turned
          ∙ ap (λ (free : ℕ). counted_begun started free (length frame)) (free_same started.queue.port bridge after plain)
          ∙ counted_by (of_begin ended) part bridge frame (subst IsBegun same begins)
          ∙ ap (λ (answer : Answer). xbegun answer bridge part frame) (sym same);
    }

-- an Ethernet frame has its header before its payload
pub frame_length : (dst src : List ℕ) (kind : ℕ) (payload : List ℕ) → length dst ≡ 6 → length src ≡ 6 → length (ethernet_frame dst src kind payload) ≡ 14 + length payload
frame_length dst src kind payload to from = simp length-append (omega (arith, to, from))

-- what a device's frame is answered follows from its length
pub answered_by_length : (part : QueuePart) (bridge : Bridge) (dst src : List ℕ) (kind : ℕ) (payload : List ℕ) (given : Answer) (size : ℕ) → length dst ≡ 6 → length src ≡ 6
    → size ≡ length payload → given ≡ device_frame_answer part bridge (14 + size) → given ≡ (frame_turn part bridge (ethernet_frame dst src kind payload)).answer
answered_by_length part bridge dst src kind payload given size to from same is =
    is ∙ ap (device_frame_answer part bridge) (ap (λ size. 14 + size) same ∙ sym (frame_length dst src kind payload to from))

-- an answer by which a frame was begun
pub begins_by : (given answer : Answer) (number : ℕ) → given ≡ answer → given ≡ OkNumber number → IsBegun answer
begins_by given answer number same begun = ap is_begun (sym same ∙ begun)

-- the same, if it wasn't
begins_not : (given : Answer) → ((number : ℕ) → given ≡ OkNumber number → ⊥) → is_begun given ≡ false
begins_not (OkNumber number) other = absurd (other number refl)
begins_not given other = refl

-- so a turn of another answer is refused
pub refused_by_answer : (given answer : Answer) → given ≡ answer → ((number : ℕ) → given ≡ OkNumber number → ⊥) → is_begun answer ≡ false
refused_by_answer given answer same other = ap is_begun (sym same) ∙ begins_not given other

-- Refusals

-- an answer other than a beginning's
not_was : (answer : BeginAnswer) → ((number : ℕ) → answer ≡ QueueBegun number → ⊥) → was_begun answer ≡ false
unfolding was_begun
not_was (QueueBegun number) other = absurd (other number refl)
not_was answer other = refl

-- a begin that is refused leaves the queue and its counts
pub refused_begin : (part : QueuePart) (bridge : Bridge) (frame : List ℕ) → ((number : ℕ) → begin_answer part.queue bridge (length frame) ≡ QueueBegun number → ⊥) → part ≡ (begin_turn part bridge frame).part
refused_begin part bridge frame other =
    let answer = begin_answer part.queue bridge (length frame) in
    ap (λ (queue : QueueState). record part { queue = queue }) (sym (unbegun part.queue bridge frame (not_was answer other)))
    ∙ sym (not_begun answer bridge.link.session (record part { queue = queue_after_begin part.queue bridge frame }) other)

-- a device's begin that is refused is counted once
refused_by : (answer : Answer) (bridge : Bridge) (part : QueuePart) (frame : List ℕ) → is_begun answer ≡ false → refused_once part ≡ xbegun answer bridge part frame
refused_by (OkNumber number) bridge part frame other = absurd (cc other)
refused_by answer bridge part frame other = refl

-- the same of the frame's own turn
pub refused_frame : (part : QueuePart) (bridge : Bridge) (frame : List ℕ) → is_begun (frame_turn part bridge frame).answer ≡ false → refused_once part ≡ (frame_turn part bridge frame).part
refused_frame part bridge frame other = refused_by (frame_turn part bridge frame).answer bridge part frame other

-- What a beginning leaves of the counters

begun_counters : (answer : Answer) (session : ℕ) (part : QueuePart) → (accepted_where_begun answer session part).counters ≡ part.counters
begun_counters (OkNumber number) session part = refl
begun_counters answer session part = refl

-- A begin of a frame that is no device's leaves the counters of the queue as they were.
pub begin_counters : (part : QueuePart) (bridge : Bridge) (frame : List ℕ) → (begin_turn part bridge frame).part.counters ≡ part.counters
begin_counters part bridge frame =
    begun_counters (of_begin (begin_answer part.queue bridge (length frame))) bridge.link.session (record part { queue = queue_after_begin part.queue bridge frame })
