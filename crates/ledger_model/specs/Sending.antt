-- Sending: a frame or a link-down entry is begun where the ring has room, and its writes are posted one by one.
use Rattle.std.specs.Prelude.{ℕ, ◌+◌, ◌-◌, ◌||◌, Bool, false, not, Option, None, List, [], ◌∷◌, ◌++◌, length, nat_lt, if◌then◌else◌}
use Rattle.step_kinds.specs.Bits.{with_bit, has_bit}
use Rattle.step_kinds.specs.declared.names.Side.{Side}
use Rattle.step_kinds.specs.declared.plan.DevPlan.{DevPlan}
use Rattle.step_kinds.specs.declared.steps.Label.{Label}
use Rattle.step_kinds.specs.declared.steps.Answer.{Answer}
use Rattle.step_kinds.specs.declared.steps.Answer.TheVariants.{OkNumber, LinkDown, NotReady, Closed, TooLong, Busy, Stopped, Again, Idle, Posted, Awake}
use Rattle.lane_model.specs.Lane.{Entry, GoesDown}
pub use Rattle.lane_model.specs.Tests.{is_empty_list}
use Rattle.pair_model.specs.Device.{Flow, stopped_after_send, stays_stopped, count_accepted, count_refused}
use Rattle.pair_model.specs.Refusals.{Test, OfLink, OfJoined, OfClosed, OfLength, OfBusy, OfDevice, OfRoom, in_begin_order}
use Rattle.ledger_model.specs.Labels.{labels_of}
use Rattle.ledger_model.specs.Ledger.{LanePart, DevPart, PairPart, side_of, lane_of, dev_of, tally_of, with_side_part, with_lane, with_dev, with_tally, link_up, posts, head_in}
use Rattle.ledger_model.specs.Pieces.{pieces_of}
use Rattle.ledger_model.specs.Reading.{Reading}
use Rattle.ledger_model.specs.Outcome.{Outcome, refuse_if, decided}
use Rattle.pair_model.specs.Ethernet.{ethernet_frame}
use Rattle.pair_model.specs.Sizes.{Sizes, pieces_in}

-- the tests of a side that is to send on a queue, whatever it sends
abbrev pub sender_refuses : PairPart → Side → ℕ → Test → Option Answer → Option Answer
sender_refuses pair side queue OfLink later = refuse_if (not (link_up pair)) LinkDown later
sender_refuses pair side queue OfJoined later = refuse_if (not (has_bit (side_of pair side).joined queue)) NotReady later
sender_refuses pair side queue OfClosed later = refuse_if (has_bit (side_of pair side).closed queue) Closed later
sender_refuses pair side queue test later = later

abbrev pub refuse_sender : PairPart → Side → ℕ → Option Answer → Option Answer
refuse_sender pair side queue later = in_begin_order (sender_refuses pair side queue) later

abbrev pub refuse_long : ℕ → ℕ → Option Answer → Option Answer
refuse_long len largest later = refuse_if (nat_lt largest len) (TooLong len largest) later

-- the lane has entries or writes left to post
abbrev pub is_busy : LanePart → Bool
is_busy lane = not (is_empty_list lane.todo) || not (is_empty_list lane.waiting)

abbrev pub refuse_busy : LanePart → Option Answer → Option Answer
refuse_busy lane later = refuse_if (is_busy lane) Busy later

-- the ring has not this many entries free
abbrev pub refuse_full : Sizes → Reading → LanePart → Side → ℕ → ℕ → Option Answer → Option Answer
refuse_full sizes reading lane side queue needed later =
    refuse_if (nat_lt (reading.free side queue) needed) (Again (head_in sizes lane) (reading.index_word side queue)) later

-- the tests of a beginning that takes this many entries
abbrev pub entries_refuse : Sizes → Reading → PairPart → Side → ℕ → ℕ → Test → Option Answer → Option Answer
entries_refuse sizes reading pair side queue needed OfBusy later = refuse_busy (lane_of pair side queue) later
entries_refuse sizes reading pair side queue needed OfRoom later = refuse_full sizes reading (lane_of pair side queue) side queue needed later
entries_refuse sizes reading pair side queue needed test later = sender_refuses pair side queue test later

-- the tests of a frame of this many bytes
abbrev pub frame_refuses : Sizes → Reading → PairPart → Side → ℕ → ℕ → Test → Option Answer → Option Answer
frame_refuses sizes reading pair side queue len OfLength later = refuse_long len sizes.most later
frame_refuses sizes reading pair side queue len test later = entries_refuse sizes reading pair side queue (pieces_in sizes.largest len) test later

abbrev pub begin_refusal : Sizes → Reading → PairPart → Side → ℕ → ℕ → Option Answer
begin_refusal sizes reading pair side queue len = in_begin_order (frame_refuses sizes reading pair side queue len) None

abbrev pub qpdown_refusal : Sizes → Reading → PairPart → Side → ℕ → Option Answer
qpdown_refusal sizes reading pair side queue = in_begin_order (entries_refuse sizes reading pair side queue 1) None

-- the lane with the first of these entries begun: all its writes are left to post, and the others wait
abbrev pub begun_lane : ℕ → LanePart → List Entry → LanePart
begun_lane queue lane [] = lane
begun_lane queue lane (first ∷ others) =
    record lane { sent = lane.sent ++ first ∷ []; waiting = others; todo = labels_of queue (length lane.sent) first }

-- the lane with a frame begun as these pieces: the next frame has the next number
abbrev pub frame_begun : ℕ → LanePart → List Entry → LanePart
frame_begun queue lane pieces = record (begun_lane queue lane pieces) { told = lane.told + 1 }

-- one frame more is accepted in the pair's session
abbrev pub counts_accepted : PairPart → Side → ℕ → PairPart
counts_accepted pair side queue =
    let tally = tally_of pair side queue pair.link.session in
    with_tally pair side queue pair.link.session (record tally { accepted = tally.accepted + 1 })

abbrev pub begun : Sizes → PairPart → Side → ℕ → List ℕ → PairPart
begun sizes pair side queue bytes =
    counts_accepted (with_lane pair side queue (frame_begun queue (lane_of pair side queue) (pieces_of sizes.largest bytes))) side queue

abbrev pub begin_step : Sizes → Reading → PairPart → Side → ℕ → List ℕ → Outcome
begin_step sizes reading pair side queue bytes =
    decided pair (begin_refusal sizes reading pair side queue (length bytes)) (OkNumber (lane_of pair side queue).told)
    (begun sizes pair side queue bytes)

-- a link-down entry: the queue is closed on this side at once
abbrev pub qpdown_step : Sizes → Reading → PairPart → Side → ℕ → Outcome
qpdown_step sizes reading pair side queue =
    let lane = lane_of pair side queue in
    let own = side_of pair side in
    decided pair (qpdown_refusal sizes reading pair side queue) (OkNumber lane.told)
    (with_side_part (with_lane pair side queue (begun_lane queue lane (GoesDown ∷ []))) side (record own { closed = with_bit own.closed queue }))

-- a device's thresholds and its state
abbrev pub flow_of : DevPlan → DevPart → Flow
flow_of plan dev = record { stop = plan.stop; start = plan.start; stopped = dev.stopped }

-- the tests of a device's frame
abbrev pub xbegin_refuses : Sizes → Reading → PairPart → DevPart → Side → ℕ → ℕ → Test → Option Answer → Option Answer
xbegin_refuses sizes reading pair dev side queue len OfDevice later = refuse_if dev.stopped Stopped later
xbegin_refuses sizes reading pair dev side queue len test later = frame_refuses sizes reading pair side queue len test later

abbrev pub xbegin_refusal : Sizes → Reading → PairPart → DevPart → Side → ℕ → ℕ → Option Answer
xbegin_refusal sizes reading pair dev side queue len = in_begin_order (xbegin_refuses sizes reading pair dev side queue len) None

-- a refused frame is counted, and nothing else changes
abbrev pub counts_refused : PairPart → Side → ℕ → PairPart
counts_refused pair side queue =
    let dev = dev_of pair side queue in
    with_dev pair side queue (record dev { counters = count_refused dev.counters })

-- a frame that was accepted is counted, and the device is stopped where it left fewer entries free than its threshold
abbrev pub counts_sent : DevPlan → PairPart → Side → ℕ → ℕ → ℕ → PairPart
counts_sent plan pair side queue len free =
    let dev = dev_of pair side queue in
    with_dev pair side queue (record { stopped = stopped_after_send (flow_of plan dev) free; counters = count_accepted dev.counters len })

-- a device's Ethernet frame is begun as any frame; its refusal changes the device's count of refusals alone
abbrev pub xbegin_step : Sizes → Reading → DevPlan → PairPart → Side → ℕ → List ℕ → ℕ → List ℕ → Outcome
xbegin_step sizes reading plan pair side queue dst kind payload =
    let frame = ethernet_frame dst plan.address kind payload in
    decided (counts_refused pair side queue) (xbegin_refusal sizes reading pair (dev_of pair side queue) side queue (length frame))
    (OkNumber (lane_of pair side queue).told)
    (counts_sent plan (begun sizes pair side queue frame) side queue (length frame)
    (reading.free side queue - pieces_in sizes.largest (length frame)))

-- the first of the entries that wait is begun
abbrev pub with_next : ℕ → LanePart → List Entry → LanePart
with_next queue lane [] = lane
with_next queue lane (entry ∷ others) =
    record lane { sent = lane.sent ++ entry ∷ []; waiting = others; todo = labels_of queue (length lane.sent) entry }

-- where all writes of an entry were posted, the next of the frame's entries is begun
abbrev pub next_begun : ℕ → LanePart → LanePart
next_begun queue lane = if is_empty_list lane.todo then with_next queue lane lane.waiting else lane

-- a write of a ring goes out, and is lost where the peer has no such window
abbrev pub posts_through : Reading → PairPart → Side → Label → PairPart
posts_through reading pair side label = if reading.reaches side label then posts pair side label else pair

-- the next write that the lane has left is posted, whatever the link's state
abbrev pub post_first : Reading → PairPart → Side → ℕ → LanePart → List Label → Outcome
post_first reading pair side queue lane [] = record { answer = Idle; after = pair }
post_first reading pair side queue lane (label ∷ rest) =
    record { answer = Posted label; after = posts_through reading (with_lane pair side queue (record lane { todo = rest })) side label }

abbrev pub post_step : Reading → PairPart → Side → ℕ → Outcome
post_step reading pair side queue =
    let lane = next_begun queue (lane_of pair side queue) in
    post_first reading pair side queue lane lane.todo

-- a stopped device goes on where there is room again
abbrev pub wake_step : Reading → DevPlan → PairPart → Side → ℕ → Outcome
wake_step reading plan pair side queue =
    let dev = dev_of pair side queue in
    decided pair (refuse_if (stays_stopped (flow_of plan dev) (reading.free side queue)) Stopped None) Awake
    (with_dev pair side queue (record dev { stopped = false }))
