-- Landing and receiving: writes land at the peer in an order that the bridge allows. A receiver looks for the next
-- entry, copies it in parts, clears its flags and gives it back.
use Rattle.std.specs.Prelude.{ℕ, ◌+◌, Bool, true, false, not, Option, Some, None, List, [], ◌++◌, length, map, take, count_by, remove, slice_set, slice_get, nat_lt, if◌then◌else◌}
use Rattle.step_kinds.specs.Bits.{with_bit, has_bit}
use Rattle.step_kinds.specs.Sides.{other_side}
use Rattle.step_kinds.specs.declared.names.Side.{Side}
use Rattle.step_kinds.specs.declared.plan.PairPlan.{PairPlan}
use Rattle.step_kinds.specs.declared.steps.Label.{Label}
use Rattle.step_kinds.specs.declared.steps.Label.TheVariants.{Flag, Down, Bell, Index, Pad, Raw}
use Rattle.step_kinds.specs.declared.steps.Answer.{Answer}
use Rattle.step_kinds.specs.declared.steps.Answer.TheVariants.{NotReady, Closed, OutOfTurn, Empty, PeerDown, VerDiffers, Long, ReadyFrame, Copied as CopiedPart, Delivered, Cleared as ClearedFrame, Acked, Nothing, Blocked, Landed}
use Rattle.order_rules.specs.Order.{may_land}
use Rattle.lane_model.specs.Lane.{chunks_in}
pub use Rattle.lane_model.specs.Tests.{is_idle, is_copying, is_copied, is_cleared}
use Rattle.lane_model.specs.declared.Phase.TheVariants.{Idle, Copying, Copied, Cleared}
use Rattle.pair_model.specs.Device.{count_delivered}
use Rattle.ledger_model.specs.Ledger.{LanePart, SidePart, PairPart, side_of, lane_of, lane_to, dev_of, tally_of, with_side_part, with_lane, with_dev, with_tally}
use Rattle.ledger_model.specs.Outcome.{Outcome, refuse_if, decided}
use Rattle.pair_model.specs.Headers.{Found, NoEntry, ALinkDownEntry, AnotherVersion, TooManyBytes, AnEntry}
use Rattle.ledger_model.specs.Reading.{Reading}
use Rattle.ledger_model.specs.Sending.{posts_through}
use Rattle.pair_model.specs.Orders.{order_of}
use Rattle.pair_model.specs.Refusals.{Test, OfJoined, OfClosed, OfPhase, in_look_order}

-- What a landed write changes at the peer of the side that posted it. Fields of entries and raw bytes change memory
-- alone.
abbrev pub lands_on : PairPart → Side → Label → PairPart
lands_on pair side (Flag queue n) = with_lane pair side queue (record (lane_of pair side queue) { flagged = (lane_of pair side queue).flagged + 1 })
lands_on pair side (Down queue n) = with_lane pair side queue (record (lane_of pair side queue) { flagged = (lane_of pair side queue).flagged + 1 })
lands_on pair side (Bell queue) =
    let peer = side_of pair (other_side side) in
    with_side_part pair (other_side side) (record peer { pending = with_bit peer.pending queue })
lands_on pair side (Index queue n) =
    let lane = lane_of pair (other_side side) queue in
    with_lane pair (other_side side) queue (record lane { freed = n + 1 })
lands_on pair side (Pad i value) =
    let peer = side_of pair (other_side side) in
    with_side_part pair (other_side side) (record peer { pads = slice_set peer.pads i value })
lands_on pair side label = pair

-- how many raw writes are among the first of a list in flight
abbrev pub raws_before : List Label → ℕ → ℕ
raws_before labels place = count_by is_raw (take place labels) where
  is_raw : Label → Bool
  is_raw (Raw window offset len) = true
  is_raw label = false

-- the bytes of the raw writes in flight without those of the write at a place, if that is a raw one
abbrev pub poked_without : SidePart → ℕ → Label → List (List ℕ)
poked_without own place (Raw window offset len) = remove own.poked (raws_before own.flight place)
poked_without own place label = own.poked

-- the pair with the write at a place of a side's list taken out of it
abbrev pub taken_out : PairPart → Side → ℕ → Label → PairPart
taken_out pair side place label =
    let own = side_of pair side in
    with_side_part pair side (record own { flight = remove own.flight place; poked = poked_without own place label })

abbrev pub land_found : PairPlan → PairPart → Side → ℕ → Option Label → Outcome
land_found plan pair side place None = record { answer = Nothing; after = pair }
land_found plan pair side place (Some label) =
    decided pair (refuse_if (not (may_land (map (order_of plan side) (side_of pair side).flight) place)) Blocked None) (Landed label)
    (lands_on (taken_out pair side place label) side label)

abbrev pub land_step : PairPlan → PairPart → Side → ℕ → Outcome
land_step plan pair side place = land_found plan pair side place (slice_get (side_of pair side).flight place)

-- the queue is closed on a side
abbrev pub closes : PairPart → Side → ℕ → PairPart
closes pair side queue = with_side_part pair side (record (side_of pair side) { closed = with_bit (side_of pair side).closed queue })

-- the result of a look by what it finds: a link-down entry closes the queue on this side
abbrev pub look_at : PairPart → Side → ℕ → Found → Outcome
look_at pair side queue NoEntry = record { answer = Empty; after = pair }
look_at pair side queue ALinkDownEntry = record { answer = PeerDown; after = closes pair side queue }
look_at pair side queue (AnotherVersion seen own) = record { answer = VerDiffers seen own; after = pair }
look_at pair side queue (TooManyBytes len most) = record { answer = Long len most; after = pair }
look_at pair side queue (AnEntry len left) =
    let lane = lane_to pair side queue in
    record {
      answer = ReadyFrame lane.got len;
      after = with_lane pair (other_side side) queue (record lane { phase = Copying; part = 0; len = len; left = left });
    }

abbrev pub look_refuses : PairPart → Side → ℕ → Test → Option Answer → Option Answer
look_refuses pair side queue OfJoined later = refuse_if (not (has_bit (side_of pair side).joined queue)) NotReady later
look_refuses pair side queue OfClosed later = refuse_if (has_bit (side_of pair side).closed queue) Closed later
look_refuses pair side queue OfPhase later = refuse_if (not (is_idle (lane_to pair side queue).phase)) OutOfTurn later
look_refuses pair side queue test later = later

abbrev pub look_refusal : PairPart → Side → ℕ → Option Answer
look_refusal pair side queue = in_look_order (look_refuses pair side queue) None

abbrev pub look_step : Reading → PairPart → Side → ℕ → Outcome
look_step reading pair side queue =
    let found = look_at pair side queue (reading.found side queue) in
    decided pair (look_refusal pair side queue) found.answer found.after

-- one frame more is delivered in the pair's session, and counted by the device on the queue
abbrev pub counts_delivered : PairPart → Side → ℕ → ℕ → PairPart
counts_delivered pair side queue len =
    let session = pair.link.session in
    let tally = tally_of pair (other_side side) queue session in
    let dev = dev_of pair side queue in
    with_dev (with_tally pair (other_side side) queue session (record tally { delivered = tally.delivered + 1 })) side queue
    (record dev { counters = count_delivered dev.counters len })

-- The result of a copy, with the bytes of the frame that are copied then: the next part of the entry. With the last
-- part the entry is copied whole, and with the last entry of a frame the whole frame is delivered.
abbrev pub copy_of : PairPart → Side → ℕ → LanePart → List ℕ → Outcome
copy_of pair side queue lane gathered =
    if nat_lt (lane.part + 1) (chunks_in lane.len)
    then record {
      answer = CopiedPart lane.got lane.part;
      after = with_lane pair (other_side side) queue (record lane { part = lane.part + 1; gathered = gathered });
    }
    else if nat_lt 0 lane.left
    then record {
      answer = CopiedPart lane.got lane.part;
      after = with_lane pair (other_side side) queue (record lane { got = lane.got + 1; phase = Copied; gathered = gathered });
    }
    else record {
      answer = Delivered lane.done gathered;
      after =
          counts_delivered
          (with_lane pair (other_side side) queue (record lane { got = lane.got + 1; phase = Copied; gathered = []; done = lane.done + 1 }))
          side queue (length gathered);
    }

abbrev pub copy_step : Reading → PairPart → Side → ℕ → Outcome
copy_step reading pair side queue =
    let lane = lane_to pair side queue in
    let copied = copy_of pair side queue lane (lane.gathered ++ reading.part side queue) in
    decided pair (refuse_if (not (is_copying lane.phase)) OutOfTurn None) copied.answer copied.after

abbrev pub clear_step : PairPart → Side → ℕ → Outcome
clear_step pair side queue =
    let lane = lane_to pair side queue in
    decided pair (refuse_if (not (is_copied lane.phase)) OutOfTurn None) (ClearedFrame lane.cleared)
    (with_lane pair (other_side side) queue (record lane { cleared = lane.cleared + 1; phase = Cleared }))

-- the entry is given back: its index write is posted
abbrev pub ack_step : Reading → PairPart → Side → ℕ → Outcome
ack_step reading pair side queue =
    let lane = lane_to pair side queue in
    decided pair (refuse_if (not (is_cleared lane.phase)) OutOfTurn None) (Acked lane.acked)
    (posts_through reading (with_lane pair (other_side side) queue (record lane { acked = lane.acked + 1; phase = Idle })) side (Index queue lane.acked))
