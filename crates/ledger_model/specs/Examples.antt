-- Worked examples, each a list of steps and the answers that the definitions give.
use Rattle.std.specs.Prelude.{◌≡◌, ℕ, ◌+◌, ◌*◌, List, [], ◌∷◌, ◌++◌, length, map, drop, replicate, true, false, Some, None}
use Rattle.step_kinds.specs.declared.names.LaneName.{LaneName}
use Rattle.step_kinds.specs.declared.names.Side.{Side}
use Rattle.step_kinds.specs.declared.names.Side.TheVariants.{A, B}
use Rattle.step_kinds.specs.declared.plan.SidePlan.{SidePlan}
use Rattle.step_kinds.specs.declared.plan.PairPlan.{PairPlan}
use Rattle.step_kinds.specs.declared.plan.DevPlan.{DevPlan}
use Rattle.step_kinds.specs.declared.plan.Plan.{Plan}
use Rattle.step_kinds.specs.declared.steps.Label.TheVariants.{Chunk, Len, Ver, Flag, Down as DownFlag, Bell, Index, Pad}
use Rattle.step_kinds.specs.declared.steps.Answer.{Answer}
use Rattle.step_kinds.specs.declared.steps.Answer.TheVariants.{Ok as Done, OkSession, OkNumber, Dirty, NotEnabled, NotUp, NotClosing, NotDown, LinkDown, Already, Offered, Version, Queues, Windows, Size, Up, NotReady, Joined, Closed, TooLong, Busy, Stopped, Again, Idle, Posted, Nothing, Blocked, Landed, OutOfTurn, Empty, PeerDown, ReadyFrame, Delivered, Cleared, Acked, Awake, Irq as IrqBits, QueueShown, PadValue}
use Rattle.step_kinds.specs.declared.steps.Step.{Step}
use Rattle.step_kinds.specs.declared.steps.Step.TheVariants.{Enable, Train, Break, DropDone, Clean, Offer, Check, Ready, Join, Begin, QpDown, Xbegin, Post, Land, Look, Copy, Ack, Wake, Irq, Mask, Unmask, ShowQueue, ShowPad}
use Rattle.ledger_model.specs.Ledger.{tally_of}
use Rattle.ledger_model.specs.Log.{Answered, Memories, ledger_of, log_of, counters_in, posted_in, looked_in}
use Rattle.ledger_model.specs.Next.{fresh_pair}
use Rattle.ledger_model.specs.Reading.{reading_of}
use Rattle.pair_model.specs.Macros.{send, xmit, land_all, receive, offer_all}

-- a side of one window and one queue with 4,096 bytes
abbrev pub small_side : SidePlan
small_side = record { version = 4; queues = 1; windows = 1; size = 4096; cap = 4096 }

-- one pair of such sides with an mtu of 1,023: a ring of 4 entries, with payloads of up to 1,011 bytes
abbrev pub small_pair : PairPlan
small_pair = record { name = 112 ∷ []; a = small_side; b = small_side; mtu = 1023; up = true; strict = true; raw = false; class_a = replicate 16 0; class_b = replicate 16 0 }

abbrev pub plan_of : PairPlan → List DevPlan → Plan
plan_of pair devs = record { pairs = pair ∷ []; devs = devs; switches = []; steps = []; traffic = [] }

-- memories of which nothing is shown
abbrev pub no_memory : Memories
no_memory = λ log k side at len. []

abbrev pub answers : PairPlan → List DevPlan → List Step → List Answer
answers pair devs steps = map (λ made. made.answer) (log_of (plan_of pair devs) no_memory steps)

-- a frame of one byte
abbrev pub letter : List ℕ
letter = 97 ∷ []

abbrev pub sent_answers : ℕ → List Answer
sent_answers n = OkNumber n ∷ Posted (Chunk 0 n 0) ∷ Posted (Len 0 n) ∷ Posted (Ver 0 n) ∷ Posted (Flag 0 n) ∷ Posted (Bell 0) ∷ []

abbrev pub landed_answers : ℕ → List Answer
landed_answers n = Landed (Chunk 0 n 0) ∷ Landed (Len 0 n) ∷ Landed (Ver 0 n) ∷ Landed (Flag 0 n) ∷ Landed (Bell 0) ∷ []

abbrev pub received_answers : ℕ → List ℕ → List Answer
received_answers n frame = ReadyFrame n (length frame) ∷ Delivered n frame ∷ Cleared n ∷ Acked n ∷ []

-- a frame there and back
abbrev pub OneFrame : Type 0
OneFrame = answers small_pair [] (send small_pair 0 A 0 letter ++ land_all 0 A 5 ++ receive 0 B 0 1)
    ≡ sent_answers 0 ++ landed_answers 0 ++ received_answers 0 letter

-- the ring takes three frames
abbrev pub RingFull : Type 0
RingFull = answers small_pair [] (send small_pair 0 A 0 letter ++ send small_pair 0 A 0 letter ++ send small_pair 0 A 0 letter ++ Begin 0 A 0 letter ∷ [])
    ≡ sent_answers 0 ++ sent_answers 1 ++ sent_answers 2 ++ Again 3 3 ∷ []

-- an index write that landed gives one entry back
abbrev pub RoomAfterIndex : Type 0
RoomAfterIndex =
    drop 33 (answers small_pair []
    (send small_pair 0 A 0 letter ++ send small_pair 0 A 0 letter ++ send small_pair 0 A 0 letter ++ land_all 0 A 15 ++ receive 0 B 0 1 ++ Land 0 B 0 ∷ [] ++ send small_pair 0 A 0 letter ++ Begin 0 A 0 letter ∷ []))
    ≡ received_answers 0 letter ++ Landed (Index 0 0) ∷ [] ++ sent_answers 3 ++ Again 0 0 ∷ []

-- the largest payload is accepted, one byte more is too long, and a lane with writes left to post is busy
abbrev pub LongAndBusy : Type 0
LongAndBusy = answers small_pair [] (Begin 0 A 0 (replicate 1011 7) ∷ Begin 0 A 0 (replicate 1012 7) ∷ Begin 0 A 0 letter ∷ [])
    ≡ OkNumber 0 ∷ TooLong 1012 1011 ∷ Busy ∷ []

abbrev pub relaxed_pair : PairPlan
relaxed_pair = record small_pair { strict = false }

-- on a relaxed pair chunks land in any order, and the flags pass none of them
abbrev pub ChunksInAnyOrder : Type 0
ChunksInAnyOrder =
    drop 8 (answers relaxed_pair [] (send small_pair 0 A 0 (replicate 300 7) ++ Land 0 A 2 ∷ Land 0 A 4 ∷ Land 0 A 5 ∷ Land 0 A 4 ∷ Land 0 A 0 ∷ Land 0 A 0 ∷ land_all 0 A 2 ++ receive 0 B 0 3))
    ≡ Landed (Chunk 0 0 2) ∷ Blocked ∷ Blocked ∷ Blocked ∷ Landed (Chunk 0 0 0) ∷ Landed (Chunk 0 0 1) ∷ Landed (Len 0 0) ∷ Landed (Ver 0 0)
    ∷ Empty ∷ OutOfTurn ∷ OutOfTurn ∷ OutOfTurn ∷ OutOfTurn ∷ OutOfTurn ∷ []

-- a chunk of a later frame lands first, and the earlier frame is received unchanged
abbrev pub LaterChunkFirst : Type 0
LaterChunkFirst =
    drop 12 (answers relaxed_pair [] (send small_pair 0 A 0 letter ++ send small_pair 0 A 0 (98 ∷ []) ++ Land 0 A 5 ∷ land_all 0 A 4 ++ receive 0 B 0 1 ++ Look 0 B 0 ∷ []))
    ≡ Landed (Chunk 0 1 0) ∷ Landed (Chunk 0 0 0) ∷ Landed (Len 0 0) ∷ Landed (Ver 0 0) ∷ Landed (Flag 0 0) ∷ received_answers 0 letter ++ Empty ∷ []

-- the flags may not land before earlier writes, the length may, and past the list is nothing
abbrev pub FlagPassesNothing : Type 0
FlagPassesNothing = drop 6 (answers relaxed_pair [] (send small_pair 0 A 0 letter ++ Land 0 A 3 ∷ Land 0 A 1 ∷ Land 0 A 9 ∷ []))
    ≡ Blocked ∷ Landed (Len 0 0) ∷ Nothing ∷ []

-- index writes are strict on every pair
abbrev pub IndexStaysStrict : Type 0
IndexStaysStrict =
    drop 28 (answers relaxed_pair [] (send small_pair 0 A 0 letter ++ send small_pair 0 A 0 letter ++ land_all 0 A 10 ++ receive 0 B 0 1 ++ receive 0 B 0 1 ++ Land 0 B 1 ∷ Land 0 B 0 ∷ []))
    ≡ drop 6 (received_answers 0 letter ++ received_answers 1 letter) ++ Blocked ∷ Landed (Index 0 0) ∷ []

-- a link that is lost in the middle of a frame, a whole handshake, and a second session in which the number is 0 again
abbrev pub SecondSession : Type 0
SecondSession =
    answers small_pair []
    (Begin 0 A 0 letter ∷ Post 0 A 0 ∷ Break 0 ∷ Post 0 A 0 ∷ ShowQueue 0 A 0 ∷ DropDone 0 ∷ Clean 0 A ∷ Clean 0 B ∷ Enable 0 A ∷ Enable 0 B ∷ Train 0
    ∷ offer_all 0 A 1 ++ offer_all 0 B 1 ++ land_all 0 A 5 ++ land_all 0 B 5
    ++ Check 0 A ∷ Check 0 B ∷ Ready 0 A 0 ∷ Ready 0 B 0 ∷ Land 0 A 0 ∷ Land 0 B 0 ∷ Join 0 A 0 ∷ Join 0 B 0 ∷ Look 0 B 0 ∷ Begin 0 A 0 (98 ∷ []) ∷ [])
    ≡ OkNumber 0 ∷ Posted (Chunk 0 0 0) ∷ Done ∷ Posted (Len 0 0) ∷ QueueShown 1 (Some (Chunk 0 0 0)) ∷ Done ∷ Done ∷ Done ∷ Done ∷ Done ∷ OkSession 2
    ∷ offered ++ offered ++ landed ++ landed
    ++ Up ∷ Up ∷ Done ∷ Done ∷ Landed (Pad 1 1) ∷ Landed (Pad 1 1) ∷ Joined ∷ Joined ∷ Empty ∷ OkNumber 0 ∷ []
  where
    offered : List Answer
    offered = Offered 4 ∷ Offered 5 ∷ Offered 3 ∷ Offered 2 ∷ Offered 0 ∷ []

    landed : List Answer
    landed = Landed (Pad 4 0) ∷ Landed (Pad 5 4096) ∷ Landed (Pad 3 1) ∷ Landed (Pad 2 1) ∷ Landed (Pad 0 4) ∷ []

-- in a closing link a flag lands and begin is refused; a drop empties the list, the landed frame is received, and a
-- clean ends the queue
abbrev pub BreakWithFlagInFlight : Type 0
BreakWithFlagInFlight =
    drop 9 (answers small_pair []
    (send small_pair 0 A 0 letter ++ land_all 0 A 3 ++ Break 0 ∷ Land 0 A 0 ∷ Begin 0 A 0 letter ∷ DropDone 0 ∷ ShowQueue 0 A 0 ∷ receive 0 B 0 1 ++ Clean 0 B ∷ Look 0 B 0 ∷ []))
    ≡ Done ∷ Landed (Flag 0 0) ∷ LinkDown ∷ Done ∷ QueueShown 0 None ∷ received_answers 0 letter ++ Done ∷ NotReady ∷ []

-- after a drop a side is dirty until its clean, and a train needs both sides
abbrev pub DirtyAndNotEnabled : Type 0
DirtyAndNotEnabled = answers small_pair [] (Break 0 ∷ DropDone 0 ∷ Enable 0 A ∷ Clean 0 A ∷ Enable 0 A ∷ Train 0 ∷ [])
    ≡ Done ∷ Done ∷ Dirty ∷ Done ∷ Done ∷ NotEnabled ∷ []

-- link steps out of their state, and a trained session without a joined queue
abbrev pub LinkStepsOutOfState : Type 0
LinkStepsOutOfState =
    answers small_pair []
    (Break 0 ∷ Break 0 ∷ DropDone 0 ∷ DropDone 0 ∷ Clean 0 A ∷ Clean 0 B ∷ Enable 0 A ∷ Enable 0 B ∷ Train 0 ∷ Clean 0 A ∷ Begin 0 A 0 letter ∷ [])
    ≡ Done ∷ NotUp ∷ Done ∷ NotClosing ∷ Done ∷ Done ∷ Done ∷ Done ∷ OkSession 2 ∷ NotDown ∷ NotReady ∷ []

-- a check answers the first number of the peer that differs, or is too large
abbrev pub checked : SidePlan → SidePlan → List Answer
checked own peer =
    drop (2 * peer.windows + 3 + 11)
    (answers (record small_pair { a = own; b = peer; up = false }) []
    (Enable 0 A ∷ Enable 0 B ∷ Train 0 ∷ Check 0 A ∷ offer_all 0 B peer.windows ++ land_all 0 B 7 ++ Check 0 A ∷ []))

abbrev pub CheckRefusesVersion : Type 0
CheckRefusesVersion = checked small_side (record small_side { version = 3 }) ≡ Version 3 4 ∷ []

abbrev pub CheckRefusesQueues : Type 0
CheckRefusesQueues = checked small_side (record small_side { queues = 2 }) ≡ Queues 2 1 ∷ []

abbrev pub CheckRefusesWindows : Type 0
CheckRefusesWindows = checked small_side (record small_side { windows = 2 }) ≡ Windows 2 1 ∷ []

abbrev pub CheckRefusesSize : Type 0
CheckRefusesSize = checked (record small_side { cap = 4096 }) (record small_side { size = 8192 }) ≡ Size 8192 4096 ∷ []

-- on a pair that starts up each step of the handshake was made already
abbrev pub AlreadyAgreed : Type 0
AlreadyAgreed = answers small_pair [] (Check 0 A ∷ offer_all 0 A 1 ++ Ready 0 A 0 ∷ Join 0 A 0 ∷ ShowPad 0 B 0 ∷ [])
    ≡ replicate 8 Already ++ PadValue 4 ∷ []

-- a masked doorbell stays pending and shows after it is unmasked, once
abbrev pub MaskedDoorbell : Type 0
MaskedDoorbell =
    drop 12 (answers small_pair [] (Mask 0 B 1 ∷ send small_pair 0 A 0 letter ++ land_all 0 A 5 ++ Irq 0 B ∷ Unmask 0 B 1 ∷ Irq 0 B ∷ Irq 0 B ∷ receive 0 B 0 1))
    ≡ IrqBits 0 ∷ Done ∷ IrqBits 1 ∷ IrqBits 0 ∷ received_answers 0 letter

-- a link-down entry closes the queue at the sender at once and at the receiver when it is looked at
abbrev pub LinkDownFrame : Type 0
LinkDownFrame =
    answers small_pair [] (QpDown 0 A 0 ∷ Begin 0 A 0 letter ∷ replicate 4 (Post 0 A 0) ++ land_all 0 A 3 ++ Look 0 B 0 ∷ Begin 0 B 0 letter ∷ Look 0 B 0 ∷ [])
    ≡ OkNumber 0 ∷ Closed ∷ Posted (Len 0 0) ∷ Posted (Ver 0 0) ∷ Posted (DownFlag 0 0) ∷ Posted (Bell 0)
    ∷ Landed (Len 0 0) ∷ Landed (Ver 0 0) ∷ Landed (DownFlag 0 0) ∷ PeerDown ∷ Closed ∷ Closed ∷ []

-- a device stops where the room falls below its threshold and wakes where it is back
abbrev pub device : Side → ℕ → DevPlan
device side last = record { name = 100 ∷ []; pair = 0; side = side; queue = 0; address = 2 ∷ 0 ∷ 0 ∷ 0 ∷ 0 ∷ last ∷ []; stop = 2; start = 3 }

abbrev pub DeviceStopsAndWakes : Type 0
DeviceStopsAndWakes =
    answers small_pair (device A 1 ∷ device B 2 ∷ [])
    (xmit small_pair 0 A 0 0 address 2048 letter ++ xmit small_pair 0 A 0 0 address 2048 letter ++ Xbegin 0 A 0 0 address 2048 letter ∷ Wake 0 A 0 0
    ∷ land_all 0 A 10 ++ receive 0 B 0 1 ++ receive 0 B 0 1 ++ land_all 0 B 2 ++ Wake 0 A 0 0 ∷ [])
    ≡ sent_answers 0 ++ sent_answers 1 ++ Stopped ∷ Stopped ∷ landed_answers 0 ++ landed_answers 1
    ++ received_answers 0 frame ++ received_answers 1 frame ++ Landed (Index 0 0) ∷ Landed (Index 0 1) ∷ Awake ∷ []
  where
    address : List ℕ
    address = 2 ∷ 0 ∷ 0 ∷ 0 ∷ 0 ∷ 2 ∷ []

    frame : List ℕ
    frame = 2 ∷ 0 ∷ 0 ∷ 0 ∷ 0 ∷ 2 ∷ 2 ∷ 0 ∷ 0 ∷ 0 ∷ 0 ∷ 1 ∷ 8 ∷ 0 ∷ 97 ∷ []

-- a second look and an early ack are out of turn, and so is a second copy; a lane without writes left answers idle
abbrev pub StepByStep : Type 0
StepByStep =
    drop 10 (answers small_pair [] (send small_pair 0 A 0 letter ++ land_all 0 A 4 ++ Look 0 B 0 ∷ Look 0 B 0 ∷ Ack 0 B 0 ∷ Copy 0 B 0 ∷ Copy 0 B 0 ∷ Post 0 A 0 ∷ []))
    ≡ ReadyFrame 0 1 ∷ OutOfTurn ∷ OutOfTurn ∷ Delivered 0 letter ∷ OutOfTurn ∷ Idle ∷ []

-- on a link that is down each step that needs one is refused
abbrev pub LinkIsNeeded : Type 0
LinkIsNeeded =
    answers (record small_pair { up = false }) []
    (Offer 0 A ∷ Check 0 A ∷ Ready 0 A 0 ∷ Join 0 A 0 ∷ Begin 0 A 0 letter ∷ QpDown 0 A 0 ∷ Xbegin 0 A 0 0 [] 2048 letter ∷ [])
    ≡ replicate 7 LinkDown

-- each frame is counted once where it is accepted and once where it is delivered, in its session
abbrev pub TalliesCount : Type 0
TalliesCount =
    tally_of (ledger_of (plan_of small_pair []) no_memory (send small_pair 0 A 0 letter ++ send small_pair 0 A 0 letter ++ land_all 0 A 5 ++ receive 0 B 0 1) 0) A 0 1
    ≡ record { accepted = 2; delivered = 1 }

-- a device's frames are counted where they are accepted and where they are refused, and the frames that come to the
-- peer's device by their bytes, a short one apart
abbrev pub CountersCount : Type 0
CountersCount =
    map (counters_in plan log) (end A ∷ end B ∷ [])
    ≡ record { tx = 1; tx_bytes = 15; refused = 2; rx = 0; rx_bytes = 0; short = 0 } ∷ record { tx = 0; tx_bytes = 0; refused = 0; rx = 1; rx_bytes = 15; short = 1 } ∷ []
  where
    plan : Plan
    plan = plan_of small_pair (device A 1 ∷ device B 2 ∷ [])

    end : Side → LaneName
    end side = record { pair = 0; from = side; queue = 0 }

    address : List ℕ
    address = 2 ∷ 0 ∷ 0 ∷ 0 ∷ 0 ∷ 2 ∷ []

    log : List Answered
    log =
        log_of plan no_memory
        (send small_pair 0 A 0 letter ++ xmit small_pair 0 A 0 0 address 2048 letter ++ Xbegin 0 A 0 0 address 2048 letter ∷ Xbegin 0 A 0 0 address 2048 letter
        ∷ land_all 0 A 10 ++ receive 0 B 0 1 ++ receive 0 B 0 1)

-- what was posted, in its order, and the copies made of the entry that was found last
abbrev pub PostsAndCopies : Type 0
PostsAndCopies =
    (posted_in log (record { pair = 0; from = A; queue = 0 }) ≡ Chunk 0 0 0 ∷ Chunk 0 0 1 ∷ Chunk 0 0 2 ∷ Len 0 0 ∷ Ver 0 0 ∷ Flag 0 0 ∷ Bell 0 ∷ Chunk 0 1 0 ∷ [])
    × (looked_in log 0 B 0 ≡ Some (record { number = 0; len = 300; copies = 2 }))
  where
    log : List Answered
    log =
        log_of (plan_of small_pair []) no_memory
        (send small_pair 0 A 0 (replicate 300 7) ++ land_all 0 A 7 ++ Look 0 B 0 ∷ Copy 0 B 0 ∷ Copy 0 B 0 ∷ Begin 0 A 0 letter ∷ Post 0 A 0 ∷ [])

-- a train begins the next session
abbrev pub SessionsCountUp : Type 0
SessionsCountUp =
    (ledger_of (plan_of small_pair []) no_memory (Break 0 ∷ DropDone 0 ∷ Clean 0 A ∷ Clean 0 B ∷ Enable 0 A ∷ Enable 0 B ∷ Train 0 ∷ []) 0).link.session ≡ 2

-- what a sender reads of its room: on a raw pair its index word as it is in memory, and on any other the ledger
abbrev pub nines : Side → ℕ → ℕ → List ℕ
nines = λ side at len. replicate len 9

abbrev pub RawPairsReadBytes : Type 0
RawPairsReadBytes =
    ((reading_of (record small_pair { raw = true }) nines (fresh_pair small_pair)).index_word A 0 ≡ 151587081)
    × ((reading_of (record small_pair { raw = true }) nines (fresh_pair small_pair)).free A 0 ≡ 0)
    × ((reading_of small_pair nines (fresh_pair small_pair)).index_word A 0 ≡ 3) × ((reading_of small_pair nines (fresh_pair small_pair)).free A 0 ≡ 3)

-- what is in flight when a link is dropped is gone, and lands no more
abbrev pub DropEmptiesTheLists : Type 0
DropEmptiesTheLists =
    drop 6 (answers small_pair [] (send small_pair 0 A 0 letter ++ Break 0 ∷ DropDone 0 ∷ ShowQueue 0 A 0 ∷ Land 0 A 0 ∷ []))
    ≡ Done ∷ Done ∷ QueueShown 0 None ∷ Nothing ∷ []

pub record ExamplesHold : Type 0 where
  pub one_frame : OneFrame
  pub ring_full : RingFull
  pub room_after_index : RoomAfterIndex
  pub long_and_busy : LongAndBusy
  pub chunks_in_any_order : ChunksInAnyOrder
  pub later_chunk_first : LaterChunkFirst
  pub flag_passes_nothing : FlagPassesNothing
  pub index_stays_strict : IndexStaysStrict
  pub second_session : SecondSession
  pub break_with_flag_in_flight : BreakWithFlagInFlight
  pub dirty_and_not_enabled : DirtyAndNotEnabled
  pub link_steps_out_of_state : LinkStepsOutOfState
  pub check_refuses_version : CheckRefusesVersion
  pub check_refuses_queues : CheckRefusesQueues
  pub check_refuses_windows : CheckRefusesWindows
  pub check_refuses_size : CheckRefusesSize
  pub already_agreed : AlreadyAgreed
  pub masked_doorbell : MaskedDoorbell
  pub link_down_frame : LinkDownFrame
  pub device_stops_and_wakes : DeviceStopsAndWakes
  pub step_by_step : StepByStep
  pub link_is_needed : LinkIsNeeded
  pub tallies_count : TalliesCount
  pub counters_count : CountersCount
  pub posts_and_copies : PostsAndCopies
  pub sessions_count_up : SessionsCountUp
  pub raw_pairs_read_bytes : RawPairsReadBytes
  pub drop_empties_the_lists : DropEmptiesTheLists
