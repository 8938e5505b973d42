-- What a script can declare, and the steps that such a plan permits.
use Rattle.std.specs.Prelude.{◌≡◌, ℕ, ◌+◌, ◌*◌, ◌^◌, ◌<◌, ◌≤◌, ◌⊎◌, true, List, length, min, slice_index}
use Rattle.step_kinds.specs.Limits.{most_pairs, most_devices, most_frame_bytes, most_poke_bytes, most_threshold, IsQueues, IsWindows, IsSize, IsMtu, IsClass}
use Rattle.step_kinds.specs.Sides.{other_side}
use Rattle.step_kinds.specs.declared.names.Side.{Side}
use Rattle.step_kinds.specs.declared.plan.SidePlan.{SidePlan}
use Rattle.step_kinds.specs.declared.plan.PairPlan.{PairPlan}
use Rattle.step_kinds.specs.declared.plan.DevPlan.{DevPlan}
use Rattle.step_kinds.specs.declared.plan.Plan.{Plan}
use Rattle.step_kinds.specs.declared.steps.Step.{Step}
use Rattle.step_kinds.specs.declared.steps.Step.TheVariants.{Enable, Train, Break, DropDone, Clean, Offer, Check, Ready, Join, Begin, QpDown, Xbegin, Post, Land, Look, Copy, Clear, Ack, Wake, Irq, Mask, Unmask, Spad, Poke, ShowMem, ShowPad, ShowQueue, Relay, Xnext}
use Rattle.pair_model.specs.Ethernet.{ethernet_header}
use Rattle.pair_model.specs.Plans.{side_plan, pair_plan, dev_plan}

-- Pairs

-- a side; version 3 represents a peer that is refused
pub record IsSide (side : SidePlan) : Type 0 where
  pub known_version : (3 ≤ side.version) × (side.version ≤ 5)
  pub queues : IsQueues side.queues
  pub windows : IsWindows side.windows
  pub size : IsSize side.size
  pub cap : IsSize side.cap

-- each side's windows fit the largest that the peer's memory gives
abbrev pub SizesFit : PairPlan → Type 0
SizesFit pair = (pair.a.size ≤ pair.b.cap) × (pair.b.size ≤ pair.a.cap)

-- two sides that a handshake can bring up
pub record Agree (pair : PairPlan) : Type 0 where
  pub versions : (4 ≤ pair.a.version) × (4 ≤ pair.b.version)
  pub queues : pair.a.queues ≡ pair.b.queues
  pub windows : pair.a.windows ≡ pair.b.windows
  pub sizes : SizesFit pair

-- a class for each of a side's queues
abbrev pub AreClasses : List ℕ → Type 0
AreClasses classes = (queue : ℕ) → IsClass (slice_index classes queue)

pub record IsPair (pair : PairPlan) : Type 0 where
  pub side_a : IsSide pair.a
  pub side_b : IsSide pair.b
  pub known_transport : (4 ≤ pair.a.version) ⊎ (4 ≤ pair.b.version)
  pub mtu : IsMtu pair.mtu
  -- a slot has room for the longer header of version 5 and four bytes
  pub long_header : (pair.a.version ≡ 5) ⊎ (pair.b.version ≡ 5) → 20 ≤ pair.mtu
  pub classes_a : AreClasses pair.class_a
  pub classes_b : AreClasses pair.class_b
  pub up : pair.up ≡ true → Agree pair
  pub raw : pair.raw ≡ true → SizesFit pair

-- Devices

-- the pair is declared, and the queue is one of the side's
pub record IsQueueOf (plan : Plan) (pair : ℕ) (side : Side) (queue : ℕ) : Type 0 where
  pub declared : pair < length plan.pairs
  pub among : queue < (side_plan (pair_plan plan pair) side).queues

pub record IsDevice (plan : Plan) (dev : DevPlan) : Type 0 where
  pub queue : IsQueueOf plan dev.pair dev.side dev.queue
  pub address : length dev.address ≡ 6
  pub thresholds : (dev.stop ≤ dev.start) × (dev.start ≤ most_threshold)

-- two devices on one queue of one side
abbrev pub SameQueue : DevPlan → DevPlan → Type 0
SameQueue one other = (one.pair ≡ other.pair) × (one.side ≡ other.side) × (one.queue ≡ other.queue)

-- A plan's pairs and devices, as a script can declare them.
pub record IsDeclared (plan : Plan) : Type 0 where
  pub few_pairs : length plan.pairs ≤ most_pairs
  pub pairs : (k : ℕ) → k < length plan.pairs → IsPair (pair_plan plan k)
  pub few_devices : length plan.devs ≤ most_devices
  pub devices : (k : ℕ) → k < length plan.devs → IsDevice plan (dev_plan plan.devs k)
  pub one_on_a_queue : (j k : ℕ) → j < length plan.devs → k < length plan.devs → SameQueue (dev_plan plan.devs j) (dev_plan plan.devs k) → j ≡ k

-- Steps

-- the pair is declared
abbrev pub IsPairOf : Plan → ℕ → Type 0
IsPairOf plan pair = pair < length plan.pairs

-- a frame that a user sends has a byte at least
abbrev pub IsFrame : List ℕ → Type 0
IsFrame bytes = (0 < length bytes) × (length bytes ≤ most_frame_bytes)

-- a device and its queue
pub record IsDeviceOn (plan : Plan) (pair : ℕ) (side : Side) (queue dev : ℕ) : Type 0 where
  pub declared : dev < length plan.devs
  pub its_pair : (dev_plan plan.devs dev).pair ≡ pair
  pub its_side : (dev_plan plan.devs dev).side ≡ side
  pub its_queue : (dev_plan plan.devs dev).queue ≡ queue

-- an Ethernet payload: with its header it is a frame
pub record IsPayload (dst : List ℕ) (kind : ℕ) (payload : List ℕ) : Type 0 where
  pub address : length dst ≡ 6
  pub small_kind : kind < 2 ^ 16
  pub some : 0 < length payload
  pub fits : length payload + ethernet_header ≤ most_frame_bytes

-- one of the sixteen scratchpads; the transport's own, below 12, are written past it on raw pairs alone
pub record IsPadOf (pair : PairPlan) (i : ℕ) : Type 0 where
  pub among : i < 16
  pub free : (12 ≤ i) ⊎ (pair.raw ≡ true)

-- bytes past the transport: one to 128 of them on a raw pair, in a window that both sides have, within the window's
-- size and what the peer's memory gives
pub record IsPoke (pair : PairPlan) (side : Side) (window offset : ℕ) (bytes : List ℕ) : Type 0 where
  pub raw : pair.raw ≡ true
  pub windows : (window < pair.a.windows) × (window < pair.b.windows)
  pub some : 0 < length bytes
  pub few : length bytes ≤ most_poke_bytes
  pub within : offset + length bytes ≤ min (side_plan pair side).size (side_plan pair (other_side side)).cap

-- one to 64 bytes of a side's memory, which has its windows one after the other
pub record IsShown (own : SidePlan) (at len : ℕ) : Type 0 where
  pub some : 0 < len
  pub few : len ≤ 64
  pub within : at + len ≤ own.windows * own.cap

-- A step that the bridges and devices of this plan permit. What a switch does is none of them.
abbrev pub IsPermitted : Plan → Step → Type 0
IsPermitted plan (Enable pair side) = IsPairOf plan pair
IsPermitted plan (Train pair) = IsPairOf plan pair
IsPermitted plan (Break pair) = IsPairOf plan pair
IsPermitted plan (DropDone pair) = IsPairOf plan pair
IsPermitted plan (Clean pair side) = IsPairOf plan pair
IsPermitted plan (Offer pair side) = IsPairOf plan pair
IsPermitted plan (Check pair side) = IsPairOf plan pair
IsPermitted plan (Ready pair side queue) = IsQueueOf plan pair side queue
IsPermitted plan (Join pair side queue) = IsQueueOf plan pair side queue
IsPermitted plan (Begin pair side queue frame) = IsQueueOf plan pair side queue × IsFrame frame
IsPermitted plan (QpDown pair side queue) = IsQueueOf plan pair side queue
IsPermitted plan (Xbegin pair side queue dev dst kind payload) = IsQueueOf plan pair side queue × IsDeviceOn plan pair side queue dev × IsPayload dst kind payload
IsPermitted plan (Post pair side queue) = IsQueueOf plan pair side queue
IsPermitted plan (Land pair side place) = IsPairOf plan pair
IsPermitted plan (Look pair side queue) = IsQueueOf plan pair side queue
IsPermitted plan (Copy pair side queue) = IsQueueOf plan pair side queue
IsPermitted plan (Clear pair side queue) = IsQueueOf plan pair side queue
IsPermitted plan (Ack pair side queue) = IsQueueOf plan pair side queue
IsPermitted plan (Wake pair side queue dev) = IsQueueOf plan pair side queue × IsDeviceOn plan pair side queue dev
IsPermitted plan (Irq pair side) = IsPairOf plan pair
IsPermitted plan (Mask pair side bits) = IsPairOf plan pair
IsPermitted plan (Unmask pair side bits) = IsPairOf plan pair
IsPermitted plan (Spad pair side i value) = IsPairOf plan pair × IsPadOf (pair_plan plan pair) i
IsPermitted plan (Poke pair side window offset bytes) = IsPairOf plan pair × IsPoke (pair_plan plan pair) side window offset bytes
IsPermitted plan (ShowMem pair side at len) = IsPairOf plan pair × IsShown (side_plan (pair_plan plan pair) side) at len
IsPermitted plan (ShowPad pair side i) = IsPairOf plan pair × (i < 16)
IsPermitted plan (ShowQueue pair side place) = IsPairOf plan pair
IsPermitted plan (Relay pair side queue switch port) = ⊥
IsPermitted plan (Xnext pair side queue dev) = ⊥
