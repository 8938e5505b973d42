-- The laws of every log.
use Rattle.std.specs.Prelude.{◌≡◌, ℕ, ◌+◌, ◌<◌, ◌==◌, Bool, true, false, ◌&&◌, ◌||◌, ◌⊎◌, Option, Some, None, List, [], ◌∷◌, ◌++◌, count_by, length, filter, max, nat_lt, not, if◌then◌else◌, ◌≤◌, ◌/◌, ◌%◌}
use Rattle.std.specs.List.{AllByRecursion}
use Rattle.step_kinds.specs.Answers.{is_made}
use Rattle.step_kinds.specs.Bits.{has_bit}
use Rattle.step_kinds.specs.Sides.{other_side}
use Rattle.step_kinds.specs.Subject.{subject_of}
use Rattle.step_kinds.specs.declared.names.LaneName.{LaneName}
use Rattle.step_kinds.specs.declared.names.Side.{Side}
use Rattle.step_kinds.specs.declared.plan.SidePlan.{SidePlan}
use Rattle.step_kinds.specs.declared.plan.Plan.{Plan}
use Rattle.step_kinds.specs.declared.steps.Answer.{Answer}
use Rattle.step_kinds.specs.declared.steps.Answer.TheVariants.{LinkDown, Up, Again, Copied, Delivered, Cleared, VerDiffers, Long}
use Rattle.step_kinds.specs.declared.steps.Label.{Label}
use Rattle.step_kinds.specs.declared.steps.Step.{Step}
use Rattle.step_kinds.specs.declared.steps.Step.TheVariants.{Offer, Check, Ready, Join, Begin, QpDown, Xbegin, Copy, Clear, Spad, Poke}
use Rattle.pair_model.specs.Pads.{word}
use Rattle.lane_model.specs.Lane.{Entry, chunks_in}
use Rattle.pair_model.specs.Both.{at_side}
use Rattle.pair_model.specs.Link.{is_down}
use Rattle.ledger_model.specs.Labels.{labels_of}
use Rattle.ledger_model.specs.Ledger.{PairPart, side_of, lane_of, lane_to, dev_of, tally_of, link_up, with_dev}
use Rattle.ledger_model.specs.Log.{Answered, Memories, Numbered, log_of, ledger_of, trains, first_session, accepted, delivered, room_in, up_at, landed_pad, last_look_empty, counters_in, posted_in, Looked, looked_in}
use Rattle.ledger_model.specs.Sending.{is_busy}
use Rattle.pair_model.specs.Device.{count_refused}
use Rattle.pair_model.specs.Ethernet.{ethernet_frame}
use Rattle.pair_model.specs.Pads.{version_pad, queues_pad, windows_pad, high_pad, low_pad}
use Rattle.pair_model.specs.Plans.{pair_plan, side_plan, dev_plan}
use Rattle.pair_model.specs.Sizes.{Sizes, sizes_of, pieces_in}

-- the lane's pair answers by the ledger, and not by what bytes stand in memory
abbrev pub IsOrdinaryPair : Plan → ℕ → Type 0
IsOrdinaryPair plan pair = (pair_plan plan pair).raw ≡ false

-- In order and once

-- the first list begins the second
abbrev pub LogBegins : List Numbered → List Numbered → Type 0
LogBegins xs ys = (rest : List Numbered) × (ys ≡ xs ++ rest)

-- the frame at each place was answered with the number of that place
abbrev pub NumberedFrom : ℕ → List Numbered → Type 0
NumberedFrom n [] = Unit {0}
NumberedFrom n (frame ∷ frames) = (frame.number ≡ n) × NumberedFrom (n + 1) frames

-- what was delivered on the lane in the session is a prefix of what was accepted there, and both are numbered from 0 on
pub record IsInOrder (plan : Plan) (log : List Answered) (lane : LaneName) (session : ℕ) : Type 0 where
  pub prefix : LogBegins (delivered plan log lane session) (accepted plan log lane session)
  pub accepted_numbers : NumberedFrom 0 (accepted plan log lane session)
  pub delivered_numbers : NumberedFrom 0 (delivered plan log lane session)

abbrev pub EveryLogIsInOrder : Type 0
EveryLogIsInOrder = (plan : Plan) (memories : Memories) (steps : List Step) (lane : LaneName) (session : ℕ) → IsOrdinaryPair plan lane.pair → IsInOrder plan (log_of plan memories steps) lane session

-- how often a number stands in a list of frames
abbrev pub times_of : ℕ → List Numbered → ℕ
times_of n [] = 0
times_of n (frame ∷ frames) = (if frame.number == n then 1 else 0) + times_of n frames

-- no number is delivered twice on a lane in a session
abbrev pub EveryFrameComesOnce : Type 0
EveryFrameComesOnce = (plan : Plan) (memories : Memories) (steps : List Step) (lane : LaneName) (session n : ℕ) → IsOrdinaryPair plan lane.pair →
    times_of n (delivered plan (log_of plan memories steps) lane session) < 2

-- Again and link down

-- the lane on which a step begins an entry, if it is such a step
abbrev pub lane_begun_by : Step → Option LaneName
lane_begun_by (Begin pair side queue frame) = Some (record { pair = pair; from = side; queue = queue })
lane_begun_by (QpDown pair side queue) = Some (record { pair = pair; from = side; queue = queue })
lane_begun_by (Xbegin pair side queue dev dst kind payload) = Some (record { pair = pair; from = side; queue = queue })
lane_begun_by step = None

-- how many entries a step needs on the lane on which it begins them: one for each piece of a frame, and one for a
-- link-down entry
abbrev pub entries_needed : Plan → LaneName → Step → ℕ
entries_needed plan lane (Begin pair side queue frame) = pieces_in (sizes_of (pair_plan plan lane.pair) lane.from lane.queue).largest (length frame)
entries_needed plan lane (Xbegin pair side queue dev dst kind payload) =
    pieces_in (sizes_of (pair_plan plan lane.pair) lane.from lane.queue).largest (length (ethernet_frame dst (dev_plan plan.devs dev).address kind payload))
entries_needed plan lane step = 1

-- where a side may send nothing on a queue: the link isn't up, or the queue isn't joined there or is closed
abbrev pub sender_refused : PairPart → Side → ℕ → Bool
sender_refused now side queue = not (link_up now) || (not (has_bit (side_of now side).joined queue) || has_bit (side_of now side).closed queue)

-- where it may send no frame of this many bytes: it is longer than any may be, or of the frame before it something is
-- left to post
abbrev pub frame_refused : Sizes → PairPart → Side → ℕ → ℕ → Bool
frame_refused sizes now side queue len = sender_refused now side queue || (nat_lt sizes.most len || is_busy (lane_of now side queue))

-- where a step that begins entries is refused, whatever room there is, by its pair as it was before the step
abbrev pub refused_earlier : Plan → PairPart → Step → Bool
refused_earlier plan now (Begin pair side queue frame) = frame_refused (sizes_of (pair_plan plan pair) side queue) now side queue (length frame)
refused_earlier plan now (QpDown pair side queue) = sender_refused now side queue || is_busy (lane_of now side queue)
refused_earlier plan now (Xbegin pair side queue dev dst kind payload) =
    frame_refused (sizes_of (pair_plan plan pair) side queue) now side queue (length (ethernet_frame dst (dev_plan plan.devs dev).address kind payload))
    || (dev_of now side queue).stopped
refused_earlier plan now step = false

abbrev pub is_again : Answer → Bool
is_again (Again head tail) = true
is_again answer = false

-- the log of these steps goes on with this step and answer
abbrev pub GoesOn : Plan → Memories → List Step → Step → Answer → Type 0
GoesOn plan memories steps step answer = log_of plan memories (steps ++ step ∷ []) ≡ log_of plan memories steps ++ record { step = step; answer = answer } ∷ []

-- `again` is returned if and only if the step isn't refused for another reason, and the ring has less room than the
-- step needs
abbrev pub AgainWhereNoRoom : Type 0
AgainWhereNoRoom = (plan : Plan) (memories : Memories) (steps : List Step) (step : Step) (answer : Answer) (lane : LaneName) →
    IsOrdinaryPair plan lane.pair → lane_begun_by step ≡ Some lane → GoesOn plan memories steps step answer →
    is_again answer ≡ (not (refused_earlier plan (ledger_of plan memories steps lane.pair) step) && nat_lt (room_in plan (log_of plan memories steps) lane) (entries_needed plan lane step))

-- the steps that need a link
abbrev pub needs_link : Step → Bool
needs_link (Begin pair side queue frame) = true
needs_link (QpDown pair side queue) = true
needs_link (Xbegin pair side queue dev dst kind payload) = true
needs_link (Offer pair side) = true
needs_link (Check pair side) = true
needs_link (Ready pair side queue) = true
needs_link (Join pair side queue) = true
needs_link step = false

abbrev pub is_link_down : Answer → Bool
is_link_down LinkDown = true
is_link_down answer = false

-- `linkdown` comes exactly on those, if and only if the pair's link isn't up by the log (`up_at`)
abbrev pub LinkDownWhereNotUp : Type 0
LinkDownWhereNotUp = (plan : Plan) (memories : Memories) (steps : List Step) (step : Step) (answer : Answer) → GoesOn plan memories steps step answer →
    is_link_down answer ≡ (needs_link step && not (up_at plan (subject_of step) (log_of plan memories steps)))

-- Agreement

-- a side whose numbers are as the law of a check needs them: a version that fits a scratchpad, few queues and windows,
-- and sizes from 4096 bytes on. This asks less than a script's declaration does, which `IsSide` of pair_model says.
pub record HasNumbersInRange (side : SidePlan) : Type 0 where
  pub a_version : 0 < side.version
  pub few_versions : side.version < word
  pub a_queue : 0 < side.queues
  pub few_queues : side.queues ≤ 16
  pub a_window : 0 < side.windows
  pub few_windows : side.windows ≤ 4
  pub a_size : 4096 ≤ side.size
  pub a_cap : 4096 ≤ side.cap

-- each pair of the plan has such sides
abbrev pub HasSidesInRange : Plan → Type 0
HasSidesInRange plan = (pair : ℕ) (side : Side) → pair < length plan.pairs → HasNumbersInRange (side_plan (pair_plan plan pair) side)

-- a step that an ordinary pair may see: nothing but the handshake writes the scratchpads below 12, and no bytes are
-- poked
abbrev pub IsOrdinary : Step → Type 0
IsOrdinary (Spad pair side i value) = 12 ≤ i
IsOrdinary (Poke pair side window offset bytes) = ⊥
IsOrdinary step = Unit {0}

-- the steps on a pair are such; those on other pairs may be any
abbrev pub IsOrdinaryOn : ℕ → Step → Type 0
IsOrdinaryOn pair step = subject_of step ≡ pair → IsOrdinary step

-- the versions that two sides declare are one, or both are 4 at least
abbrev pub VersionsAgree : ℕ → ℕ → Type 0
VersionsAgree seen own = (seen ≡ own) ⊎ ((4 ≤ seen) × (4 ≤ own))

-- all numbers of the peer stand in the side's scratchpads, landed in this session, and they agree with the side's own
pub record Agrees (log : List Answered) (pair : ℕ) (side : Side) (own peer : SidePlan) : Type 0 where
  pub version_landed : landed_pad log pair side version_pad ≡ Some peer.version
  pub queues_landed : landed_pad log pair side queues_pad ≡ Some peer.queues
  pub windows_landed : landed_pad log pair side windows_pad ≡ Some peer.windows
  pub sizes_landed : (m : ℕ) → m < peer.windows →
      (landed_pad log pair side (high_pad m) ≡ Some (peer.size / word)) × (landed_pad log pair side (low_pad m) ≡ Some (peer.size % word))
  pub versions_agree : VersionsAgree peer.version own.version
  pub same_queues : peer.queues ≡ own.queues
  pub same_windows : peer.windows ≡ own.windows
  pub size_fits : peer.size ≤ own.cap

abbrev pub UpMeansAgreement : Type 0
UpMeansAgreement = (plan : Plan) (memories : Memories) (steps : List Step) (pair : ℕ) (side : Side) →
    HasSidesInRange plan → pair < length plan.pairs → AllByRecursion (IsOrdinaryOn pair) (steps ++ Check pair side ∷ []) → GoesOn plan memories steps (Check pair side) Up →
    Agrees (log_of plan memories steps) pair side (side_plan (pair_plan plan pair) side) (side_plan (pair_plan plan pair) (other_side side))

-- Refusals

-- a pair once a step on it was refused: a device counts the refusal of its frame, and nothing else changes
abbrev pub after_refusal : PairPart → Step → PairPart
after_refusal now (Xbegin pair side queue dev dst kind payload) =
    let own = dev_of now side queue in
    with_dev now side queue (record own { counters = count_refused own.counters })
after_refusal now step = now

-- a step that was refused leaves every pair as it was, but for that count
abbrev pub RefusalsChangeNothing : Type 0
RefusalsChangeNothing = (plan : Plan) (memories : Memories) (steps : List Step) (step : Step) (answer : Answer) (pair : ℕ) →
    GoesOn plan memories steps step answer → is_made answer ≡ false →
    ledger_of plan memories (steps ++ step ∷ []) pair
    ≡ (if pair == subject_of step then after_refusal (ledger_of plan memories steps pair) step else ledger_of plan memories steps pair)

-- Entries of the transport alone

-- the answers to a look that finds what no sender of the transport has written
abbrev pub is_unlike : Answer → Bool
is_unlike (VerDiffers seen own) = true
is_unlike (Long len most) = true
is_unlike answer = false

-- on an ordinary pair no step is answered `verdiffers` or `long`
abbrev pub NoOrdinaryVerDiffersOrLong : Type 0
NoOrdinaryVerDiffersOrLong = (plan : Plan) (memories : Memories) (steps : List Step) (step : Step) (answer : Answer) →
    IsOrdinaryPair plan (subject_of step) → GoesOn plan memories steps step answer → is_unlike answer ≡ false

-- Quiet

-- nothing is on its way to a receiver on a queue, and it has seen so since it last took the queue's doorbell
pub record IsQuiet (log : List Answered) (now : PairPart) (pair : ℕ) (side : Side) (queue : ℕ) : Type 0 where
  pub link : link_up now ≡ true
  pub joined : has_bit (side_of now side).joined queue ≡ true
  pub not_closed : has_bit (side_of now side).closed queue ≡ false
  pub nothing_in_flight : (side_of now (other_side side)).flight ≡ []
  pub nothing_to_post : (lane_of now (other_side side) queue).todo ≡ []
  pub none_waiting : (lane_of now (other_side side) queue).waiting ≡ []
  pub not_pending : has_bit (side_of now side).pending queue ≡ false
  pub looked : last_look_empty log pair side queue ≡ true

-- then each entry that was begun has its flags landed and was taken, and all that was accepted in the session was
-- delivered
pub record IsDone (plan : Plan) (log : List Answered) (now : PairPart) (lane : LaneName) : Type 0 where
  pub all_taken : (lane_of now lane.from lane.queue).got ≡ (lane_of now lane.from lane.queue).flagged
  pub all_flagged : (lane_of now lane.from lane.queue).flagged ≡ length (lane_of now lane.from lane.queue).sent
  pub all_delivered : delivered plan log lane now.link.session ≡ accepted plan log lane now.link.session

abbrev pub QuietMeansDone : Type 0
QuietMeansDone = (plan : Plan) (memories : Memories) (steps : List Step) (pair : ℕ) (side : Side) (queue : ℕ) →
    IsOrdinaryPair plan pair → IsQuiet (log_of plan memories steps) (ledger_of plan memories steps pair) pair side queue →
    IsDone plan (log_of plan memories steps) (ledger_of plan memories steps pair) (record { pair = pair; from = other_side side; queue = queue })

-- Writes

-- the labels of the writes of entries, the first of which has this number, in the order in which they are posted
abbrev pub labels_from : ℕ → ℕ → List Entry → List Label
labels_from queue n [] = []
labels_from queue n (entry ∷ entries) = labels_of queue n entry ++ labels_from queue (n + 1) entries

-- whether a side has forgotten the session that was lost, or never had one
abbrev pub has_forgotten : PairPart → Side → Bool
has_forgotten now side = is_down now.link.state && at_side now.link.clean side

-- what was posted on a lane in the session, and then what is left to post, are the writes of the entries begun, until
-- the sender has forgotten the session
abbrev pub PostedAreWrites : Type 0
PostedAreWrites = (plan : Plan) (memories : Memories) (steps : List Step) (lane : LaneName) →
    let now = ledger_of plan memories steps lane.pair in
    has_forgotten now lane.from ≡ false →
    posted_in (log_of plan memories steps) lane ++ (lane_of now lane.from lane.queue).todo ≡ labels_from lane.queue 0 (lane_of now lane.from lane.queue).sent

-- Parts

-- how many parts an entry of this many bytes has
abbrev pub parts_in : ℕ → ℕ
parts_in len = max 1 (chunks_in len)

-- this part of an entry was answered `copied`: it is the next one of the entry that was found last. If it is the
-- entry's last part, the entry is followed by others of its frame.
pub record FitsPart (looked : Option Looked) (left number part : ℕ) : Type 0 where
  pub len : ℕ
  pub of_found : looked ≡ Some (record { number = number; len = len; copies = part })
  pub among : part < parts_in len
  pub followed : part + 1 ≡ parts_in len → 0 < left

-- a copy was answered `frame` with this number: it is the last part of the entry that was found last, which no other of
-- its frame follows. This many frames were delivered before in the session.
pub record FitsFrame (looked : Option Looked) (left given number : ℕ) : Type 0 where
  pub found : Looked
  pub of_found : looked ≡ Some found
  pub all_parts : found.copies + 1 ≡ parts_in found.len
  pub followed_by_none : left ≡ 0
  pub its_number : number ≡ given

-- a clear was answered `cleared` with this number: it is that of the entry that was found last, and all its parts were
-- copied
pub record FitsClear (looked : Option Looked) (number : ℕ) : Type 0 where
  pub found : Looked
  pub of_found : looked ≡ Some found
  pub all_parts : found.copies ≡ parts_in found.len
  pub its_number : found.number ≡ number

-- what a copy and a clear are answered, by the entry found last and the copies made of it since. `left` is how many
-- entries follow it in its frame, as found, and `given` how many frames the lane delivered before in the session.
abbrev pub FitsLook : Option Looked → ℕ → ℕ → Answer → Type 0
FitsLook looked left given (Copied number part) = FitsPart looked left number part
FitsLook looked left given (Delivered number frame) = FitsFrame looked left given number
FitsLook looked left given (Cleared number) = FitsClear looked number
FitsLook looked left given answer = Unit {0}

-- an entry is copied in as many parts as it has chunks, one at least, numbered from 0 on. Its last part is answered
-- `frame` where no other entry of the frame follows, and `copied` where one does. The entry is cleared after it.
abbrev pub CopiedInParts : Type 0
CopiedInParts = (plan : Plan) (memories : Memories) (steps : List Step) (pair : ℕ) (side : Side) (queue : ℕ) (step : Step) (answer : Answer) →
    let log = log_of plan memories steps in
    let now = ledger_of plan memories steps pair in
    let lane : LaneName = record { pair = pair; from = other_side side; queue = queue } in
    (step ≡ Copy pair side queue) ⊎ (step ≡ Clear pair side queue) → GoesOn plan memories steps step answer →
    FitsLook (looked_in log pair side queue) (lane_to now side queue).left (length (delivered plan log lane now.link.session)) answer

-- Separate pairs

abbrev pub steps_on : ℕ → List Step → List Step
steps_on pair steps = filter (λ step. subject_of step == pair) steps

abbrev pub made_on : ℕ → List Answered → List Answered
made_on pair log = filter (λ made. subject_of made.step == pair) log

-- the bytes of a pair's memories are those that the steps on it leave
abbrev pub KeepsPairsApart : Memories → Type 0
KeepsPairsApart memories = (log : List Answered) (pair : ℕ) → memories log pair ≡ memories (made_on pair log) pair

-- the answers to the steps on a pair are those of the list without the other pairs' steps
abbrev pub PairsAreSeparate : Type 0
PairsAreSeparate = (plan : Plan) (memories : Memories) → KeepsPairsApart memories → (steps : List Step) (pair : ℕ) →
    made_on pair (log_of plan memories steps) ≡ log_of plan memories (steps_on pair steps)

-- Tallies and counters

-- the ledger counts what the log has
abbrev pub TalliesAreCounts : Type 0
TalliesAreCounts = (plan : Plan) (memories : Memories) (steps : List Step) (lane : LaneName) (session : ℕ) →
    let log = log_of plan memories steps in
    tally_of (ledger_of plan memories steps lane.pair) lane.from lane.queue session
    ≡ record { accepted = length (accepted plan log lane session); delivered = length (delivered plan log lane session) }

-- the session of a pair is its first one and one more for each time that the link was trained
abbrev pub SessionsAreCounts : Type 0
SessionsAreCounts = (plan : Plan) (memories : Memories) (steps : List Step) (pair : ℕ) →
    (ledger_of plan memories steps pair).link.session ≡ first_session plan pair + count_by (trains pair) (log_of plan memories steps)

-- the counters of each side and queue are what the log counts there, whether a device is declared or not
abbrev pub CountersAreCounts : Type 0
CountersAreCounts = (plan : Plan) (memories : Memories) (steps : List Step) (own : LaneName) →
    (dev_of (ledger_of plan memories steps own.pair) own.from own.queue).counters ≡ counters_in plan (log_of plan memories steps) own
