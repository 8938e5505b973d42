-- What each call of a port answers, and what it leaves of the port. Both go by the bytes that stand in the side's
-- memory, whoever wrote them, and by the port's own counts.
use Rattle.std.specs.Prelude.{◌≡◌, ℕ, ◌+◌, ◌-◌, ◌||◌, Bool, Option, Some, None, List, [], ◌∷◌, ◌++◌, length, nat_le, nat_lt, if◌then◌else◌}
use Rattle.step_kinds.specs.declared.lanes.Begun.{Begun}
use Rattle.step_kinds.specs.declared.lanes.Begun.TheVariants.{Ok as BegunOk, TooLong, Busy, NoRoom}
use Rattle.step_kinds.specs.declared.lanes.LaneCopy.{LaneCopy}
use Rattle.step_kinds.specs.declared.lanes.LaneCopy.TheVariants.{Part, Whole, OutOfTurn as NotCopying}
use Rattle.step_kinds.specs.declared.names.Side.{Side}
use Rattle.step_kinds.specs.declared.steps.Label.{Label}
use Rattle.lane_model.specs.Lane.{Entry, GoesDown, chunks_in}
use Rattle.lane_model.specs.Ring.{head_of}
use Rattle.lane_model.specs.Tests.{is_empty_list, is_idle, is_copying, is_copied, is_cleared}
use Rattle.lane_model.specs.declared.Phase.TheVariants.{Idle, Copying, Copied, Cleared}
use Rattle.pair_model.specs.Labels.{labels_of}
use Rattle.pair_model.specs.Pieces.{pieces_of}
use Rattle.pair_model.specs.Refusals.{Test, OfLength, OfBusy, OfRoom, OfPhase, in_begin_order, in_look_order}
use Rattle.pair_model.specs.Sizes.{Sizes, sizes_of, pieces_in}
use Rattle.pair_model.specs.Addresses.{own_header, own_index_word}
use Rattle.pair_model.specs.Headers.{Found, NoEntry, ALinkDownEntry, AnotherVersion, TooManyBytes, AnEntry, found_in_memory, part_in_memory, index_word_in, free_in_memory, flags_offset}
use Rattle.pair_model.specs.RingWrites.{index_write}
use Rattle.host_memory.specs.Memory.{Touches}
use Rattle.posted_queue.specs.Flight.{given_back}
use Rattle.plan_numbers.specs.Memories.{memory_size}
use Rattle.bridge_pair.specs.Bridge.{Bridge, flight_of, with_flight}
use Rattle.frame_ring.specs.Port.{PortState, Sending, Receiving, with_sending, with_receiving, is_port_busy, writes_left, unused_of}
use Rattle.frame_ring.specs.PortView.{bytes_seen, ring_posted, index_posted, flags_cleared, TouchesLeft, TouchesWrite}
use Rattle.frame_ring.specs.declared.RingLook.{RingLook}
use Rattle.frame_ring.specs.declared.RingLook.TheVariants.{Ready, Empty, PeerDown, VerDiffers, Long, OutOfTurn}

-- Sending

-- the numbers of the ring that the port sends to
abbrev pub sizes_seen : PortState → Sizes
sizes_seen port = sizes_of port.plan port.side port.queue

-- the slot of the next entry, after those that wait; the index word in the side's memory; and the free entries by both
abbrev pub head_seen : PortState → ℕ
head_seen port = head_of (sizes_seen port).entries (port.sending.begun + length port.sending.waiting)

abbrev pub index_word_seen : PortState → Bridge → ℕ
index_word_seen port bridge = index_word_in port.plan (bytes_seen bridge) port.side port.queue

abbrev pub free_seen : PortState → Bridge → ℕ
free_seen port bridge = free_in_memory (sizes_seen port).entries (head_seen port) (index_word_seen port bridge)

-- none where the index word doesn't lie wholly in the side's memory
abbrev pub free_answer : PortState → Bridge → ℕ
free_answer port bridge = if nat_le (own_index_word port.plan port.side port.queue + 4) (memory_size port.plan port.side) then free_seen port bridge else 0

-- whether a frame of this many bytes is refused whatever room there is
abbrev pub port_refuses_answer : PortState → ℕ → Bool
port_refuses_answer port len = nat_lt (sizes_seen port).most len || is_port_busy port.sending

-- where this many entries are wanted
abbrev pub unless_full : PortState → Bridge → ℕ → Begun → Begun
unless_full port bridge needed later =
    if nat_lt (free_seen port bridge) needed then NoRoom (head_seen port) (index_word_seen port bridge) else later

abbrev pub room_answer : PortState → Bridge → ℕ → Begun
room_answer port bridge needed = unless_full port bridge needed (BegunOk port.sending.told)

-- the port's tests of a beginning that takes this many entries
abbrev pub entry_tests : PortState → Bridge → ℕ → Test → Begun → Begun
entry_tests port bridge needed OfBusy later = if is_port_busy port.sending then Busy else later
entry_tests port bridge needed OfRoom later = unless_full port bridge needed later
entry_tests port bridge needed test later = later

-- and those of a frame of this many bytes
abbrev pub frame_tests : PortState → Bridge → ℕ → Test → Begun → Begun
frame_tests port bridge len OfLength later = if nat_lt (sizes_seen port).most len then TooLong len (sizes_seen port).most else later
frame_tests port bridge len test later = entry_tests port bridge (pieces_in (sizes_seen port).largest len) test later

abbrev pub port_begin_answer : PortState → Bridge → ℕ → Begun
port_begin_answer port bridge len = in_begin_order (frame_tests port bridge len) (BegunOk port.sending.told)

abbrev pub port_down_answer : PortState → Bridge → Begun
port_down_answer port bridge = in_begin_order (entry_tests port bridge 1) (BegunOk port.sending.told)

-- a frame of this many bytes is begun, and not refused
abbrev pub PortBeginsFrame : PortState → Bridge → ℕ → Type 0
PortBeginsFrame port bridge len = (number : ℕ) × (port_begin_answer port bridge len ≡ BegunOk number)

-- the first of these entries is begun: its writes are left to post, and the others wait
abbrev pub entries_begun : ℕ → Sending → List Entry → Sending
entries_begun queue sending [] = sending
entries_begun queue sending (first ∷ others) =
    record { begun = sending.begun + 1; told = sending.told; entry = first; todo = labels_of queue sending.begun first; waiting = others }

-- a frame is begun as its pieces, and a link-down entry as itself
abbrev pub port_frame_begun : PortState → List ℕ → PortState
port_frame_begun port frame =
    with_sending port (record (entries_begun port.queue port.sending (pieces_of (sizes_seen port).largest frame)) { told = port.sending.told + 1 })

abbrev pub down_begun : PortState → PortState
down_begun port = with_sending port (entries_begun port.queue port.sending (GoesDown ∷ []))

-- a refusal changes nothing
abbrev pub where_begun : PortState → PortState → Begun → PortState
where_begun old new (BegunOk number) = new
where_begun old new answer = old

abbrev pub port_after_begin : PortState → Bridge → List ℕ → PortState
port_after_begin port bridge frame = where_begun port (port_frame_begun port frame) (port_begin_answer port bridge (length frame))

abbrev pub after_down : PortState → Bridge → PortState
after_down port bridge = where_begun port (down_begun port) (port_down_answer port bridge)

-- where all writes of an entry were posted, the next of those that wait is begun
abbrev pub port_next_begun : ℕ → Sending → Sending
port_next_begun queue sending = if is_empty_list sending.todo then entries_begun queue sending sending.waiting else sending

-- the first of the labels left to post, and the rest
abbrev pub first_label : List Label → Option Label
first_label [] = None
first_label (label ∷ labels) = Some label

abbrev pub rest_of : List Label → List Label
rest_of [] = []
rest_of (label ∷ labels) = labels

-- once all is posted the entry is let go
abbrev pub let_go : Sending → Sending
let_go sending = if is_port_busy sending then sending else record sending { entry = GoesDown }

abbrev pub port_post_answer : PortState → Option Label
port_post_answer port = first_label (port_next_begun port.queue port.sending).todo

abbrev pub port_after_post : PortState → PortState
port_after_post port =
    let next = port_next_begun port.queue port.sending in
    with_sending port (let_go (record next { todo = rest_of next.todo }))

-- Receiving

abbrev pub found_seen : PortState → Bridge → Found
found_seen port bridge = found_in_memory port.plan (bytes_seen bridge) port.side port.queue port.receiving.got (length port.receiving.gathered)

abbrev pub look_found : Receiving → Found → RingLook
look_found receiving NoEntry = Empty
look_found receiving ALinkDownEntry = PeerDown
look_found receiving (AnotherVersion seen own) = VerDiffers seen own
look_found receiving (TooManyBytes len most) = Long len most
look_found receiving (AnEntry len left) = Ready receiving.got len

abbrev pub port_look_tests : PortState → Test → RingLook → RingLook
port_look_tests port OfPhase later = if is_idle port.receiving.phase then later else OutOfTurn
port_look_tests port test later = later

abbrev pub port_look_answer : PortState → Bridge → RingLook
port_look_answer port bridge = in_look_order (port_look_tests port) (look_found port.receiving (found_seen port bridge))

abbrev pub entry_found : Receiving → Found → Receiving
entry_found receiving (AnEntry len left) = record receiving { phase = Copying; part = 0; len = len; left = left }
entry_found receiving found = receiving

abbrev pub port_after_look : PortState → Bridge → PortState
port_after_look port bridge = if is_idle port.receiving.phase then with_receiving port (entry_found port.receiving (found_seen port bridge)) else port

-- the bytes of the frame under way with the next part of the entry at hand, as it is in memory
abbrev pub gathered_next : PortState → Bridge → List ℕ
gathered_next port bridge =
    port.receiving.gathered
    ++ part_in_memory port.plan (bytes_seen bridge) port.side port.queue port.receiving.got port.receiving.len port.receiving.part

-- parts of the entry at hand are left after the next one, or entries of its frame after it
abbrev pub more_parts : Receiving → Bool
more_parts receiving = nat_lt (receiving.part + 1) (chunks_in receiving.len)

abbrev pub more_entries : Receiving → Bool
more_entries receiving = nat_lt 0 receiving.left

abbrev pub part_answer : Receiving → List ℕ → LaneCopy
part_answer receiving gathered =
    if more_parts receiving then Part receiving.got receiving.part
    else if more_entries receiving then Part receiving.got receiving.part
    else Whole receiving.done gathered

abbrev pub port_copy_answer : PortState → Bridge → LaneCopy
port_copy_answer port bridge = if is_copying port.receiving.phase then part_answer port.receiving (gathered_next port bridge) else NotCopying

-- the frame that a copy delivers, if it delivers one
abbrev pub frame_of_copy : LaneCopy → Option (List ℕ)
frame_of_copy (Whole number frame) = Some frame
frame_of_copy copy = None

-- the frame that the next copy is due to deliver
abbrev pub port_frame_due : PortState → Bridge → Option (List ℕ)
port_frame_due port bridge = frame_of_copy (port_copy_answer port bridge)

abbrev pub part_copied : Receiving → List ℕ → Receiving
part_copied receiving gathered =
    if more_parts receiving then record receiving { part = receiving.part + 1; gathered = gathered }
    else if more_entries receiving then record receiving { got = receiving.got + 1; phase = Copied; gathered = gathered }
    else record receiving { got = receiving.got + 1; phase = Copied; gathered = []; done = receiving.done + 1 }

abbrev pub port_after_copy : PortState → Bridge → PortState
port_after_copy port bridge =
    if is_copying port.receiving.phase then with_receiving port (part_copied port.receiving (gathered_next port bridge)) else port

-- the entry that was taken last
abbrev pub last_got : Receiving → ℕ
last_got receiving = receiving.got - 1

abbrev pub port_clear_answer : PortState → Option ℕ
port_clear_answer port = if is_copied port.receiving.phase then Some (last_got port.receiving) else None

abbrev pub port_after_clear : PortState → PortState
port_after_clear port = if is_copied port.receiving.phase then with_receiving port (record port.receiving { phase = Cleared }) else port

abbrev pub port_ack_answer : PortState → Option ℕ
port_ack_answer port = if is_cleared port.receiving.phase then Some (last_got port.receiving) else None

abbrev pub port_after_ack : PortState → PortState
port_after_ack port = if is_cleared port.receiving.phase then with_receiving port (record port.receiving { phase = Idle }) else port

-- What the calls do to the pair

-- the first of an entry's writes left to post goes out
abbrev pub first_posted : Bridge → Side → Entry → List Label → Bridge
first_posted bridge side entry [] = bridge
first_posted bridge side entry (label ∷ labels) = ring_posted bridge side entry label

abbrev pub posted_by : PortState → Bridge → Bridge
posted_by port bridge =
    let next = port_next_begun port.queue port.sending in
    first_posted bridge port.side next.entry next.todo

abbrev pub cleared_by : PortState → Bridge → Bridge
cleared_by port bridge = if is_copied port.receiving.phase then flags_cleared bridge port.side port.queue (last_got port.receiving) else bridge

abbrev pub port_acked_by : PortState → Bridge → Bridge
port_acked_by port bridge = if is_cleared port.receiving.phase then index_posted bridge port.side port.queue (last_got port.receiving) else bridge

-- all promises that weren't used are given back
abbrev pub reset_by : PortState → Bridge → Bridge
reset_by port bridge = with_flight bridge port.side (given_back (flight_of bridge port.side) (unused_of port))

-- The pages that calls may promise, of the peer's memory and of the side's own: those of what they let be written

abbrev pub TouchedByBegin : PortState → Bridge → List ℕ → ℕ → Type 0
TouchedByBegin port bridge frame page =
    (port_begin_answer port bridge (length frame) ≡ BegunOk port.sending.told) × TouchesLeft port.plan port.side (writes_left (port_frame_begun port frame)) page

abbrev pub TouchedByDown : PortState → Bridge → ℕ → Type 0
TouchedByDown port bridge page = (port_down_answer port bridge ≡ BegunOk port.sending.told) × TouchesLeft port.plan port.side (writes_left (down_begun port)) page

-- a look that finds an entry leaves its index write and its flags to be written
abbrev pub PortFindsEntry : PortState → Bridge → Type 0
PortFindsEntry port bridge = (len : ℕ) × (port_look_answer port bridge ≡ Ready port.receiving.got len)

abbrev pub TouchedByLook : PortState → Bridge → ℕ → Type 0
TouchedByLook port bridge page = PortFindsEntry port bridge × TouchesWrite port.plan port.side (index_write port.plan port.side port.queue port.receiving.got) page

abbrev pub TouchedByFlags : PortState → Bridge → ℕ → Type 0
TouchedByFlags port bridge page = PortFindsEntry port bridge × Touches (own_header port.plan port.side port.queue port.receiving.got + flags_offset port.plan) 4 page
