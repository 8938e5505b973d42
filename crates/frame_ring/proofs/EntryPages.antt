-- The pages that entries need in the peer's memory.
use Rattle.std.proofs.Common.{◌≡◌, ◌∙◌, ℕ, ◌+◌, ◌*◌, ◌<◌, ◌≤◌, inl, inr, List, Result, Ok, Err, OnOk, length, take, drop, below_more, sym, ap, subst, arith}
use Rattle.step_kinds.specs.Sides.{other_side}
use Rattle.step_kinds.specs.declared.names.Side.{Side}
use Rattle.step_kinds.specs.declared.names.Side.TheVariants.{A, B}
use Rattle.step_kinds.specs.declared.plan.PairPlan.{PairPlan}
use Rattle.pair_model.specs.Addresses.{queue_address}
use Rattle.pair_model.specs.RingWrites.{header_offset, slot_offset}
use Rattle.host_memory.specs.Memory.{ArePromised, Touches}
use Rattle.lane_model.specs.Lane.{Entry, bytes_of}
use Rattle.pair_model.specs.DeclaredPlans.{SizesFit}
use Rattle.pair_model.specs.Pieces.{pieces_of}
use Rattle.pair_model.specs.Plans.{side_plan}
use Rattle.pair_model.specs.Sizes.{header_bytes, layout_of, pieces_in}
use Rattle.ring_geometry.specs.Geometry.{window_of}
use Rattle.plan_numbers.specs.Memories.{memory_size}
use Rattle.bridge_pair.specs.Bridge.{Bridge, IsBridge, bridge_bytes_of as memory_of, pages_of}
use Rattle.bridge_pair.specs.Pages.{PagesGrow}
use Rattle.bridge_pair.proofs.Facade.{grows_further, grows_nothing, promised_still}
use Rattle.frame_ring.specs.Outgoing.{entry_at}
use Rattle.frame_ring.specs.Promises.{IsEntryPromised, IsRangePromised, ReachesPeer, TouchesEntries, TouchesEntry, TouchesRange}
use Rattle.frame_ring.specs.Rings.{QueueOf}
use Rattle.frame_ring.proofs.Entries.{length-pieces_of, piece_at}

-- What is known where a result is ok may be replaced by anything that follows from it.
pub ok_map : {X E : Type 0} (P Q : Type 0) (result : Result X E) → (P → Q) → OnOk result P → OnOk result Q
ok_map P Q (Ok x) f h = f h
ok_map P Q (Err e) f h = tt

size_fits : (plan : PairPlan) (side : Side) → SizesFit plan → (side_plan plan side).size ≤ (side_plan plan (other_side side)).cap
size_fits plan A fit = fit.0
size_fits plan B fit = fit.1

-- A range within a side's window size lies in the peer's memory, if sizes fit and ranges within the peer's cap do.
pub lies_inside : (rings : QueueOf) (pair : Bridge) (peer : Side) (at offset len : ℕ) → IsBridge pair → pair.plan ≡ rings.plan → peer ≡ other_side rings.side → SizesFit rings.plan
    → offset + len ≤ (side_plan rings.plan rings.side).size
    → ((len : ℕ) → offset + len ≤ (side_plan rings.plan peer).cap → at + len ≤ memory_size rings.plan peer)
    → at + len ≤ length (memory_of pair peer)
lies_inside rings pair peer at offset len law plans sides fit within inside =
    let room = size_fits rings.plan rings.side fit in
    let cap : (side_plan rings.plan peer).cap ≡ (side_plan rings.plan (other_side rings.side)).cap = ap (λ (side : Side). (side_plan rings.plan side).cap) sides in
    let size : length (memory_of pair peer) ≡ memory_size rings.plan peer = law.memories peer ∙ ap (λ (plan : PairPlan). memory_size plan peer) plans in
    let end = inside len (omega (arith, room, cap, within)) in
    omega (arith, end, size)

-- The number of the queue's window times the peer's cap, plus an offset, is the queue's address of that offset.
pub at_offset : (rings : QueueOf) (peer : Side) (at window offset : ℕ) → peer ≡ other_side rings.side → window ≡ window_of (layout_of rings.plan rings.side rings.queue)
    → at ≡ window * (side_plan rings.plan peer).cap + offset → at ≡ queue_address rings.plan rings.side rings.queue offset
at_offset rings peer at window offset sides is_window is_at =
    is_at ∙ ap (λ window. window * (side_plan rings.plan peer).cap + offset) is_window
    ∙ ap (λ (side : Side). window_of (layout_of rings.plan rings.side rings.queue) * (side_plan rings.plan side).cap + offset) sides

-- If the peer has the queue's window, pages that grow only by a range's address grow only by that range of it.
pub range_grows : (rings : QueueOf) (pair new : Bridge) (peer : Side) (at offset len : ℕ) → peer ≡ other_side rings.side → ReachesPeer rings → at ≡ queue_address rings.plan rings.side rings.queue offset
    → PagesGrow (Touches at len) (pages_of pair peer) (pages_of new peer)
    → PagesGrow (TouchesRange rings offset len) (pages_of pair (other_side rings.side)) (pages_of new (other_side rings.side))
range_grows rings pair new peer at offset len sides reach is_at grow =
    let there = subst (λ (side : Side). PagesGrow (Touches at len) (pages_of pair side) (pages_of new side)) sides grow in
    grows_further (TouchesRange rings offset len) (Touches at len) _ _ _ (grows_nothing (TouchesRange rings offset len) (pages_of pair (other_side rings.side))) there
    (λ page touch. (reach, subst (λ at. Touches at len page) is_at touch))

-- A range whose pages at the peer are promised by its address is promised as a range of the queue's window.
pub range_promised : (rings : QueueOf) (new : Bridge) (peer : Side) (at offset len : ℕ) → peer ≡ other_side rings.side → at ≡ queue_address rings.plan rings.side rings.queue offset
    → ArePromised at len (pages_of new peer) → IsRangePromised rings offset len (pages_of new (other_side rings.side))
range_promised rings new peer at offset len sides is_at promised =
    λ reach. subst (λ (side : Side). ArePromised (queue_address rings.plan rings.side rings.queue offset) len (pages_of new side)) sides (subst (λ at. ArePromised at len (pages_of new peer)) is_at promised)

-- A promised range of the queue's window stays promised as pages grow.
pub range_still : (rings : QueueOf) (touched : ℕ → Type 0) (offset len : ℕ) (old new : List ℕ) → PagesGrow touched old new → IsRangePromised rings offset len old → IsRangePromised rings offset len new
range_still rings touched offset len old new grow promised = λ reach. promised_still touched old new _ len grow (promised reach)

-- An entry whose payload and header are promised stays so as pages grow.
pub entry_still : (rings : QueueOf) (touched : ℕ → Type 0) (n len : ℕ) (old new : List ℕ) → PagesGrow touched old new → IsEntryPromised rings n len old → IsEntryPromised rings n len new
entry_still rings touched n len old new grow promised =
    record { payload = range_still rings touched _ len old new grow promised.payload; header = range_still rings touched _ (header_bytes rings.plan) old new grow promised.header }

-- An entry: first its payload, then its header

-- Pages that grow only if an entry's payload touches them grow only if the entry does.
pub payload_grows : (rings : QueueOf) (n len at : ℕ) (old now : List ℕ) → at ≡ slot_offset rings.plan rings.side rings.queue n
    → PagesGrow (TouchesRange rings at len) old now → PagesGrow (TouchesEntry rings n len) old now
payload_grows rings n len at old now is_at grow =
    grows_further (TouchesEntry rings n len) (TouchesRange rings at len) old old now (grows_nothing (TouchesEntry rings n len) old) grow
    (λ page touch. inl (subst (λ at. TouchesRange rings at len page) is_at touch))

-- Pages that grew only if an entry touches them, and then where its header does, grew only if the entry does.
pub header_grows : (rings : QueueOf) (n len at size : ℕ) (old now new : List ℕ) → at ≡ header_offset rings.plan rings.side rings.queue n → size ≡ header_bytes rings.plan
    → PagesGrow (TouchesEntry rings n len) old now → PagesGrow (TouchesRange rings at size) now new → PagesGrow (TouchesEntry rings n len) old new
header_grows rings n len at size old now new is_at is_size so_far grow =
    grows_further (TouchesEntry rings n len) (TouchesRange rings at size) old now new so_far grow
    (λ page touch. inr (subst (λ size. TouchesRange rings (header_offset rings.plan rings.side rings.queue n) size page) is_size (subst (λ at. TouchesRange rings at size page) is_at touch)))

-- An entry is promised where its payload's range was, and its header's became so as pages grew.
pub entry_promised : (rings : QueueOf) (n len slot at size : ℕ) (now new : List ℕ) → slot ≡ slot_offset rings.plan rings.side rings.queue n → at ≡ header_offset rings.plan rings.side rings.queue n → size ≡ header_bytes rings.plan
    → IsRangePromised rings slot len now → PagesGrow (TouchesRange rings at size) now new → IsRangePromised rings at size new → IsEntryPromised rings n len new
entry_promised rings n len slot at size now new is_slot is_at is_size payload grow header =
    record {
      payload = subst (λ slot. IsRangePromised rings slot len new) is_slot (range_still rings (TouchesRange rings at size) slot len now new grow payload);
      header = subst (λ size. IsRangePromised rings (header_offset rings.plan rings.side rings.queue n) size new) is_size (subst (λ at. IsRangePromised rings at size new) is_at header);
    }

-- The entries of a frame, one after the other

-- Pages that grew only if entries touch them, and then where one of these does, grew only if they all do.
pub entries_grow : (rings : QueueOf) (from n k len : ℕ) (entries : List Entry) (old now new : List ℕ) → n ≡ from + k → k < length entries → len ≡ length (bytes_of (entry_at entries k))
    → PagesGrow (TouchesEntries rings from entries) old now → PagesGrow (TouchesEntry rings n len) now new → PagesGrow (TouchesEntries rings from entries) old new
entries_grow rings from n k len entries old now new is_n among is_len so_far grow =
    grows_further (TouchesEntries rings from entries) (TouchesEntry rings n len) old now new so_far grow
    (λ page touch. (k, among, subst (λ len. TouchesEntry rings (from + k) len page) is_len (subst (λ n. TouchesEntry rings n len page) is_n touch)))

-- If the entries before place k were promised, and then the one at k is, all up to k are promised.
pub entries_promised : (rings : QueueOf) (from n k len : ℕ) (entries : List Entry) (now new : List ℕ) → n ≡ from + k → len ≡ length (bytes_of (entry_at entries k))
    → ((j : ℕ) → j < k → IsEntryPromised rings (from + j) (length (bytes_of (entry_at entries j))) now) → PagesGrow (TouchesEntry rings n len) now new → IsEntryPromised rings n len new
    → (j : ℕ) → j < k + 1 → IsEntryPromised rings (from + j) (length (bytes_of (entry_at entries j))) new
entries_promised rings from n k len entries now new is_n is_len so_far grow promised =
    below_more (λ j. IsEntryPromised rings (from + j) (length (bytes_of (entry_at entries j))) new) k
    (λ j below. entry_still rings (TouchesEntry rings n len) (from + j) (length (bytes_of (entry_at entries j))) now new grow (so_far j below))
    (subst (λ len. IsEntryPromised rings (from + k) len new) is_len (subst (λ n. IsEntryPromised rings n len new) is_n promised))

-- a piece as it is cut, and that there is one
pub piece_length : (largest seen k count : ℕ) (frame bytes payload : List ℕ) → seen ≡ largest → bytes ≡ frame → payload ≡ take seen (drop (seen * k) bytes) → count ≡ pieces_in seen (length frame) → k < count
    → (length payload ≡ length (bytes_of (entry_at (pieces_of largest frame) k))) × (k < length (pieces_of largest frame))
piece_length largest seen k count frame bytes payload is_seen is_bytes is_payload is_count less =
    let among : k < pieces_in largest (length frame) = subst (λ largest. k < pieces_in largest (length frame)) is_seen (omega (arith, less, is_count)) in (
      ap length (is_payload ∙ ap (λ seen. take seen (drop (seen * k) bytes)) is_seen ∙ ap (λ bytes. take largest (drop (largest * k) bytes)) is_bytes)
          ∙ sym (ap (λ (entry : Entry). length (bytes_of entry)) (piece_at largest frame k among)),
      omega (arith, among, length-pieces_of largest frame),
    )
