-- What a sender and a receiver read in memory where a ring stands there: room, entries, parts of an entry, and the
-- windows of the peer.
use Rattle.std.proofs.Common.{◌≡◌, ℕ, zero, suc, ◌+◌, ◌-◌, ◌*◌, ◌%◌, ◌<◌, ◌≤◌, ◌==◌, true, not, List, ◌∷◌, length, take, drop, min, refl, sym, ap, ◌∙◌, subst, inl, inr, arith, mod-lt}
use Rattle.std.specs.Prelude.{if◌then◌else◌, max, nat_lt}
use Rattle.std.proofs.Math.Nat.{mod-eq_of_lt}
use Rattle.std.proofs.lemmas.Bool.{cases_Bool, false≢true, eq-eqb, eqb-true, eqb-false, lt-ltb, le-ltb, cond-true, cond-false}
use Rattle.std.proofs.lemmas.List.{length-take, length-drop}
use Rattle.step_kinds.specs.Bits.{has_bit}
use Rattle.step_kinds.specs.Sides.{other_side}
use Rattle.step_kinds.specs.declared.names.Side.{Side}
use Rattle.step_kinds.specs.declared.names.Side.TheVariants.{A, B}
use Rattle.step_kinds.specs.declared.plan.PairPlan.{PairPlan}
use Rattle.step_kinds.specs.declared.steps.Label.{Label}
use Rattle.step_kinds.specs.declared.steps.Label.TheVariants.{Chunk as ChunkLabel, Len, Ver, Flag, Down, Bell, Index}
use Rattle.lane_model.specs.Lane.{Entry, Carries, GoesDown, Slot, bytes_of, chunk_of, chunk_size, chunks_in, copies_of, version_of}
use Rattle.lane_model.specs.declared.Field.TheVariants.{Chunk}
use Rattle.lane_model.specs.Law.{Stands, StandsWhole}
use Rattle.lane_model.specs.Ring.{free_entries, head_of, tail_of, room_of}
use Rattle.ring_geometry.specs.Geometry.{entries_of, window_of, slot_of, header_of}
use Rattle.ring_geometry.proofs.Facade.{free_is_room}
use Rattle.pair_model.specs.DeclaredPlans.{Agree, IsPair}
use Rattle.pair_model.specs.Plans.{side_plan}
use Rattle.pair_model.specs.Sizes.{Sizes, layout_of, layout_to}
use Rattle.pair_model.specs.Addresses.{own_address, own_slot}
use Rattle.pair_model.specs.Headers.{Bytes, NoEntry, ALinkDownEntry, AnotherVersion, TooManyBytes, AnEntry, Header, found_with, free_in_memory, header_in, header_with, word_at}
use Rattle.pair_model.specs.Stores.{Store, byte_in, bytes_in}
use Rattle.ledger_model.specs.Reading.{found_entry, has_window}
use Rattle.ledger_laws.proofs.walk.Turn.{on_queue}
use Rattle.ledger_laws.specs.StoredRings.{header_of_slot}

-- Rings of both sides

-- where the sides agree, the ring that a side receives in is, by its own numbers, the one that its peer sends to
pub layouts_alike : (plan : PairPlan) → Agree plan → (from : Side) (queue : ℕ) → layout_to plan (other_side from) queue ≡ layout_of plan from queue
layouts_alike plan agree A queue = let q = agree.queues in let w = agree.windows in cc
layouts_alike plan agree B queue = let q = agree.queues in let w = agree.windows in cc

-- the peer has the window of each of a side's queues
queue_has_window : (plan : PairPlan) → Agree plan → IsPair plan → (side : Side) (queue : ℕ) → nat_lt (window_of (layout_of plan side queue)) (side_plan plan (other_side side)).windows ≡ true
queue_has_window plan agree is A queue = lt-ltb _ _ (let h = mod-lt queue {m = plan.a.windows} is.side_a.windows.0 in omega (arith, h, agree.windows))
queue_has_window plan agree is B queue = lt-ltb _ _ (let h = mod-lt queue {m = plan.b.windows} is.side_b.windows.0 in omega (arith, h, agree.windows))

some_window : (plan : PairPlan) → IsPair plan → (side : Side) → nat_lt 0 (side_plan plan (other_side side)).windows ≡ true
some_window plan is A = lt-ltb 0 _ is.side_b.windows.0
some_window plan is B = lt-ltb 0 _ is.side_a.windows.0

-- and so that of each write of their lanes
pub write_has_window : (plan : PairPlan) → Agree plan → IsPair plan → (side : Side) (queue : ℕ) (label : Label) → on_queue queue label ≡ true → has_window plan side label ≡ true
write_has_window plan agree is side queue (ChunkLabel q n part) on = queue_has_window plan agree is side q
write_has_window plan agree is side queue (Len q n) on = queue_has_window plan agree is side q
write_has_window plan agree is side queue (Ver q n) on = queue_has_window plan agree is side q
write_has_window plan agree is side queue (Flag q n) on = queue_has_window plan agree is side q
write_has_window plan agree is side queue (Down q n) on = queue_has_window plan agree is side q
write_has_window plan agree is side queue (Bell q) on = some_window plan is side
write_has_window plan agree is side queue label on = absurd (false≢true on)

-- If the sides of a declared pair agree, the peer has the window that a queue's index writes go through.
pub index_has_window : (plan : PairPlan) → Agree plan → IsPair plan → (side : Side) (queue n : ℕ) → has_window plan side (Index queue n) ≡ true
index_has_window plan agree is side queue n = queue_has_window plan agree is side queue

-- A sender's room

-- If the index word is the tail, the free entries that it shows with the head are the room by counts.
pub room_is_read : (entries begun freed word : ℕ) → 2 ≤ entries → freed ≤ begun → begun + 1 ≤ freed + entries → word ≡ tail_of entries freed
    → free_in_memory entries (head_of entries begun) word ≡ room_of entries begun freed
room_is_read entries begun freed word two low room is =
    ap (free_in_memory entries (head_of entries begun)) is
    ∙ cond-true (nat_lt (tail_of entries freed) entries) (free_entries entries (head_of entries begun) (tail_of entries freed)) 0 (lt-ltb _ _ (mod-lt (freed + entries - 1) (omega arith)))
    ∙ free_is_room entries begun freed two low (omega arith)

-- What a receiver finds

-- a header of which only one field is known
no_entry_read : (sizes : Sizes) (got gathered : ℕ) (header : Header) → header.flags ≡ 0 → found_with sizes got gathered header ≡ NoEntry
no_entry_read sizes got gathered header none =
    cond-true (not (has_bit header.flags 0)) NoEntry _ (ap (λ flags. not (has_bit flags 0)) none)

down_read : (sizes : Sizes) (got gathered : ℕ) (header : Header) → header.flags ≡ 3 → found_with sizes got gathered header ≡ ALinkDownEntry
down_read sizes got gathered header both =
    cond-false (not (has_bit header.flags 0)) NoEntry _ (ap (λ flags. not (has_bit flags 0)) both)
    ∙ cond-true (has_bit header.flags 1) ALinkDownEntry _ (ap (λ flags. has_bit flags 1) both)

piece_read : (sizes : Sizes) (got gathered : ℕ) (header : Header) → header.flags ≡ 1 → header.ver ≡ version_of got → header.len ≤ sizes.largest → gathered + header.len ≤ sizes.most
    → found_with sizes got gathered header ≡ AnEntry header.len header.left
piece_read sizes got gathered header done ver fits most =
    cond-false (not (has_bit header.flags 0)) NoEntry _ (ap (λ flags. not (has_bit flags 0)) done)
    ∙ cond-false (has_bit header.flags 1) ALinkDownEntry _ (ap (λ flags. has_bit flags 1) done)
    ∙ cond-false (not (header.ver == version_of got)) (AnotherVersion header.ver (version_of got)) _ (ap not (eq-eqb header.ver (version_of got) ver))
    ∙ cond-false (nat_lt sizes.largest header.len) (TooManyBytes header.len sizes.largest) _ (le-ltb sizes.largest header.len fits)
    ∙ cond-false (nat_lt sizes.most (gathered + header.len)) (TooManyBytes (gathered + header.len) sizes.most) (AnEntry header.len header.left) (le-ltb sizes.most (gathered + header.len) most)

-- an entry that stands whole
whole_read : (sizes : Sizes) (got gathered : ℕ) (slot : Slot) (entry : Entry) → StandsWhole slot got entry → length (bytes_of entry) ≤ sizes.largest → gathered + length (bytes_of entry) ≤ sizes.most
    → found_with sizes got gathered (header_of_slot slot) ≡ found_entry entry
whole_read sizes got gathered slot (Carries bytes left) whole fits most =
    let e = whole.len in
    piece_read sizes got gathered (header_of_slot slot) whole.flags whole.ver (omega (arith, e, fits)) (omega (arith, e, most))
    ∙ ap (λ len. AnEntry len slot.left) whole.len ∙ ap (AnEntry (length bytes)) whole.left
whole_read sizes got gathered slot GoesDown whole fits most = down_read sizes got gathered (header_of_slot slot) whole.flags

-- the next slot of a ring, by the counts
pub next_read : (sizes : Sizes) (flagged got gathered : ℕ) (slot : Slot) (entry : Entry) → got ≤ flagged → (flagged ≡ got → slot.flags ≡ 0) → (got < flagged → StandsWhole slot got entry)
    → (got < flagged → (length (bytes_of entry) ≤ sizes.largest) × (gathered + length (bytes_of entry) ≤ sizes.most))
    → found_with sizes got gathered (header_of_slot slot) ≡ (if flagged == got then NoEntry else found_entry entry)
next_read sizes flagged got gathered slot entry low none whole fits = elim (cases_Bool (flagged == got)) [
  | inl same ↦ no_entry_read sizes got gathered (header_of_slot slot) (none (eqb-true flagged got same)) ∙ sym (cond-true (flagged == got) NoEntry (found_entry entry) same)
  | inr apart ↦
      let more : got < flagged = let ne = eqb-false flagged got apart in grind (arith, ne) in
      whole_read sizes got gathered slot entry (whole more) (fits more).0 (fits more).1 ∙ sym (cond-false (flagged == got) NoEntry (found_entry entry) apart)
]

-- Where it finds it

-- A number modulo a ring's length, taken modulo that length again, stays the same.
pub mod-twice : (n entries : ℕ) → 0 < entries → (n % entries) % entries ≡ n % entries
mod-twice n entries some = mod-eq_of_lt (mod-lt n some)

-- an entry's header is that of its slot, and so is its payload's address
module _ (plan : PairPlan) (side : Side) (queue n entries : ℕ) (some : 0 < entries) (same : entries_of (layout_to plan side queue) ≡ entries) where
  slot_once : (n % entries) % entries_of (layout_to plan side queue) ≡ n % entries_of (layout_to plan side queue)
  slot_once = ap (λ k. (n % entries) % k) same ∙ mod-twice n entries some ∙ sym (ap (λ k. n % k) same)

  pub header_at_slot : (bytes : Bytes) → header_in plan bytes side queue (n % entries) ≡ header_in plan bytes side queue n
  header_at_slot bytes = ap (λ place. header_with plan (λ offset. word_at bytes side (own_address plan side queue (header_of (layout_to plan side queue) place) + offset))) slot_once

  pub address_at_slot : own_slot plan side queue (n % entries) ≡ own_slot plan side queue n
  address_at_slot = ap (λ place. own_address plan side queue (slot_of (layout_to plan side queue) place)) slot_once

-- Parts of an entry

-- the first bytes of those from an address on, and those after them
bytes_front : (stores : List Store) (at len all : ℕ) → len ≤ all → take len (bytes_in stores at all) ≡ bytes_in stores at len
bytes_front stores at zero all within = refl
bytes_front stores at (suc len) zero within = absurd (omega arith)
bytes_front stores at (suc len) (suc all) within = ap (λ bytes. byte_in stores at ∷ bytes) (bytes_front stores (suc at) len all (omega arith))

bytes_behind : (stores : List Store) (at offset more all place : ℕ) → offset + more ≡ all → at + offset ≡ place → drop offset (bytes_in stores at all) ≡ bytes_in stores place more
bytes_behind stores at zero more all place size is =
    let a : all ≡ more = omega arith in let b : at ≡ place = omega arith in
    subst (λ n. bytes_in stores at n ≡ bytes_in stores place more) (sym a) (ap (λ n. bytes_in stores n more) b)
bytes_behind stores at (suc offset) more zero place size is = absurd (omega arith)
bytes_behind stores at (suc offset) more (suc all) place size is = bytes_behind stores (suc at) offset more all place (omega arith) (omega arith)

bytes_within : (stores : List Store) (at offset len all : ℕ) → offset + len ≤ all → bytes_in stores (at + offset) len ≡ take len (drop offset (bytes_in stores at all))
bytes_within stores at offset len all within =
    sym (ap (take len) (bytes_behind stores at offset (all - offset) all (at + offset) (omega arith) refl) ∙ bytes_front stores (at + offset) len (all - offset) (omega arith))

-- a part lies within the payload
part_within : (len part : ℕ) → part < max 1 (chunks_in len) → chunk_size * part + min chunk_size (len - chunk_size * part) ≤ len
part_within len part below = omega arith

length-chunk : (bytes : List ℕ) (part : ℕ) → length (chunk_of bytes part) ≡ min chunk_size (length bytes - chunk_size * part)
length-chunk bytes part = length-take chunk_size (drop (chunk_size * part) bytes) ∙ ap (min chunk_size) (length-drop (chunk_size * part) bytes)

-- the part that comes next, if the entry stands in a slot at an address
pub part_is_read : (stores : List Store) (at largest part len : ℕ) (slot : Slot) (n : ℕ) (entry : Entry) → bytes_in stores at largest ≡ slot.payload → Stands slot n entry (Chunk part)
    → part < copies_of entry → len ≡ length (bytes_of entry) → length (bytes_of entry) ≤ largest → bytes_in stores (at + chunk_size * part) (min chunk_size (len - chunk_size * part)) ≡ chunk_of (bytes_of entry) part
part_is_read stores at largest part len slot n entry payload stands below size fits =
    let own = bytes_of entry in
    let within = part_within (length own) part below in
    ap (λ k. bytes_in stores (at + chunk_size * part) (min chunk_size (k - chunk_size * part))) size
    ∙ bytes_within stores at (chunk_size * part) (min chunk_size (length own - chunk_size * part)) largest (omega (arith, within, fits))
    ∙ ap (λ k. take k (drop (chunk_size * part) (bytes_in stores at largest))) (sym (length-chunk own part))
    ∙ ap (λ bytes. take (length (chunk_of own part)) (drop (chunk_size * part) bytes)) payload
    ∙ stands
