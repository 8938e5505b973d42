-- What a look promises: the pages of the flags and of the index word of the entry that it found.
use Rattle.std.proofs.Common.{◌≡◌, ◌∙◌, ◌≤◌, ℕ, ◌+◌, All, Bool, true, false, List, Option, Some, None, Result, Ok, Err, OnErr, OnOk, length, nat_lt, refl, ap, subst, if◌then◌else◌}
use Rattle.std.proofs.lemmas.List.Elements.{All-weaker}
use Rattle.std.proofs.lemmas.Bool.{ltb-false}
use Rattle.step_kinds.specs.Sides.{other_side}
use Rattle.step_kinds.specs.declared.names.Side.{Side}
use Rattle.step_kinds.specs.declared.names.Side.TheVariants.{A, B}
use Rattle.step_kinds.specs.declared.plan.PairPlan.{PairPlan}
use Rattle.pair_model.specs.Addresses.{own_header}
use Rattle.pair_model.specs.Headers.{Found, Header, NoEntry, ALinkDownEntry, AnotherVersion, TooManyBytes, AnEntry, flags_offset, header_in}
use Rattle.pair_model.specs.RingWrites.{WindowWrite, entry_write, index_write}
use Rattle.host_memory.specs.Memory.{ArePromised, Touches}
use Rattle.lane_model.specs.Lane.{version_of}
use Rattle.lane_model.specs.Tests.{is_idle}
use Rattle.pair_model.specs.Sizes.{Sizes, layout_to, sizes_in}
use Rattle.lane_model.specs.declared.Phase.TheVariants.{Copying}
use Rattle.bridge_pair.specs.Bridge.{Bridge, pages_of, with_pages}
use Rattle.bridge_pair.specs.Pages.{PagesGrow}
use Rattle.bridge_pair.proofs.Facade.{grows_further, grows_nothing, promised_still}
use Rattle.frame_ring.specs.Calls.{PortFindsEntry, TouchedByFlags, TouchedByLook, found_seen, port_look_answer, look_found}
use Rattle.frame_ring.specs.Port.{Left, PortState, Receiving, with_receiving, writes_left}
use Rattle.frame_ring.specs.PortView.{HasPortPages, IsLeftReady, IsPortReady, IsReadyToLand, TouchesWrite, bytes_seen, with_room}
use Rattle.frame_ring.specs.declared.RingLook.TheVariants.{OutOfTurn, Ready}

-- Pages of the two sides

-- Setting the promised pages of a side leaves those of its peer as they were.
pub peer_pages : (bridge : Bridge) (side : Side) (pages : List ℕ) → pages_of (with_pages bridge side pages) (other_side side) ≡ pages_of bridge (other_side side)
peer_pages bridge A pages = refl
peer_pages bridge B pages = refl

-- Setting the promised pages of a side's peer leaves those of the side as they were.
pub side_pages : (bridge : Bridge) (side : Side) (pages : List ℕ) → pages_of (with_pages bridge (other_side side) pages) side ≡ pages_of bridge side
side_pages bridge A pages = refl
side_pages bridge B pages = refl

-- Promising room for one write leaves each side's promised pages as they were, whether it is ok or an error.
pub either_pages : {X E : Type 0} (result : Result X E) (mid new : Bridge) (side any : Side) → OnOk result (new ≡ with_room mid side 1) → OnErr result (new ≡ mid) → pages_of new any ≡ pages_of mid any
either_pages (Ok x) mid new side any ok err = ap (λ (bridge : Bridge). pages_of bridge any) ok
either_pages (Err e) mid new side any ok err = ap (λ (bridge : Bridge). pages_of bridge any) err

-- A fact that holds anyway holds where a result is an error.
pub on_err : {X E : Type 0} (result : Result X E) {P : Type 0} → P → OnErr result P
on_err (Ok x) p = tt
on_err (Err e) p = p

-- Writes that were ready stay so

write_still : (plan : PairPlan) (side : Side) (touched : ℕ → Type 0) (old new : List ℕ) (write : Option WindowWrite) → PagesGrow touched old new → IsPortReady plan side old write → IsPortReady plan side new write
write_still plan side touched old new None grow ready = tt
write_still plan side touched old new (Some write) grow ready = λ reach. promised_still touched old new _ (length write.bytes) grow (ready reach)

-- Writes left to post whose pages at the peer are promised stay so as those pages grow.
pub writes_still : (plan : PairPlan) (side : Side) (touched : ℕ → Type 0) (old new : List ℕ) (lefts : List Left) → PagesGrow touched old new → All (IsLeftReady plan side old) lefts → All (IsLeftReady plan side new) lefts
writes_still plan side touched old new lefts grow all =
    All-weaker (IsLeftReady plan side old) (IsLeftReady plan side new) (λ (left : Left) (h : IsLeftReady plan side old left). write_still plan side touched old new (entry_write plan side left.entry left.label) grow h) lefts all

-- A port that finds an entry has its pages promised, if those of the entry's flags and index write are.
pub found_ready : (port : PortState) (len left : ℕ) (own peer own_new peer_new : List ℕ) (touched : ℕ → Type 0)
    → PagesGrow touched peer peer_new → ArePromised (own_header port.plan port.side port.queue port.receiving.got + flags_offset port.plan) 4 own_new
    → IsReadyToLand port.plan port.side peer_new (index_write port.plan port.side port.queue port.receiving.got)
    → HasPortPages port own peer → HasPortPages (with_receiving port (record port.receiving { phase = Copying; part = 0; len = len; left = left })) own_new peer_new
found_ready port len left own peer own_new peer_new touched grow flags index_word ready =
    record {
      writes = writes_still port.plan port.side touched peer peer_new (writes_left port) grow ready.writes;
      flags = λ busy. flags;
      index_word = λ busy. index_word;
    }

-- What was found

answer_of : (receiving : Receiving) (found : Found) (number len : ℕ) → Ready number len ≡ look_found receiving found → look_found receiving found ≡ Ready receiving.got len
answer_of receiving NoEntry number len e = absurd (cc e)
answer_of receiving ALinkDownEntry number len e = absurd (cc e)
answer_of receiving (AnotherVersion seen own) number len e = absurd (cc e)
answer_of receiving (TooManyBytes many most) number len e = absurd (cc e)
answer_of receiving (AnEntry size left) number len e = let same : size ≡ len = cc in ap (Ready receiving.got) same

-- An idle receiver's look that is answered ready finds an entry, numbered by the entries taken so far.
pub finds : (port : PortState) (bridge : Bridge) (found : Found) (number len : ℕ) → is_idle port.receiving.phase ≡ true → found ≡ found_seen port bridge → Ready number len ≡ look_found port.receiving found → PortFindsEntry port bridge
finds port bridge found number len idle is ready = (len, rw idle (answer_of port.receiving (found_seen port bridge) number len (ready ∙ ap (look_found port.receiving) is)))

fits_where : (sizes : Sizes) (header : Header) (receiving : Receiving) (gathered own len : ℕ) (empty down other large longer : Bool) → nat_lt sizes.most (gathered + header.len) ≡ longer
    → look_found receiving (if empty then NoEntry else if down then ALinkDownEntry else if other then AnotherVersion header.ver own
    else if large then TooManyBytes header.len sizes.largest else if longer then TooManyBytes (gathered + header.len) sizes.most else AnEntry header.len header.left) ≡ Ready receiving.got len
    → gathered + len ≤ sizes.most
fits_where sizes header receiving gathered own len true down other large longer is e = absurd (cc e)
fits_where sizes header receiving gathered own len false true other large longer is e = absurd (cc e)
fits_where sizes header receiving gathered own len false false true large longer is e = absurd (cc e)
fits_where sizes header receiving gathered own len false false false true longer is e = absurd (cc e)
fits_where sizes header receiving gathered own len false false false false true is e = absurd (cc e)
fits_where sizes header receiving gathered own len false false false false false is e =
    let same : header.len ≡ len = cc e in
    subst (λ n. gathered + n ≤ sizes.most) same (ltb-false sizes.most (gathered + header.len) is)

-- The bytes of an entry that a look finds make its frame no longer than one may be.
pub entry_fits : (port : PortState) (bridge : Bridge) (len : ℕ) → port_look_answer port bridge ≡ Ready port.receiving.got len
    → length port.receiving.gathered + len ≤ (sizes_in port.plan (layout_to port.plan port.side port.queue)).most
entry_fits port bridge len found = at_phase (is_idle port.receiving.phase) found where
  at_phase : (idle : Bool) → (if idle then look_found port.receiving (found_seen port bridge) else OutOfTurn) ≡ Ready port.receiving.got len
      → length port.receiving.gathered + len ≤ (sizes_in port.plan (layout_to port.plan port.side port.queue)).most
  at_phase true e =
      let header = header_in port.plan (bytes_seen bridge) port.side port.queue port.receiving.got in
      let sizes = sizes_in port.plan (layout_to port.plan port.side port.queue) in
      let gathered = length port.receiving.gathered in
      fits_where sizes header port.receiving gathered (version_of port.receiving.got) len _ _ _ _ _ refl e
  at_phase false e = absurd (cc e)

-- If a look finds an entry, pages that grow only by its index write grow only by what the look may promise.
pub look_touches : (port : PortState) (bridge : Bridge) (old new : List ℕ) → PortFindsEntry port bridge
    → PagesGrow (TouchesWrite port.plan port.side (index_write port.plan port.side port.queue port.receiving.got)) old new → PagesGrow (TouchedByLook port bridge) old new
look_touches port bridge old new finds grow =
    grows_further (TouchedByLook port bridge) (TouchesWrite port.plan port.side (index_write port.plan port.side port.queue port.receiving.got)) old old new (grows_nothing (TouchedByLook port bridge) old) grow
    (λ page touch. (finds, touch))

-- If a look finds an entry, pages that grow only by the entry's flags grow only by what the look may promise.
pub flags_touch : (port : PortState) (bridge : Bridge) (old new : List ℕ) → PortFindsEntry port bridge
    → PagesGrow (Touches (own_header port.plan port.side port.queue port.receiving.got + flags_offset port.plan) 4) old new → PagesGrow (TouchedByFlags port bridge) old new
flags_touch port bridge old new finds grow =
    grows_further (TouchedByFlags port bridge) (Touches (own_header port.plan port.side port.queue port.receiving.got + flags_offset port.plan) 4) old old new (grows_nothing (TouchedByFlags port bridge) old) grow
    (λ page touch. (finds, touch))
