-- What a begin leaves of promises: room for each write of the entries, and their pages.
use Rattle.std.proofs.Common.{◌≡◌, ◌∙◌, ℕ, zero, suc, ◌+◌, ◌-◌, ◌<◌, ◌||◌, All, false, not, List, [], ◌∷◌, ◌++◌, length, refl, sym, ap, subst, arith}
use Rattle.step_kinds.specs.Sides.{other_side}
use Rattle.step_kinds.specs.declared.names.Side.{Side}
use Rattle.step_kinds.specs.declared.names.Side.TheVariants.{A, B}
use Rattle.step_kinds.specs.declared.steps.Label.{Label}
use Rattle.lane_model.specs.Lane.{Entry, GoesDown, bytes_of}
use Rattle.lane_model.specs.Tests.{is_empty_list}
use Rattle.pair_model.specs.Labels.{labels_of}
use Rattle.pair_model.specs.Pieces.{pieces_of}
use Rattle.bridge_pair.specs.Bridge.{Bridge, flight_of, pages_of, with_pages}
use Rattle.bridge_pair.specs.Pages.{PagesGrow}
use Rattle.bridge_pair.proofs.Facade.{grows_further, grows_nothing, promised_still}
use Rattle.frame_ring.specs.Calls.{down_begun, entries_begun, port_frame_begun, sizes_seen}
use Rattle.frame_ring.specs.Outgoing.{Outgoing, all_writes_in, entry_at, with_progress}
use Rattle.frame_ring.specs.Port.{Left, PortState, Sending, is_port_busy, left_of_entry, unused_of, with_sending, writes_from, writes_left}
use Rattle.frame_ring.specs.Promises.{AreEntriesPromised, IsEntryPromised, TouchesEntries, TouchesEntry}
use Rattle.frame_ring.specs.Rings.{QueueOf}
use Rattle.frame_ring.specs.PortView.{HasPortPages, HasPagesIn, IsLeftReady, TouchesLeft, with_room}
use Rattle.frame_ring.proofs.Entries.{length-writes_from}
use Rattle.frame_ring.proofs.Progress.{some_pieces}
use Rattle.frame_ring.proofs.WritePages.{writes_ready, writes_touched}

-- nothing is left of a sender that isn't busy
pub nothing_left : (queue : ℕ) (sending : Sending) → is_port_busy sending ≡ false → left_of_entry sending.entry sending.todo ++ writes_from queue sending.begun sending.waiting ≡ []
nothing_left queue sending idle = at_lists sending.todo sending.waiting idle where
  at_lists : (todo : List Label) (waiting : List Entry) → (not (is_empty_list todo) || not (is_empty_list waiting)) ≡ false → left_of_entry sending.entry todo ++ writes_from queue sending.begun waiting ≡ []
  at_lists [] [] e = refl
  at_lists [] (x ∷ xs) e = absurd (cc e)
  at_lists (x ∷ xs) [] e = absurd (cc e)
  at_lists (x ∷ xs) (y ∷ ys) e = absurd (cc e)

-- what is left of entries that were begun are their writes
pub begun_writes : (queue told : ℕ) (sending : Sending) (entries : List Entry) → 0 < length entries
    → (let after = record (entries_begun queue sending entries) { told = told } in
    left_of_entry after.entry after.todo ++ writes_from queue after.begun after.waiting) ≡ writes_from queue sending.begun entries
begun_writes queue told sending [] some = absurd (omega (arith, some))
begun_writes queue told sending (entry ∷ entries) some =
    let n : sending.begun + 1 ≡ suc sending.begun = omega arith in
    ap (λ n. left_of_entry entry (labels_of queue sending.begun entry) ++ writes_from queue n entries) n

-- If a sender with nothing left begins entries, its port's unused promises grow by the writes that these take.
pub unused_more : (port : PortState) (after : Sending) (entries : List Entry) → is_port_busy port.sending ≡ false
    → left_of_entry after.entry after.todo ++ writes_from port.queue after.begun after.waiting ≡ writes_from port.queue port.sending.begun entries
    → unused_of (with_sending port after) - unused_of port ≡ all_writes_in entries
unused_more port after entries idle is =
    let before : length (writes_left port) ≡ 0 = ap length (nothing_left port.queue port.sending idle) in
    let now : length (writes_left (with_sending port after)) ≡ all_writes_in entries = ap length is ∙ length-writes_from port.queue port.sending.begun entries in
    omega (arith, before, now)

-- Promising a side room for zero more writes leaves the bridge as it was.
pub no_room : (bridge : Bridge) (side : Side) → with_room bridge side 0 ≡ bridge
no_room bridge A = let e : (flight_of bridge A).spare + 0 ≡ (flight_of bridge A).spare = omega arith in ap (λ spare. record bridge { flights = record { a = record { writes = bridge.flights.a.writes; spare = spare }; b = bridge.flights.b } }) e
no_room bridge B = let e : (flight_of bridge B).spare + 0 ≡ (flight_of bridge B).spare = omega arith in ap (λ spare. record bridge { flights = record { a = bridge.flights.a; b = record { writes = bridge.flights.b.writes; spare = spare } } }) e

-- A side's own promised pages stay as its peer's are set anew and room for more of its writes is promised.
pub own_pages : (bridge : Bridge) (side : Side) (pages : List ℕ) (more : ℕ) → pages_of (with_room (with_pages bridge (other_side side) pages) side more) side ≡ pages_of bridge side
own_pages bridge A pages more = refl
own_pages bridge B pages more = refl

-- A port that begins entries still has its pages promised, if the peer's pages grew to hold all that these need.
pub begun_ready : (port : PortState) (rings : QueueOf) (after : Sending) (entries : List Entry) (own peer new : List ℕ) (touched : ℕ → Type 0)
    → rings.plan ≡ port.plan → rings.side ≡ port.side → rings.queue ≡ port.queue
    → left_of_entry after.entry after.todo ++ writes_from port.queue after.begun after.waiting ≡ writes_from port.queue port.sending.begun entries
    → PagesGrow touched peer new → AreEntriesPromised rings port.sending.begun entries new → HasPortPages port own peer → HasPortPages (with_sending port after) own new
begun_ready port rings after entries own peer new touched plan side queue is grow promised ready =
    record {
      writes = subst (All (IsLeftReady port.plan port.side new)) (sym is) (rw (← plan, ← side, ← queue) (writes_ready rings port.sending.begun entries new promised));
      flags = ready.flags;
      index_word = λ busy reach. promised_still touched peer new _ _ grow (ready.index_word busy reach);
    }

-- No entry waits at a sender that isn't busy.
pub none_waits : (sending : Sending) → is_port_busy sending ≡ false → length sending.waiting ≡ 0
none_waits sending idle = at_lists sending.todo sending.waiting idle where
  at_lists : (todo : List Label) (waiting : List Entry) → (not (is_empty_list todo) || not (is_empty_list waiting)) ≡ false → length waiting ≡ 0
  at_lists todo [] e = refl
  at_lists [] (x ∷ xs) e = absurd (cc e)
  at_lists (x ∷ xs) (y ∷ ys) e = absurd (cc e)

-- Pages that grow only if entries touch them grow only if the writes of these entries touch them.
pub begun_grows : (rings : QueueOf) (from begun : ℕ) (entries : List Entry) (lefts : List Left) (old new : List ℕ) → from ≡ begun → lefts ≡ writes_from rings.queue begun entries
    → PagesGrow (TouchesEntries rings from entries) old new → PagesGrow (TouchesLeft rings.plan rings.side lefts) old new
begun_grows rings from begun entries lefts old new is_from is grow =
    grows_further (TouchesLeft rings.plan rings.side lefts) (TouchesEntries rings from entries) old old new (grows_nothing (TouchesLeft rings.plan rings.side lefts) old) grow
    (λ page touch. subst (λ (lefts : List Left). TouchesLeft rings.plan rings.side lefts page) (sym is) (writes_touched rings begun page entries (subst (λ n. TouchesEntries rings n entries page) is_from touch)))

-- pages and then room
pub rest_is : (pair mid new : Bridge) (side : Side) (count more : ℕ) → mid ≡ with_pages pair (other_side side) (pages_of mid (other_side side)) → new ≡ with_room mid side count → count ≡ more
    → new ≡ with_room (with_pages pair (other_side side) (pages_of new (other_side side))) side more
rest_is pair mid new side count more pages room is_count =
    let same : pages_of mid (other_side side) ≡ pages_of new (other_side side) = sym (ap (λ (bridge : Bridge). pages_of bridge (other_side side)) room) in
    room
    ∙ ap (λ (bridge : Bridge). with_room bridge side count) pages
    ∙ ap (λ pages. with_room (with_pages pair (other_side side) pages) side count) same
    ∙ ap (with_room (with_pages pair (other_side side) (pages_of new (other_side side))) side) is_count

-- If pages of a side's peer were promised and no room, they are all that was promised.
pub rest_kept : (pair mid new : Bridge) (side : Side) (more : ℕ) → mid ≡ with_pages pair (other_side side) (pages_of mid (other_side side)) → new ≡ mid → more ≡ 0
    → new ≡ with_room (with_pages pair (other_side side) (pages_of new (other_side side))) side more
rest_kept pair mid new side more pages same none = rest_is pair mid new side 0 more pages (same ∙ sym (no_room mid side)) (sym none)

-- Pages that grow only if an entry touches them grow only if the list of that entry alone touches them.
pub one_grows : (rings : QueueOf) (n : ℕ) (entry : Entry) (old new : List ℕ) → PagesGrow (TouchesEntry rings n (length (bytes_of entry))) old new → PagesGrow (TouchesEntries rings n (entry ∷ [])) old new
one_grows rings n entry old new grow =
    let first : n ≡ n + 0 = omega arith in
    grows_further (TouchesEntries rings n (entry ∷ [])) (TouchesEntry rings n (length (bytes_of entry))) old old new (grows_nothing (TouchesEntries rings n (entry ∷ [])) old) grow
    (λ page touch. (0, omega arith, subst (λ n. TouchesEntry rings n (length (bytes_of entry)) page) first touch))

-- If an entry's pages are promised, so are those of each entry of the list of it alone.
pub one_promised : (rings : QueueOf) (n : ℕ) (entry : Entry) (pages : List ℕ) → IsEntryPromised rings n (length (bytes_of entry)) pages → (k : ℕ) → k < length (entry ∷ [])
    → IsEntryPromised rings (n + k) (length (bytes_of (entry_at (entry ∷ []) k))) pages
one_promised rings n entry pages promised zero among = let first : n ≡ n + 0 = omega arith in subst (λ n. IsEntryPromised rings n (length (bytes_of entry)) pages) first promised
one_promised rings n entry pages promised (suc k) among = absurd (omega (arith, among))

-- What is known as a port begins these entries: from which number on, what is promised, and what becomes of the sender.
pub record Begins (port : PortState) (after : Sending) (entries : List Entry) (pair mid new : Bridge) (count : ℕ) : Type 0 where
  pub idle : is_port_busy port.sending ≡ false
  pub some : 0 < length entries
  pub after_is : after ≡ record (entries_begun port.queue port.sending entries) { told = after.told }
  pub grow : PagesGrow (TouchesEntries (record { plan = port.plan; side = port.side; queue = port.queue }) port.sending.begun entries) (pages_of pair (other_side port.side)) (pages_of mid (other_side port.side))
  pub promised : AreEntriesPromised (record { plan = port.plan; side = port.side; queue = port.queue }) port.sending.begun entries (pages_of mid (other_side port.side))
  pub pages : mid ≡ with_pages pair (other_side port.side) (pages_of mid (other_side port.side))
  pub room : new ≡ with_room mid port.side count
  pub count_is : count ≡ all_writes_in entries

lefts_are : (port : PortState) (after : Sending) (entries : List Entry) → 0 < length entries → after ≡ record (entries_begun port.queue port.sending entries) { told = after.told }
    → left_of_entry after.entry after.todo ++ writes_from port.queue after.begun after.waiting ≡ writes_from port.queue port.sending.begun entries
lefts_are port after entries some is =
    ap (λ (after : Sending). left_of_entry after.entry after.todo ++ writes_from port.queue after.begun after.waiting) is ∙ begun_writes port.queue after.told port.sending entries some

-- Beginning entries adds to the pair only pages at the peer, and the room by which the port's unused promises grow.
pub begins_rest : (port : PortState) (after : Sending) (entries : List Entry) (pair mid new : Bridge) (count : ℕ) → Begins port after entries pair mid new count
    → new ≡ with_room (with_pages pair (other_side port.side) (pages_of new (other_side port.side))) port.side (unused_of (with_sending port after) - unused_of port)
begins_rest port after entries pair mid new count h =
    rest_is pair mid new port.side count (unused_of (with_sending port after) - unused_of port) h.pages h.room
    (h.count_is ∙ sym (unused_more port after entries h.idle (lefts_are port after entries h.some h.after_is)))

-- Beginning entries promises at the peer only pages that the writes then left to post touch.
pub begins_pages : (port : PortState) (after : Sending) (entries : List Entry) (pair mid new : Bridge) (count : ℕ) → Begins port after entries pair mid new count
    → PagesGrow (TouchesLeft port.plan port.side (writes_left (with_sending port after))) (pages_of pair (other_side port.side)) (pages_of new (other_side port.side))
begins_pages port after entries pair mid new count h =
    let same : pages_of mid (other_side port.side) ≡ pages_of new (other_side port.side) = sym (ap (λ (bridge : Bridge). pages_of bridge (other_side port.side)) h.room) in
    subst (λ pages. PagesGrow (TouchesLeft port.plan port.side (writes_left (with_sending port after))) (pages_of pair (other_side port.side)) pages) same
    (begun_grows (record { plan = port.plan; side = port.side; queue = port.queue }) port.sending.begun port.sending.begun entries (writes_left (with_sending port after)) _ _ refl (lefts_are port after entries h.some h.after_is) h.grow)

-- A port whose pages are promised has all of them promised after it begins entries too.
pub begins_ready : (port : PortState) (after : Sending) (entries : List Entry) (pair mid new : Bridge) (count : ℕ) → Begins port after entries pair mid new count
    → HasPagesIn port pair → HasPagesIn (with_sending port after) new
begins_ready port after entries pair mid new count h ready =
    let rings : QueueOf = record { plan = port.plan; side = port.side; queue = port.queue } in
    let peer : pages_of mid (other_side port.side) ≡ pages_of new (other_side port.side) = sym (ap (λ (bridge : Bridge). pages_of bridge (other_side port.side)) h.room) in
    let own : pages_of pair port.side ≡ pages_of new port.side =
    sym (ap (λ (bridge : Bridge). pages_of bridge port.side) (rest_is pair mid new port.side count count h.pages h.room refl) ∙ own_pages pair port.side (pages_of new (other_side port.side)) count) in
    subst (λ own. HasPortPages (with_sending port after) own (pages_of new (other_side port.side))) own
    (subst (λ peer. HasPortPages (with_sending port after) (pages_of pair port.side) peer) peer
    (begun_ready port rings after entries (pages_of pair port.side) (pages_of pair (other_side port.side)) (pages_of mid (other_side port.side)) (TouchesEntries rings port.sending.begun entries)
    refl refl refl (lefts_are port after entries h.some h.after_is) h.grow h.promised ready))

abbrev pub rings_of : PortState → QueueOf
rings_of port = record { plan = port.plan; side = port.side; queue = port.queue }

-- If a sender isn't busy, no entry waits, so the next entry's number is just the count of those begun.
pub from_is : (port : PortState) (from : ℕ) → is_port_busy port.sending ≡ false → from ≡ port.sending.begun + length port.sending.waiting → from ≡ port.sending.begun
from_is port from idle is = omega (arith, is, none_waits port.sending idle)

-- A frame

abbrev pub pieces_seen : PortState → List ℕ → List Entry
pieces_seen port frame = pieces_of (sizes_seen port).largest frame

-- A port that isn't busy begins a frame as its pieces, if their pages and room for their writes are promised.
pub frame_begins : (port : PortState) (frame : List ℕ) (pair mid new : Bridge) (from seen count : ℕ) → is_port_busy port.sending ≡ false → from ≡ port.sending.begun + length port.sending.waiting
    → seen ≡ (sizes_seen port).largest → count ≡ all_writes_in (pieces_of seen frame)
    → mid ≡ with_pages pair (other_side port.side) (pages_of mid (other_side port.side))
    → PagesGrow (TouchesEntries (rings_of port) from (pieces_seen port frame)) (pages_of pair (other_side port.side)) (pages_of mid (other_side port.side))
    → AreEntriesPromised (rings_of port) from (pieces_seen port frame) (pages_of mid (other_side port.side))
    → new ≡ with_room mid port.side count → Begins port (port_frame_begun port frame).sending (pieces_seen port frame) pair mid new count
frame_begins port frame pair mid new from seen count idle is_from is_seen is_count pages grow promised room =
    let first = from_is port from idle is_from in
    record {
      idle = idle;
      some = some_pieces (sizes_seen port).largest frame;
      after_is = refl;
      grow = subst (λ n. PagesGrow (TouchesEntries (rings_of port) n (pieces_seen port frame)) (pages_of pair (other_side port.side)) (pages_of mid (other_side port.side))) first grow;
      promised = subst (λ n. AreEntriesPromised (rings_of port) n (pieces_seen port frame) (pages_of mid (other_side port.side))) first promised;
      pages = pages;
      room = room;
      count_is = is_count ∙ ap (λ largest. all_writes_in (pieces_of largest frame)) is_seen;
    }

-- Pages that grow only if a frame's pieces touch them grow only if the writes left after its begin do.
pub frame_grows : (port : PortState) (frame old new : List ℕ) (from : ℕ) → is_port_busy port.sending ≡ false → from ≡ port.sending.begun + length port.sending.waiting
    → PagesGrow (TouchesEntries (rings_of port) from (pieces_seen port frame)) old new → PagesGrow (TouchesLeft port.plan port.side (writes_left (port_frame_begun port frame))) old new
frame_grows port frame old new from idle is_from grow =
    begun_grows (rings_of port) from port.sending.begun (pieces_seen port frame) (writes_left (port_frame_begun port frame)) old new (from_is port from idle is_from)
    (lefts_are port (port_frame_begun port frame).sending (pieces_seen port frame) (some_pieces (sizes_seen port).largest frame) refl) grow

-- A sender that agrees with its port still agrees with it after both have begun the same frame.
pub frame_sent : (port : PortState) (frame : List ℕ) (sender new : Outgoing) → sender.sending ≡ port.sending → sender.queue ≡ port.queue → sender.largest ≡ (sizes_seen port).largest
    → new ≡ with_progress sender (record (entries_begun sender.queue sender.sending (pieces_of sender.largest frame)) { told = sender.sending.told + 1 }) → new.sending ≡ (port_frame_begun port frame).sending
frame_sent port frame sender new is queue largest after =
    ap (λ (outgoing : Outgoing). outgoing.sending) after
    ∙ ap (λ (sending : Sending). record (entries_begun sender.queue sending (pieces_of sender.largest frame)) { told = sending.told + 1 }) is
    ∙ ap (λ queue. record (entries_begun queue port.sending (pieces_of sender.largest frame)) { told = port.sending.told + 1 }) queue
    ∙ ap (λ largest. record (entries_begun port.queue port.sending (pieces_of largest frame)) { told = port.sending.told + 1 }) largest

-- A link-down entry

-- A port that isn't busy begins a link-down entry, if its pages and room for its four writes are promised.
pub down_begins : (port : PortState) (pair mid new : Bridge) (from : ℕ) → is_port_busy port.sending ≡ false → from ≡ port.sending.begun + length port.sending.waiting
    → mid ≡ with_pages pair (other_side port.side) (pages_of mid (other_side port.side))
    → PagesGrow (TouchesEntry (rings_of port) from 0) (pages_of pair (other_side port.side)) (pages_of mid (other_side port.side))
    → IsEntryPromised (rings_of port) from 0 (pages_of mid (other_side port.side))
    → new ≡ with_room mid port.side 4 → Begins port (down_begun port).sending (GoesDown ∷ []) pair mid new 4
down_begins port pair mid new from idle is_from pages grow promised room =
    let first = from_is port from idle is_from in
    record {
      idle = idle;
      some = omega arith;
      after_is = refl;
      grow = one_grows (rings_of port) port.sending.begun GoesDown _ _ (subst (λ n. PagesGrow (TouchesEntry (rings_of port) n 0) (pages_of pair (other_side port.side)) (pages_of mid (other_side port.side))) first grow);
      promised = one_promised (rings_of port) port.sending.begun GoesDown (pages_of mid (other_side port.side)) (subst (λ n. IsEntryPromised (rings_of port) n 0 (pages_of mid (other_side port.side))) first promised);
      pages = pages;
      room = room;
      count_is = refl;
    }

-- Pages that grow only if a link-down entry touches them grow only if the writes left after its begin do.
pub down_grows : (port : PortState) (old new : List ℕ) (from : ℕ) → is_port_busy port.sending ≡ false → from ≡ port.sending.begun + length port.sending.waiting
    → PagesGrow (TouchesEntry (rings_of port) from 0) old new → PagesGrow (TouchesLeft port.plan port.side (writes_left (down_begun port))) old new
down_grows port old new from idle is_from grow =
    begun_grows (rings_of port) from port.sending.begun (GoesDown ∷ []) (writes_left (down_begun port)) old new (from_is port from idle is_from)
    (lefts_are port (down_begun port).sending (GoesDown ∷ []) (omega arith) refl) (one_grows (rings_of port) from GoesDown old new grow)

-- A sender that agrees with its port still agrees with it after both have begun a link-down entry.
pub down_sent : (port : PortState) (sender new : Outgoing) → sender.sending ≡ port.sending → sender.queue ≡ port.queue
    → new ≡ with_progress sender (entries_begun sender.queue sender.sending (GoesDown ∷ [])) → new.sending ≡ (down_begun port).sending
down_sent port sender new is queue after =
    ap (λ (outgoing : Outgoing). outgoing.sending) after
    ∙ ap (λ (sending : Sending). entries_begun sender.queue sending (GoesDown ∷ [])) is
    ∙ ap (λ queue. entries_begun queue port.sending (GoesDown ∷ [])) queue
