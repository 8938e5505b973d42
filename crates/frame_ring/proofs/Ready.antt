-- The pages that a port was promised stay promised through its calls.
use Rattle.std.proofs.Common.{◌≡◌, ℕ, suc, ◌+◌, ◌-◌, ◌||◌, Bool, true, false, not, All, Some, None, List, [], ◌∷◌, ◌++◌, refl, sym, ap, subst, arith, if◌then◌else◌}
use Rattle.step_kinds.specs.declared.names.Side.{Side}
use Rattle.step_kinds.specs.declared.names.Side.TheVariants.{A, B}
use Rattle.step_kinds.specs.declared.steps.Label.{Label}
use Rattle.step_kinds.specs.declared.steps.Label.TheVariants.{Chunk, Len, Ver, Flag, Down, Bell, Index, Pad, Raw}
use Rattle.pair_model.specs.Addresses.{own_header}
use Rattle.pair_model.specs.Headers.{flags_offset}
use Rattle.pair_model.specs.RingWrites.{WindowWrite, index_write}
use Rattle.host_memory.specs.Memory.{ArePromised}
use Rattle.lane_model.specs.Lane.{Entry, GoesDown}
use Rattle.lane_model.specs.Tests.{is_cleared, is_copied, is_copying, is_empty_list, is_idle}
use Rattle.lane_model.specs.declared.Phase.{Phase}
use Rattle.lane_model.specs.declared.Phase.TheVariants.{Idle, Copying, Copied, Cleared}
use Rattle.pair_model.specs.Labels.{labels_of}
use Rattle.bridge_pair.specs.Bridge.{Bridge, pages_of, with_bytes}
use Rattle.frame_ring.specs.Calls.{port_after_post, first_label, first_posted, let_go, more_entries, more_parts, port_next_begun, part_copied, posted_by, rest_of}
use Rattle.frame_ring.specs.Port.{Left, PortState, Receiving, Sending, is_port_busy, left_of_entry, with_receiving, writes_from}
use Rattle.frame_ring.specs.PortView.{HasPortPages, HasPagesIn, IsLeftReady, IsReadyToLand, entry_at_hand, reaches, ring_posted, window_posted}

-- a port has its pages however it is seen
pub pages_seen : (port seen : PortState) (pair : Bridge) → port ≡ seen → HasPagesIn seen pair → HasPagesIn port pair
pages_seen port seen pair is ready = subst (λ (port : PortState). HasPagesIn port pair) (sym is) ready

-- Receiving

again : (port : PortState) (receiving : Receiving) (own peer : List ℕ) → HasPortPages port own peer
    → (is_idle receiving.phase ≡ false → (is_idle port.receiving.phase ≡ false) × (entry_at_hand (with_receiving port receiving) ≡ entry_at_hand port))
    → HasPortPages (with_receiving port receiving) own peer
again port receiving own peer ready same =
    record {
      writes = ready.writes;
      flags = λ busy. (let h = same busy in subst (λ n. ArePromised (own_header port.plan port.side port.queue n + flags_offset port.plan) 4 own) (sym h.1) (ready.flags h.0));
      index_word = λ busy. (let h = same busy in subst (λ n. IsReadyToLand port.plan port.side peer (index_write port.plan port.side port.queue n)) (sym h.1) (ready.index_word h.0));
    }

-- of the phases and numbers alone
hand : Phase → ℕ → ℕ
hand phase got = if is_copying phase then got else got - 1

SameEntry : Phase → ℕ → Phase → ℕ → Type 0
SameEntry phase got next more = is_idle next ≡ false → (is_idle phase ≡ false) × (hand next more ≡ hand phase got)

to_cleared : (phase : Phase) (got : ℕ) → is_copied phase ≡ true → SameEntry phase got Cleared got
unfolding hand SameEntry
to_cleared Idle got is = absurd (cc is)
to_cleared Copying got is = absurd (cc is)
to_cleared Copied got is = λ busy. (refl, refl)
to_cleared Cleared got is = absurd (cc is)

to_part : (phase : Phase) (got : ℕ) → is_copying phase ≡ true → SameEntry phase got phase got
unfolding hand SameEntry
to_part phase got is = λ busy. (busy, refl)

to_copied : (phase : Phase) (got : ℕ) → is_copying phase ≡ true → SameEntry phase got Copied (got + 1)
unfolding hand SameEntry
to_copied Idle got is = absurd (cc is)
to_copied Copying got is = λ busy. (refl, omega arith)
to_copied Copied got is = absurd (cc is)
to_copied Cleared got is = absurd (cc is)

-- A port keeps its promised pages as it clears the entry that it has copied.
pub cleared_ready : (port : PortState) (own peer : List ℕ) → is_copied port.receiving.phase ≡ true → HasPortPages port own peer → HasPortPages (with_receiving port (record port.receiving { phase = Cleared })) own peer
unfolding hand SameEntry
cleared_ready port own peer is ready = again port (record port.receiving { phase = Cleared }) own peer ready (to_cleared port.receiving.phase port.receiving.got is)

-- A port keeps its promised pages as it copies the next part of an entry.
pub copied_ready : (port : PortState) (gathered : List ℕ) (own peer : List ℕ) → is_copying port.receiving.phase ≡ true → HasPortPages port own peer → HasPortPages (with_receiving port (part_copied port.receiving gathered)) own peer
unfolding hand SameEntry
copied_ready port gathered own peer is ready = at_tests (more_parts port.receiving) (more_entries port.receiving) where
  at_tests : (parts entries : Bool) →
      HasPortPages (with_receiving port
      (if parts then record port.receiving { part = port.receiving.part + 1; gathered = gathered }
      else if entries then record port.receiving { got = port.receiving.got + 1; phase = Copied; gathered = gathered }
      else record port.receiving { got = port.receiving.got + 1; phase = Copied; gathered = []; done = port.receiving.done + 1 })) own peer
  at_tests true entries = again port (record port.receiving { part = port.receiving.part + 1; gathered = gathered }) own peer ready (to_part port.receiving.phase port.receiving.got is)
  at_tests false true = again port (record port.receiving { got = port.receiving.got + 1; phase = Copied; gathered = gathered }) own peer ready (to_copied port.receiving.phase port.receiving.got is)
  at_tests false false =
      again port (record port.receiving { got = port.receiving.got + 1; phase = Copied; gathered = []; done = port.receiving.done + 1 }) own peer ready (to_copied port.receiving.phase port.receiving.got is)

-- A port that has copied an entry has the pages promised of that entry's flags in its own memory.
pub copied_flags : (port : PortState) (own peer : List ℕ) → is_copied port.receiving.phase ≡ true → HasPortPages port own peer
    → ArePromised (own_header port.plan port.side port.queue (port.receiving.got - 1) + flags_offset port.plan) 4 own
copied_flags port own peer is ready = at_phase port.receiving.phase is ready.flags where
  at_phase : (phase : Phase) → is_copied phase ≡ true
      → (is_idle phase ≡ false → ArePromised (own_header port.plan port.side port.queue (if is_copying phase then port.receiving.got else port.receiving.got - 1) + flags_offset port.plan) 4 own)
      → ArePromised (own_header port.plan port.side port.queue (port.receiving.got - 1) + flags_offset port.plan) 4 own
  at_phase Idle e flags = absurd (cc e)
  at_phase Copying e flags = absurd (cc e)
  at_phase Copied e flags = flags refl
  at_phase Cleared e flags = absurd (cc e)

-- A port that has cleared an entry has the pages promised that the entry's index write fills at the peer.
pub cleared_index_word : (port : PortState) (own peer : List ℕ) → is_cleared port.receiving.phase ≡ true → HasPortPages port own peer
    → IsReadyToLand port.plan port.side peer (index_write port.plan port.side port.queue (port.receiving.got - 1))
cleared_index_word port own peer is ready = at_phase port.receiving.phase is ready.index_word where
  at_phase : (phase : Phase) → is_cleared phase ≡ true
      → (is_idle phase ≡ false → IsReadyToLand port.plan port.side peer (index_write port.plan port.side port.queue (if is_copying phase then port.receiving.got else port.receiving.got - 1)))
      → IsReadyToLand port.plan port.side peer (index_write port.plan port.side port.queue (port.receiving.got - 1))
  at_phase Idle e word = absurd (cc e)
  at_phase Copying e word = absurd (cc e)
  at_phase Copied e word = absurd (cc e)
  at_phase Cleared e word = word refl

-- Pages of a pair

-- Setting the bytes of a side's memory leaves the promised pages of both sides as they were.
pub pages_with_bytes : (bridge : Bridge) (side any : Side) (bytes : List ℕ) → pages_of (with_bytes bridge side bytes) any ≡ pages_of bridge any
pages_with_bytes bridge A A bytes = refl
pages_with_bytes bridge A B bytes = refl
pages_with_bytes bridge B A bytes = refl
pages_with_bytes bridge B B bytes = refl

either : (any : Side) (there : Bool) (one other : Bridge) (pages : List ℕ) → pages_of one any ≡ pages → pages_of other any ≡ pages → pages_of (if there then one else other) any ≡ pages
either any true one other pages e f = e
either any false one other pages e f = f

pages_of_window : (bridge : Bridge) (side any : Side) (label : Label) (write : WindowWrite) → pages_of (window_posted bridge side label write) any ≡ pages_of bridge any
pages_of_window bridge side any label write = either any (reaches bridge.plan side write.window) _ _ (pages_of bridge any) refl refl

pages_of_write : (bridge : Bridge) (side any : Side) (entry : Entry) (label : Label) → pages_of (ring_posted bridge side entry label) any ≡ pages_of bridge any
pages_of_write bridge side any entry (Chunk q n part) = pages_of_window bridge side any _ _
pages_of_write bridge side any entry (Len q n) = pages_of_window bridge side any _ _
pages_of_write bridge side any entry (Ver q n) = pages_of_window bridge side any _ _
pages_of_write bridge side any entry (Flag q n) = pages_of_window bridge side any _ _
pages_of_write bridge side any entry (Down q n) = pages_of_window bridge side any _ _
pages_of_write bridge side any entry (Bell q) = refl
pages_of_write bridge side any entry (Index q n) = refl
pages_of_write bridge side any entry (Pad i value) = refl
pages_of_write bridge side any entry (Raw window offset len) = refl

pages_of_first : (bridge : Bridge) (side any : Side) (entry : Entry) (todo : List Label) → pages_of (first_posted bridge side entry todo) any ≡ pages_of bridge any
pages_of_first bridge side any entry [] = refl
pages_of_first bridge side any entry (label ∷ todo) = pages_of_write bridge side any entry label

-- A post by a port leaves the promised pages of both sides as they were.
pub pages_posted : (port : PortState) (bridge : Bridge) (any : Side) → pages_of (posted_by port bridge) any ≡ pages_of bridge any
pages_posted port bridge any = pages_of_first bridge port.side any (port_next_begun port.queue port.sending).entry (port_next_begun port.queue port.sending).todo

-- Sending

abbrev pub lefts : ℕ → Sending → List Left
lefts queue sending = left_of_entry sending.entry sending.todo ++ writes_from queue sending.begun sending.waiting

next_by : (queue begun told : ℕ) (entry : Entry) (todo : List Label) (waiting : List Entry)
    → lefts queue (port_next_begun queue (record { begun = begun; told = told; entry = entry; todo = todo; waiting = waiting })) ≡ lefts queue (record { begun = begun; told = told; entry = entry; todo = todo; waiting = waiting })
next_by queue begun told entry [] [] = refl
next_by queue begun told entry [] (first ∷ others) =
    let e : begun + 1 ≡ suc begun = omega arith in
    ap (λ n. left_of_entry first (labels_of queue begun first) ++ writes_from queue n others) e
next_by queue begun told entry (label ∷ todo) waiting = refl

-- what is left stays as the next entry is begun
pub next_keeps : (queue : ℕ) (sending : Sending) → lefts queue (port_next_begun queue sending) ≡ lefts queue sending
next_keeps queue sending = next_by queue sending.begun sending.told sending.entry sending.todo sending.waiting

-- the rest of it stays ready as the first of it is posted
rest_by : (P : Left → Type 0) (queue begun told : ℕ) (entry : Entry) (todo : List Label) (waiting : List Entry)
    → All P (lefts queue (record { begun = begun; told = told; entry = entry; todo = todo; waiting = waiting }))
    → All P (lefts queue (record { begun = begun; told = told; entry = entry; todo = rest_of todo; waiting = waiting }))
rest_by P queue begun told entry [] waiting all = all
rest_by P queue begun told entry (label ∷ todo) waiting all = λ k d within. all (suc k) d (omega (arith, within))

let_go_by : (P : Left → Type 0) (queue : ℕ) (sending : Sending) (busy : Bool) → is_port_busy sending ≡ busy → All P (lefts queue sending)
    → All P (lefts queue (if busy then sending else record sending { entry = GoesDown }))
let_go_by P queue sending true is all = all
let_go_by P queue sending false is all = none sending.todo sending.waiting is where
  none : (todo : List Label) (waiting : List Entry) → (not (is_empty_list todo) || not (is_empty_list waiting)) ≡ false → All P (left_of_entry GoesDown todo ++ writes_from queue sending.begun waiting)
  none [] [] e = λ k d within. absurd (omega (arith, within))
  none [] (x ∷ xs) e = absurd (cc e)
  none (x ∷ xs) [] e = absurd (cc e)
  none (x ∷ xs) (y ∷ ys) e = absurd (cc e)

-- What holds of all writes left to post holds of those that are left after the next one is posted.
pub posted_ready : (P : Left → Type 0) (queue : ℕ) (sending : Sending)
    → All P (left_of_entry sending.entry sending.todo ++ writes_from queue sending.begun sending.waiting)
    → (let next = port_next_begun queue sending in
    let after = let_go (record next { todo = rest_of next.todo }) in
    All P (left_of_entry after.entry after.todo ++ writes_from queue after.begun after.waiting))
posted_ready P queue sending all =
    let next = port_next_begun queue sending in
    let still = subst (All P) (sym (next_keeps queue sending)) all in
    let rest = rest_by P queue next.begun next.told next.entry next.todo next.waiting still in
    let_go_by P queue (record next { todo = rest_of next.todo }) (is_port_busy (record next { todo = rest_of next.todo })) refl rest

-- What holds of all writes left to post holds of the one that is posted next.
pub first_ready : (P : Left → Type 0) (queue : ℕ) (sending : Sending) (label : Label) → Some label ≡ first_label (port_next_begun queue sending).todo
    → All P (left_of_entry sending.entry sending.todo ++ writes_from queue sending.begun sending.waiting) → P (record { entry = (port_next_begun queue sending).entry; label = label })
first_ready P queue sending label is all = at_todo (port_next_begun queue sending).begun (port_next_begun queue sending).entry (port_next_begun queue sending).todo (port_next_begun queue sending).waiting is (subst (All P) (sym (next_keeps queue sending)) all) where
  at_todo : (begun : ℕ) (entry : Entry) (todo : List Label) (waiting : List Entry) → Some label ≡ first_label todo → All P (left_of_entry entry todo ++ writes_from queue begun waiting) → P (record { entry = entry; label = label })
  at_todo begun entry [] waiting e all = absurd (cc e)
  at_todo begun entry (first ∷ todo) waiting e all =
      let same : first ≡ label = cc in
      subst (λ (label : Label). P (record { entry = entry; label = label })) same (all 0 (record { entry = entry; label = label }) (omega arith))

-- A port whose pages are promised has them promised after it posts its next write too.
pub post_ready : (port : PortState) (own peer : List ℕ) → HasPortPages port own peer → HasPortPages (port_after_post port) own peer
post_ready port own peer ready =
    record {
      writes = posted_ready (IsLeftReady port.plan port.side peer) port.queue port.sending ready.writes;
      flags = ready.flags;
      index_word = ready.index_word;
    }

-- If labels are left to post, the write of the first of them is what goes out.
pub first_posted_is : (bridge : Bridge) (side : Side) (entry : Entry) (todo : List Label) (label : Label) → Some label ≡ first_label todo → first_posted bridge side entry todo ≡ ring_posted bridge side entry label
first_posted_is bridge side entry [] label e = absurd (cc e)
first_posted_is bridge side entry (first ∷ todo) label e = let same : first ≡ label = cc in ap (ring_posted bridge side entry) same

-- If no label is left to post, nothing goes out, and the bridge is as it was.
pub none_posted_is : (bridge : Bridge) (side : Side) (entry : Entry) (todo : List Label) → None ≡ first_label todo → first_posted bridge side entry todo ≡ bridge
none_posted_is bridge side entry [] e = refl
none_posted_is bridge side entry (first ∷ todo) e = absurd (cc e)
