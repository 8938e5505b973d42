-- A write of a ring that a side posts, through a window that the peer has or lacks.
use Rattle.std.proofs.Common.{◌≡◌, ℕ, ◌+◌, ◌-◌, ◌*◌, ◌/◌, ◌%◌, ◌<◌, ◌≤◌, Bool, true, false, List, [], ◌∷◌, ◌++◌, length, min, drop, refl, sym, ap, ◌∙◌, subst, arith}
use Rattle.std.specs.Prelude.{if◌then◌else◌, nat_lt, slice_index_or}
use Rattle.std.proofs.lemmas.Bool.{ltb-true}
use Rattle.std.proofs.lemmas.Bool.Decides.{nat_tests}
use Rattle.std.proofs.lemmas.List.{length-take, length-drop}
use Rattle.step_kinds.specs.Sides.{other_side}
use Rattle.step_kinds.specs.declared.names.Side.{Side}
use Rattle.step_kinds.specs.declared.names.Side.TheVariants.{A, B}
use Rattle.step_kinds.specs.declared.plan.DevPlan.{DevPlan}
use Rattle.step_kinds.specs.declared.plan.PairPlan.{PairPlan}
use Rattle.step_kinds.specs.declared.steps.Label.{Label}
use Rattle.step_kinds.specs.declared.steps.Label.TheVariants.{Chunk, Len, Ver, Flag, Down, Bell, Index, Pad, Raw}
use Rattle.lane_model.specs.Lane.{Entry, GoesDown, bytes_of, chunk_of, chunk_size, chunks_in, done, left_of}
use Rattle.pair_model.specs.DeclaredPlans.{IsPair, SizesFit}
use Rattle.pair_model.specs.Both.{at_side}
use Rattle.pair_model.specs.Link.{is_up}
use Rattle.pair_model.specs.Plans.{side_plan}
use Rattle.pair_model.specs.Sizes.{header_bytes, layout_of, layout_to}
use Rattle.ring_geometry.specs.Geometry.{entries_of, header_of, index_of, max_payload_of, slot_of, window_of}
use Rattle.pair_model.specs.Addresses.{peer_address}
use Rattle.pair_model.specs.Headers.{flags_offset, len_offset, version_bytes, word_bytes}
use Rattle.pair_model.proofs.Facade.{length-word_bytes}
use Rattle.ledger_model.specs.Ledger.{PairPart, side_of, posts, with_side_part}
use Rattle.ledger_model.specs.Reading.{has_window}
use Rattle.plan_numbers.specs.Memories.{memory_size}
use Rattle.bridge_pair.specs.Bridge.{Bridge, flight_of, with_flight}
use Rattle.bridge_pair.specs.Flights.{flying_of}
use Rattle.bridge_pair.specs.Writes.{PostedWrite, bell_write, memory_write}
use Rattle.frame_ring.specs.PortView.{ring_posted, index_posted}
use Rattle.posted_queue.specs.Flight.{given_back, posted}
use Rattle.fabric_rule.specs.InPlace.{HaveRawBytes, IsLabelBegun, IsWriteOf, ArrivalLiesIn}
use Rattle.fabric_rule.specs.StandsFor.{PairStands, fabric_write_of, flying_labelled, raw_bytes, sent_of}
use Rattle.fabric_rule.proofs.Follows.{two_same}
use Rattle.fabric_rule.proofs.OneQueue.{stands_now, Standing, kept}
use Rattle.fabric_rule.proofs.PostSteps.{posts_one}
use Rattle.fabric_rule.proofs.RingPlaces.{RingLies, fields_lie, in_window, lies_of}
use Rattle.fabric_rule.proofs.WhatIsRead.{peer_fits}

-- Places of a ring's writes at the peer

chunk_ends : (part len : ℕ) → part < (len + 128 - 1) / 128 → 128 * part + min 128 (len - 128 * part) ≤ len
chunk_ends part len among = grind arith

length-chunk : (bytes : List ℕ) (part : ℕ) → length (chunk_of bytes part) ≡ min chunk_size (length bytes - chunk_size * part)
length-chunk bytes part = length-take chunk_size (drop (chunk_size * part) bytes) ∙ ap (min chunk_size) (length-drop (chunk_size * part) bytes)

module _ (plan : PairPlan) (side : Side) (queue : ℕ) (declared : IsPair plan) (among : queue < (side_plan plan side).queues) (fits : SizesFit plan)
    (reached : nat_lt (window_of (layout_of plan side queue)) (side_plan plan (other_side side)).windows ≡ true) where
  lies : RingLies (layout_of plan side queue)
  lies = lies_of plan side queue declared among

  -- a stretch of the window lies in the peer's memory
  at_peer : (at len : ℕ) → at + len ≤ (side_plan plan side).size → peer_address plan side (window_of (layout_of plan side queue)) at + len ≤ memory_size plan (other_side side)
  at_peer at len within =
      in_window (window_of (layout_of plan side queue)) (side_plan plan (other_side side)).windows (side_plan plan (other_side side)).cap at len
      (ltb-true (window_of (layout_of plan side queue)) (side_plan plan (other_side side)).windows reached)
      (let small = peer_fits plan fits side in omega (arith, small, within))

  pub index_place : (n : ℕ) → peer_address plan side (window_of (layout_of plan side queue)) (index_of (layout_of plan side queue)) + length (word_bytes n) ≤ memory_size plan (other_side side)
  index_place n = rw (length-word_bytes n) (at_peer (index_of (layout_of plan side queue)) 4 lies.index)

  header_place : (n at : ℕ) (bytes : List ℕ) → at + length bytes ≤ header_bytes plan
      → peer_address plan side (window_of (layout_of plan side queue)) (header_of (layout_of plan side queue) (n % entries_of (layout_of plan side queue)) + at) + length bytes ≤ memory_size plan (other_side side)
  header_place n at bytes within = at_peer (header_of (layout_of plan side queue) (n % entries_of (layout_of plan side queue)) + at) (length bytes) (lies.header n at (length bytes) within)

  pub len_place : (n value : ℕ)
      → peer_address plan side (window_of (layout_of plan side queue)) (header_of (layout_of plan side queue) (n % entries_of (layout_of plan side queue)) + len_offset plan) + length (word_bytes value) ≤ memory_size plan (other_side side)
  len_place n value = header_place n (len_offset plan) (word_bytes value) (let four = length-word_bytes value in let field = (fields_lie plan).len in omega (arith, four, field))

  pub flags_place : (n value : ℕ)
      → peer_address plan side (window_of (layout_of plan side queue)) (header_of (layout_of plan side queue) (n % entries_of (layout_of plan side queue)) + flags_offset plan) + length (word_bytes value) ≤ memory_size plan (other_side side)
  flags_place n value = header_place n (flags_offset plan) (word_bytes value) (let four = length-word_bytes value in let field = (fields_lie plan).flags in omega (arith, four, field))

  pub version_place : (n left : ℕ)
      → peer_address plan side (window_of (layout_of plan side queue)) (header_of (layout_of plan side queue) (n % entries_of (layout_of plan side queue))) + length (version_bytes plan n left) ≤ memory_size plan (other_side side)
  version_place n left =
      let whole = (fields_lie plan).version n left in
      let in_header = header_place n 0 (version_bytes plan n left) (omega (arith, whole)) in
      omega (arith, in_header)

  pub chunk_place : (n part : ℕ) (bytes : List ℕ) → part < chunks_in (length bytes) → length bytes ≤ max_payload_of (layout_of plan side queue)
      → peer_address plan side (window_of (layout_of plan side queue)) (slot_of (layout_of plan side queue) (n % entries_of (layout_of plan side queue)) + chunk_size * part) + length (chunk_of bytes part) ≤ memory_size plan (other_side side)
  chunk_place n part bytes is_part short =
      let ends = chunk_ends part (length bytes) is_part in
      rw (length-chunk bytes part)
      (at_peer (slot_of (layout_of plan side queue) (n % entries_of (layout_of plan side queue)) + chunk_size * part) (min chunk_size (length bytes - chunk_size * part))
      (lies.payload n (chunk_size * part) (min chunk_size (length bytes - chunk_size * part)) (omega (arith, ends, short))))

some_window : (windows : ℕ) → 0 < windows → nat_lt 0 windows ≡ true
some_window windows some = grind (arith, nat_tests)

-- The write goes out

module _ {devs : List DevPlan} {plan : PairPlan} {k : ℕ} (now : Standing devs plan k) where
  abbrev sent_by : Side → ℕ → List Entry
  sent_by side = sent_of (at_side now.site.pair.lanes side)

  abbrev pair_posts : Side → Label → Bool → Bool → PairPart
  pair_posts side label reached up =
      if reached then (if up then with_side_part now.site.pair side (record (side_of now.site.pair side) { flight = (side_of now.site.pair side).flight ++ label ∷ [] }) else now.site.pair) else now.site.pair

  abbrev bridge_posts : Side → PostedWrite → Bool → Bool → Bridge
  bridge_posts side write reached up =
      if reached
      then with_flight (kept now).bridge side (if up then posted (flight_of (kept now).bridge side) (flying_of plan side write) else given_back (flight_of (kept now).bridge side) 1)
      else with_flight (kept now).bridge side (given_back (flight_of (kept now).bridge side) 1)

  abbrev Posts : Side → Label → PostedWrite → Bool → Bool → Type 0
  Posts side label write reached up = PairStands devs plan k (record now.site { pair = pair_posts side label reached up }) (record (kept now) { bridge = bridge_posts side write reached up })

  -- a write that is lost gives its promise back
  lost : (side : Side) → PairStands devs plan k now.site (record (kept now) { bridge = with_flight (kept now).bridge side (given_back (flight_of (kept now).bridge side) 1) })
  lost A = record { bridge = refl; link = now.link; sides = now.sides }
  lost B = record { bridge = refl; link = now.link; sides = now.sides }

  posts_out : (side : Side) (label : Label) (write : PostedWrite) (reached up : Bool) → flying_labelled plan side (sent_by side) (raw_bytes label []) label ≡ flying_of plan side write → IsLabelBegun (sent_by side) label → HaveRawBytes (label ∷ []) []
      → (reached ≡ true → ArrivalLiesIn (memory_size plan (other_side side)) (flying_of plan side write).arrival) → is_up now.site.pair.link.state ≡ up → Posts side label write reached up
  posts_out side label write false up same begun ring place is = lost side
  posts_out side label write true false same begun ring place is = lost side
  posts_out side label write true true same begun ring place is = posts_one (stands_now now) is side label (flying_of plan side write) _ same begun (place refl) ring

  pub index_posts : (side : Side) (queue n : ℕ) → queue < (side_plan plan side).queues → SizesFit plan
      → PairStands devs plan k (record now.site { pair = if has_window plan side (Index queue n) then posts now.site.pair side (Index queue n) else now.site.pair }) (record (kept now) { bridge = index_posted (kept now).bridge side queue n })
  index_posts side queue n among fits =
      posts_out side (Index queue n) (memory_write (Index queue n) (window_of (layout_of plan side queue)) (index_of (layout_of plan side queue)) (word_bytes (n % entries_of (layout_to plan side queue)))) (has_window plan side (Index queue n)) (is_up now.site.pair.link.state) refl tt tt
      (λ reached. index_place plan side queue now.declared among fits reached (n % entries_of (layout_to plan side queue))) refl

  peer_windows : (side : Side) → 0 < (side_plan plan (other_side side)).windows
  peer_windows A = now.declared.side_b.windows.0
  peer_windows B = now.declared.side_a.windows.0

  -- a label of entry n of a queue
  module _ (side : Side) (queue n : ℕ) (entry : Entry) (among : queue < (side_plan plan side).queues) (fits : SizesFit plan) (begun : n < length (sent_by side queue)) (is : entry ≡ slice_index_or (sent_by side queue) n GoesDown)
      (short : length (bytes_of entry) ≤ max_payload_of (layout_of plan side queue)) where
    among_at : (q : ℕ) → q ≡ queue → q < (side_plan plan side).queues
    among_at q on = subst (λ q. q < (side_plan plan side).queues) (sym on) among

    -- its write is the entry's
    field_posts : (label : Label) (q m : ℕ) → q ≡ queue → m ≡ n → flying_labelled plan side (sent_by side) (raw_bytes label []) label ≡ flying_of plan side (fabric_write_of plan side (slice_index_or (sent_by side q) m GoesDown) [] label)
        → (m < length (sent_by side q) → IsLabelBegun (sent_by side) label) → HaveRawBytes (label ∷ []) [] → (has_window plan side label ≡ true → ArrivalLiesIn (memory_size plan (other_side side)) (flying_of plan side (fabric_write_of plan side entry [] label)).arrival)
        → Posts side label (fabric_write_of plan side entry [] label) (has_window plan side label) (is_up now.site.pair.link.state)
    field_posts label q m on at same begun_is ring place =
        posts_out side label (fabric_write_of plan side entry [] label) (has_window plan side label) (is_up now.site.pair.link.state)
        (same ∙ ap (λ entry. flying_of plan side (fabric_write_of plan side entry [] label)) (two_same (λ q m. slice_index_or (sent_by side q) m GoesDown) on at ∙ sym is))
        (begun_is (subst (λ q. m < length (sent_by side q)) (sym on) (subst (λ m. m < length (sent_by side queue)) (sym at) begun))) ring place refl

    pub label_posts : (label : Label) → IsWriteOf queue n entry label
        → PairStands devs plan k (record now.site { pair = if has_window plan side label then posts now.site.pair side label else now.site.pair }) (record (kept now) { bridge = ring_posted (kept now).bridge side entry label })
    label_posts (Chunk q m part) own =
        field_posts (Chunk q m part) q m own.0 own.1 refl (λ begun. begun) tt
        (λ reached. chunk_place plan side q now.declared (among_at q own.0) fits reached m part (bytes_of entry) own.2 (subst (λ q. length (bytes_of entry) ≤ max_payload_of (layout_of plan side q)) (sym own.0) short))
    label_posts (Len q m) own = field_posts (Len q m) q m own.0 own.1 refl (λ begun. begun) tt (λ reached. len_place plan side q now.declared (among_at q own.0) fits reached m (length (bytes_of entry)))
    label_posts (Ver q m) own = field_posts (Ver q m) q m own.0 own.1 refl (λ begun. begun) tt (λ reached. version_place plan side q now.declared (among_at q own.0) fits reached m (left_of entry))
    label_posts (Flag q m) own = field_posts (Flag q m) q m own.0 own.1 refl (λ begun. begun) tt (λ reached. flags_place plan side q now.declared (among_at q own.0) fits reached m done)
    label_posts (Down q m) own = field_posts (Down q m) q m own.0 own.1 refl (λ begun. begun) tt (λ reached. flags_place plan side q now.declared (among_at q own.0) fits reached m (done + 2))
    label_posts (Bell q) own =
        subst (λ reached. PairStands devs plan k (record now.site { pair = if reached then posts now.site.pair side (Bell q) else now.site.pair }) (record (kept now) { bridge = ring_posted (kept now).bridge side entry (Bell q) }))
        (sym (some_window (side_plan plan (other_side side)).windows (peer_windows side))) (posts_out side (Bell q) (bell_write q) true (is_up now.site.pair.link.state) refl tt tt (λ _. tt) refl)
    label_posts (Index q m) own = absurd own
    label_posts (Pad i value) own = absurd own
    label_posts (Raw window offset len) own = absurd own
