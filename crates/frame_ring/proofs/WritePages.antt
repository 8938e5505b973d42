-- The pages that writes need, by those of the entries that they are of.
use Rattle.std.proofs.Common.{◌≡◌, ◌∙◌, ℕ, zero, suc, ◌+◌, ◌-◌, ◌*◌, ◌/◌, ◌<◌, ◌≤◌, ◌==◌, ◌⊎◌, inl, inr, All, Any, Bool, true, false, min, List, [], ◌∷◌, ◌++◌, length, map, drop, get_or, refl, sym, ap, subst, arith, if◌then◌else◌}
use Rattle.std.proofs.lemmas.Bool.{cases_lt}
use Rattle.std.proofs.lemmas.List.{get_or-append-add, get_or-map, get_or_append_left, length-append, length-drop, length-map, length-take}
use Rattle.std.proofs.lemmas.List.Elements.{All-append}
use Rattle.step_kinds.specs.declared.plan.PairPlan.{PairPlan}
use Rattle.step_kinds.specs.declared.steps.Label.{Label}
use Rattle.step_kinds.specs.declared.steps.Label.TheVariants.{Chunk, Len, Ver, Flag, Down}
use Rattle.pair_model.specs.Addresses.{queue_address}
use Rattle.pair_model.specs.Headers.{flags_offset, len_offset, version_bytes, word_bytes}
use Rattle.pair_model.specs.RingWrites.{entry_write, header_offset, queue_write, slot_offset}
use Rattle.host_memory.specs.Memory.{ArePromised}
use Rattle.lane_model.specs.Lane.{Entry, bytes_of, chunk_of, chunk_size, chunks_in, count_from, done, left_of}
use Rattle.pair_model.specs.Labels.{labels_of}
use Rattle.pair_model.specs.Sizes.{agreed_version, header_bytes}
use Rattle.frame_ring.specs.Outgoing.{carries_bytes, entry_at}
use Rattle.frame_ring.specs.Port.{Left, left_of_entry, writes_from}
use Rattle.frame_ring.specs.Promises.{AreEntriesPromised, IsEntryPromised, IsRangePromised, TouchesEntries, TouchesEntry, TouchesRange}
use Rattle.frame_ring.specs.Rings.{QueueOf}
use Rattle.frame_ring.specs.PortView.{IsLeftReady, IsReadyToLand, TouchesLeft, TouchesOf, TouchesWrite}
use Rattle.lane_model.proofs.Facade.{get_or-count_from, length-count_from}
use Rattle.frame_ring.proofs.NextLabel.{chunk_labels, labels_are, last_labels}

-- Lists

all_map : {X Y : Type 0} (P : Y → Type 0) (f : X → Y) (xs : List X) → All (λ x. P (f x)) xs → (k : ℕ) (d : Y) → k < length (map f xs) → P (get_or (map f xs) k d)
all_map P f [] all k d within = absurd (omega (arith, within))
all_map P f (x ∷ xs) all zero d within = all zero x (omega arith)
all_map P f (x ∷ xs) all (suc k) d within = all_map P f xs (λ j e less. all (suc j) e (omega (arith, less))) k d (omega (arith, within))

all_count : (P : ℕ → Type 0) (from more : ℕ) → ((k : ℕ) → k < more → P (from + k)) → All P (count_from from more)
all_count P from more each = λ k d within.
    (let less : k < more = omega (arith, within, length-count_from from more) in
    subst P (sym (get_or-count_from from more k d less)) (each k less))

any_map : {X Y : Type 0} (P : Y → Type 0) (f : X → Y) (xs : List X) → Any (λ x. P (f x)) xs → Any P (map f xs)
any_map P f xs any = (any.0, f any.1, omega (arith, any.2, length-map xs f), get_or-map f xs any.0 any.1 (f any.1) any.2 ∙ ap f any.3, any.4)

any_left : {X : Type 0} (P : X → Type 0) (xs ys : List X) → Any P xs → Any P (xs ++ ys)
any_left P xs ys any = (any.0, any.1, omega (arith, any.2, length-append xs ys), get_or_append_left xs ys any.1 any.0 any.2 ∙ any.3, any.4)

any_right : {X : Type 0} (P : X → Type 0) (xs ys : List X) → Any P ys → Any P (xs ++ ys)
any_right P xs ys any = (length xs + any.0, any.1, omega (arith, any.2, length-append xs ys), get_or-append-add xs ys any.0 any.1 ∙ any.3, any.4)

-- Ranges

part_promised : (at len from size : ℕ) (pages : List ℕ) → at ≤ from → from + size ≤ at + len → ArePromised at len pages → ArePromised from size pages
part_promised at len from size pages low high promised = λ page touch. promised page (touch.0, omega (arith, touch.1, low), omega (arith, touch.2, high), touch.3)

range_part : (rings : QueueOf) (offset len more size : ℕ) (pages : List ℕ) → more + size ≤ len → IsRangePromised rings offset len pages → IsRangePromised rings (offset + more) size pages
range_part rings offset len more size pages within promised =
    λ reach. part_promised (queue_address rings.plan rings.side rings.queue offset) len (queue_address rings.plan rings.side rings.queue (offset + more)) size pages (omega arith) (omega (arith, within)) (promised reach)

-- the bytes of an address are among those of the range, at this place or after it
range_from : (rings : QueueOf) (offset len more size page : ℕ) (touch : TouchesRange rings offset len page)
    → queue_address rings.plan rings.side rings.queue offset + more ≤ touch.1.0 → touch.1.0 < queue_address rings.plan rings.side rings.queue offset + (more + size)
    → TouchesRange rings (offset + more) size page
range_from rings offset len more size page touch low high = (touch.0, (touch.1.0, omega (arith, low), omega (arith, high), touch.1.3))

-- Headers: version and what goes with it, then the length, then the flags, with nothing between

record Fields (plan : PairPlan) (n left : ℕ) : Type 0 where
  version : length (version_bytes plan n left) ≡ len_offset plan
  len : len_offset plan + 4 ≡ flags_offset plan
  flags : flags_offset plan + 4 ≡ header_bytes plan

fields : (plan : PairPlan) (n left : ℕ) → Fields plan n left
fields plan n left = by_version (agreed_version plan == 5) refl where
  by_version : (five : Bool) → (agreed_version plan == 5) ≡ five → Fields plan n left
  by_version true is = record { version = rw is refl; len = rw is refl; flags = rw is refl }
  by_version false is = record { version = rw is refl; len = rw is refl; flags = rw is refl }

length-chunk : (bytes : List ℕ) (part : ℕ) → length (chunk_of bytes part) ≡ min 128 (length bytes - 128 * part)
length-chunk bytes part = length-take chunk_size (drop (chunk_size * part) bytes) ∙ ap (min 128) (length-drop (chunk_size * part) bytes)

-- Of an entry

abbrev Ready : QueueOf → List ℕ → Entry → Label → Type 0
Ready rings pages entry label = IsLeftReady rings.plan rings.side pages (record { entry = entry; label = label })

chunk_ready : (rings : QueueOf) (n part : ℕ) (entry : Entry) (pages : List ℕ) → part < chunks_in (length (bytes_of entry)) → IsEntryPromised rings n (length (bytes_of entry)) pages
    → Ready rings pages entry (Chunk rings.queue n part)
chunk_ready rings n part entry pages among promised =
    range_part rings (slot_offset rings.plan rings.side rings.queue n) (length (bytes_of entry)) (chunk_size * part) (length (chunk_of (bytes_of entry) part)) pages
    (omega (arith, length-chunk (bytes_of entry) part, among)) promised.payload

word_ready : (rings : QueueOf) (n more value : ℕ) (pages : List ℕ) → more + 4 ≤ header_bytes rings.plan → IsRangePromised rings (header_offset rings.plan rings.side rings.queue n) (header_bytes rings.plan) pages
    → IsReadyToLand rings.plan rings.side pages (queue_write rings.plan rings.side rings.queue (header_offset rings.plan rings.side rings.queue n + more) (word_bytes value))
word_ready rings n more value pages within promised = range_part rings (header_offset rings.plan rings.side rings.queue n) (header_bytes rings.plan) more 4 pages within promised

version_ready : (rings : QueueOf) (n left : ℕ) (pages : List ℕ) → IsRangePromised rings (header_offset rings.plan rings.side rings.queue n) (header_bytes rings.plan) pages
    → IsReadyToLand rings.plan rings.side pages (queue_write rings.plan rings.side rings.queue (header_offset rings.plan rings.side rings.queue n) (version_bytes rings.plan n left))
version_ready rings n left pages promised =
    λ reach. part_promised (queue_address rings.plan rings.side rings.queue (header_offset rings.plan rings.side rings.queue n)) (header_bytes rings.plan)
    (queue_address rings.plan rings.side rings.queue (header_offset rings.plan rings.side rings.queue n)) (length (version_bytes rings.plan n left)) pages
    (omega arith) (omega (arith, fields rings.plan n left)) (promised reach)

flags_ready : (rings : QueueOf) (n : ℕ) (entry : Entry) (carries : Bool) (pages : List ℕ) → IsEntryPromised rings n (length (bytes_of entry)) pages
    → Ready rings pages entry (if carries then Flag rings.queue n else Down rings.queue n)
flags_ready rings n entry true pages promised = word_ready rings n (flags_offset rings.plan) done pages (omega (arith, fields rings.plan n (left_of entry))) promised.header
flags_ready rings n entry false pages promised = word_ready rings n (flags_offset rings.plan) (done + 2) pages (omega (arith, fields rings.plan n (left_of entry))) promised.header

last_ready : (rings : QueueOf) (n : ℕ) (entry : Entry) (carries : Bool) (pages : List ℕ) → IsEntryPromised rings n (length (bytes_of entry)) pages
    → (k : ℕ) (d : Label) → k < length (last_labels rings.queue n carries) → Ready rings pages entry (get_or (last_labels rings.queue n carries) k d)
last_ready rings n entry carries pages promised zero d within = word_ready rings n (len_offset rings.plan) (length (bytes_of entry)) pages (omega (arith, fields rings.plan n (left_of entry))) promised.header
last_ready rings n entry carries pages promised (suc zero) d within = version_ready rings n (left_of entry) pages promised.header
last_ready rings n entry carries pages promised (suc (suc zero)) d within = flags_ready rings n entry carries pages promised
last_ready rings n entry carries pages promised (suc (suc (suc zero))) d within = tt
last_ready rings n entry carries pages promised (suc (suc (suc (suc k)))) d within = absurd (omega (arith, within))

-- If an entry's payload and header are promised at the peer, each of its writes is ready to land there.
pub entry_ready : (rings : QueueOf) (n : ℕ) (entry : Entry) (pages : List ℕ) → IsEntryPromised rings n (length (bytes_of entry)) pages
    → All (IsLeftReady rings.plan rings.side pages) (left_of_entry entry (labels_of rings.queue n entry))
entry_ready rings n entry pages promised =
    let chunks = chunks_in (length (bytes_of entry)) in
    all_map (IsLeftReady rings.plan rings.side pages) (λ label. record { entry = entry; label = label }) (labels_of rings.queue n entry)
    (subst (All (Ready rings pages entry)) (sym (labels_are rings.queue n entry))
    (All-append (Ready rings pages entry) (chunk_labels rings.queue n chunks) (last_labels rings.queue n (carries_bytes entry))
    (all_map (Ready rings pages entry) (λ part. Chunk rings.queue n part) (count_from 0 chunks)
    (all_count (λ part. Ready rings pages entry (Chunk rings.queue n part)) 0 chunks
    (λ part less. subst (λ part. Ready rings pages entry (Chunk rings.queue n part)) (from_zero part) (chunk_ready rings n part entry pages less promised))))
    (last_ready rings n entry (carries_bytes entry) pages promised)))
  where
    from_zero : (part : ℕ) → part ≡ 0 + part
    from_zero part = omega arith

-- what the entries of a frame need is there for each of their writes
pub writes_ready : (rings : QueueOf) (from : ℕ) (entries : List Entry) (pages : List ℕ) → AreEntriesPromised rings from entries pages → All (IsLeftReady rings.plan rings.side pages) (writes_from rings.queue from entries)
writes_ready rings from [] pages promised = λ k d within. absurd (omega (arith, within))
writes_ready rings from (entry ∷ entries) pages promised =
    All-append (IsLeftReady rings.plan rings.side pages) (left_of_entry entry (labels_of rings.queue from entry)) (writes_from rings.queue (suc from) entries)
    (entry_ready rings from entry pages (subst (λ n. IsEntryPromised rings n (length (bytes_of entry)) pages) (at_first from) (promised 0 (omega arith))))
    (writes_ready rings (suc from) entries pages
    (λ k among. subst (λ n. IsEntryPromised rings n (length (bytes_of (entry_at entries k))) pages) (at_next from k) (promised (suc k) (omega (arith, among)))))
  where
    at_first : (from : ℕ) → from + 0 ≡ from
    at_first from = omega arith

    at_next : (from k : ℕ) → from + suc k ≡ suc from + k
    at_next from k = omega arith

-- What is touched

abbrev LabelTouches : QueueOf → ℕ → Entry → Label → Type 0
LabelTouches rings page entry label = TouchesOf rings.plan rings.side page (entry_write rings.plan rings.side entry label)

abbrev WriteTouches : QueueOf → ℕ → ℕ → List ℕ → Type 0
WriteTouches rings page offset bytes = TouchesWrite rings.plan rings.side (queue_write rings.plan rings.side rings.queue offset bytes) page

payload_touched : (rings : QueueOf) (n page : ℕ) (entry : Entry) → TouchesRange rings (slot_offset rings.plan rings.side rings.queue n) (length (bytes_of entry)) page
    → (part : ℕ) × (part < chunks_in (length (bytes_of entry))) × WriteTouches rings page (slot_offset rings.plan rings.side rings.queue n + chunk_size * part) (chunk_of (bytes_of entry) part)
payload_touched rings n page entry touch =
    let start = queue_address rings.plan rings.side rings.queue (slot_offset rings.plan rings.side rings.queue n) in
    let len = length (bytes_of entry) in
    let offset = touch.1.0 - start in
    let part = offset / 128 in
    let low : 128 * part ≤ offset = omega arith in
    let high : offset < 128 * part + 128 = omega arith in
    let inside : offset < len = omega (arith, touch.1.1, touch.1.2) in
    let size = length (chunk_of (bytes_of entry) part) in (
      part,
      omega (arith, inside, low),
      range_from rings (slot_offset rings.plan rings.side rings.queue n) len (chunk_size * part) size page touch (omega (arith, low, touch.1.1)) (omega (arith, high, inside, length-chunk (bytes_of entry) part, touch.1.1)),
    )

header_touched : (rings : QueueOf) (n page left : ℕ) (words flags : ℕ) → TouchesRange rings (header_offset rings.plan rings.side rings.queue n) (header_bytes rings.plan) page
    → WriteTouches rings page (header_offset rings.plan rings.side rings.queue n + len_offset rings.plan) (word_bytes words)
    ⊎ WriteTouches rings page (header_offset rings.plan rings.side rings.queue n) (version_bytes rings.plan n left)
    ⊎ WriteTouches rings page (header_offset rings.plan rings.side rings.queue n + flags_offset rings.plan) (word_bytes flags)
header_touched rings n page left words flags touch =
    let start = queue_address rings.plan rings.side rings.queue (header_offset rings.plan rings.side rings.queue n) in
    let f = fields rings.plan n left in
    elim (cases_lt touch.1.0 (start + len_offset rings.plan)) [
      | inl early ↦ inr (inl (touch.0, (touch.1.0, touch.1.1, omega (arith, early, f.version), touch.1.3)))
      | inr late ↦ elim (cases_lt touch.1.0 (start + flags_offset rings.plan)) [
        | inl early ↦ inl (range_from rings (header_offset rings.plan rings.side rings.queue n) (header_bytes rings.plan) (len_offset rings.plan) 4 page touch (omega (arith, late)) (omega (arith, early, f.len)))
        | inr last ↦ inr (inr (range_from rings (header_offset rings.plan rings.side rings.queue n) (header_bytes rings.plan) (flags_offset rings.plan) 4 page touch (omega (arith, last)) (omega (arith, touch.1.2, f.flags))))
      ]
    ]

payload_label : (rings : QueueOf) (n page : ℕ) (entry : Entry) → TouchesRange rings (slot_offset rings.plan rings.side rings.queue n) (length (bytes_of entry)) page
    → Any (LabelTouches rings page entry) (chunk_labels rings.queue n (chunks_in (length (bytes_of entry))))
payload_label rings n page entry touch =
    let chunks = chunks_in (length (bytes_of entry)) in
    let found = payload_touched rings n page entry touch in
    any_map (LabelTouches rings page entry) (λ part. Chunk rings.queue n part) (count_from 0 chunks)
    (found.0, found.0, omega (arith, found.1, length-count_from 0 chunks), get_or-count_from 0 chunks found.0 found.0 found.1 ∙ omega arith, found.2)

header_label : (rings : QueueOf) (n page : ℕ) (entry : Entry) (carries : Bool) → TouchesRange rings (header_offset rings.plan rings.side rings.queue n) (header_bytes rings.plan) page
    → Any (LabelTouches rings page entry) (last_labels rings.queue n carries)
header_label rings n page entry true touch = elim (header_touched rings n page (left_of entry) (length (bytes_of entry)) done touch) [
  | inl len ↦ (0, Len rings.queue n, omega arith, refl, len)
  | inr more ↦ elim more [ inl version ↦ (1, Ver rings.queue n, omega arith, refl, version) | inr flags ↦ (2, Flag rings.queue n, omega arith, refl, flags) ]
]
header_label rings n page entry false touch = elim (header_touched rings n page (left_of entry) (length (bytes_of entry)) (done + 2) touch) [
  | inl len ↦ (0, Len rings.queue n, omega arith, refl, len)
  | inr more ↦ elim more [ inl version ↦ (1, Ver rings.queue n, omega arith, refl, version) | inr flags ↦ (2, Down rings.queue n, omega arith, refl, flags) ]
]

entry_touched : (rings : QueueOf) (n page : ℕ) (entry : Entry) → TouchesEntry rings n (length (bytes_of entry)) page → TouchesLeft rings.plan rings.side (left_of_entry entry (labels_of rings.queue n entry)) page
entry_touched rings n page entry touch =
    let chunks = chunk_labels rings.queue n (chunks_in (length (bytes_of entry))) in
    let last = last_labels rings.queue n (carries_bytes entry) in
    let here : Any (LabelTouches rings page entry) (chunks ++ last) = elim touch [
      | inl payload ↦ any_left (LabelTouches rings page entry) chunks last (payload_label rings n page entry payload)
      | inr header ↦ any_right (LabelTouches rings page entry) chunks last (header_label rings n page entry (carries_bytes entry) header)
    ] in
    any_map (λ (left : Left). TouchesOf rings.plan rings.side page (entry_write rings.plan rings.side left.entry left.label)) (λ label. record { entry = entry; label = label }) (labels_of rings.queue n entry)
    (subst (Any (LabelTouches rings page entry)) (sym (labels_are rings.queue n entry)) here)

touched_at : (rings : QueueOf) (from page : ℕ) (entries : List Entry) (k : ℕ) → k < length entries → TouchesEntry rings (from + k) (length (bytes_of (entry_at entries k))) page
    → TouchesLeft rings.plan rings.side (writes_from rings.queue from entries) page
touched_at rings from page [] k among touch = absurd (omega (arith, among))
touched_at rings from page (entry ∷ entries) zero among touch =
    let n : from + 0 ≡ from = omega arith in
    any_left (λ (left : Left). TouchesOf rings.plan rings.side page (entry_write rings.plan rings.side left.entry left.label)) (left_of_entry entry (labels_of rings.queue from entry)) (writes_from rings.queue (suc from) entries)
    (entry_touched rings from page entry (subst (λ n. TouchesEntry rings n (length (bytes_of entry)) page) n touch))
touched_at rings from page (entry ∷ entries) (suc k) among touch =
    let n : from + suc k ≡ suc from + k = omega arith in
    any_right (λ (left : Left). TouchesOf rings.plan rings.side page (entry_write rings.plan rings.side left.entry left.label)) (left_of_entry entry (labels_of rings.queue from entry)) (writes_from rings.queue (suc from) entries)
    (touched_at rings (suc from) page entries k (omega (arith, among)) (subst (λ n. TouchesEntry rings n (length (bytes_of (entry_at entries k))) page) n touch))

-- what the entries of a frame touch one of their writes touches
pub writes_touched : (rings : QueueOf) (from page : ℕ) (entries : List Entry) → TouchesEntries rings from entries page → TouchesLeft rings.plan rings.side (writes_from rings.queue from entries) page
writes_touched rings from page entries touch = touched_at rings from page entries touch.0 touch.1 touch.2
