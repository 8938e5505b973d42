-- The label of the next write of an entry, by its number.
use Rattle.std.proofs.Common.{◌≡◌, ◌∙◌, ℕ, zero, suc, ◌+◌, ◌-◌, ◌<◌, ◌⊎◌, inl, inr, Bool, Some, None, List, [], ◌∷◌, ◌++◌, length, map, drop, refl, sym, ap, arith, append_assoc, if◌then◌else◌}
use Rattle.std.proofs.lemmas.Bool.{cases_lt}
use Rattle.std.proofs.lemmas.Bool.Decides.{nat_tests}
use Rattle.std.proofs.lemmas.List.{drop-append-le, drop_all, drop_more, get_or-map, length-map, map-append}
use Rattle.lane_model.specs.Lane.{Entry, Carries, GoesDown, bytes_of, chunks_in, count_from}
use Rattle.lane_model.specs.declared.Field.TheVariants.{Chunk as PayloadChunk, Length, Version}
use Rattle.lane_model.specs.declared.Write.TheVariants.{Data, Flag as EntryFlag, Bell as QueueBell}
use Rattle.pair_model.specs.Labels.{label_of, labels_of}
use Rattle.step_kinds.specs.declared.steps.Label.{Label}
use Rattle.step_kinds.specs.declared.steps.Label.TheVariants.{Chunk, Len, Ver, Flag, Down, Bell}
use Rattle.frame_ring.specs.Calls.{first_label}
use Rattle.frame_ring.specs.Outgoing.{carries_bytes, label_by}
use Rattle.lane_model.proofs.Facade.{get_or-count_from, length-count_from}

abbrev pub chunk_labels : ℕ → ℕ → ℕ → List Label
chunk_labels queue n chunks = map (λ part. Chunk queue n part) (count_from 0 chunks)

abbrev pub last_labels : ℕ → ℕ → Bool → List Label
last_labels queue n carries = Len queue n ∷ Ver queue n ∷ (if carries then Flag queue n else Down queue n) ∷ Bell queue ∷ []

each_chunk : (queue n : ℕ) (entry : Entry) (from more : ℕ) → map (label_of queue entry) (map (λ part. Data n (PayloadChunk part)) (count_from from more)) ≡ map (λ part. Chunk queue n part) (count_from from more)
each_chunk queue n entry from zero = refl
each_chunk queue n entry from (suc more) = ap (λ labels. Chunk queue n from ∷ labels) (each_chunk queue n entry (suc from) more)

each_last : (queue n : ℕ) (entry : Entry) → map (label_of queue entry) (Data n Length ∷ Data n Version ∷ []) ++ map (label_of queue entry) (EntryFlag n ∷ QueueBell ∷ []) ≡ last_labels queue n (carries_bytes entry)
each_last queue n (Carries bytes left) = refl
each_last queue n GoesDown = refl

-- The labels of an entry are those of its chunks, and then of its length, version, flags and doorbell.
pub labels_are : (queue n : ℕ) (entry : Entry) → labels_of queue n entry ≡ chunk_labels queue n (chunks_in (length (bytes_of entry))) ++ last_labels queue n (carries_bytes entry)
labels_are queue n entry =
    let chunks = map (λ part. Data n (PayloadChunk part)) (count_from 0 (chunks_in (length (bytes_of entry)))) in
    let fields = Data n Length ∷ Data n Version ∷ [] in
    let last = EntryFlag n ∷ QueueBell ∷ [] in
    map-append (label_of queue entry) (chunks ++ fields) last
    ∙ ap (λ labels. labels ++ map (label_of queue entry) last) (map-append (label_of queue entry) chunks fields)
    ∙ append_assoc (map (label_of queue entry) chunks) (map (label_of queue entry) fields) (map (label_of queue entry) last)
    ∙ ap (λ labels. map (label_of queue entry) chunks ++ labels) (each_last queue n entry)
    ∙ ap (λ labels. labels ++ last_labels queue n (carries_bytes entry)) (each_chunk queue n entry 0 (chunks_in (length (bytes_of entry))))

drop_past : (xs ys : List Label) (k m : ℕ) → m ≡ length xs + k → drop m (xs ++ ys) ≡ drop k ys
drop_past [] ys k m e = ap (λ m. drop m ys) (e ∙ omega arith)
drop_past (x ∷ xs) ys k zero e = absurd (omega arith)
drop_past (x ∷ xs) ys k (suc m) e = drop_past xs ys k m (omega arith)

at_chunk : (queue n chunks next : ℕ) (ys : List Label) → next < chunks → first_label (drop next (chunk_labels queue n chunks ++ ys)) ≡ Some (Chunk queue n next)
at_chunk queue n chunks next ys less =
    let numbers = count_from 0 chunks in
    let xs = map (λ part. Chunk queue n part) numbers in
    let count : length numbers ≡ chunks = length-count_from 0 chunks in
    let size : length xs ≡ chunks = length-map numbers (λ part. Chunk queue n part) ∙ count in
    ap first_label (drop-append-le next xs ys (omega arith) ∙ ap (λ zs. zs ++ ys) (drop_more xs next (Bell 0) (omega arith)))
    ∙ ap Some (get_or-map (λ part. Chunk queue n part) numbers next 0 (Bell 0) (omega arith) ∙ ap (λ part. Chunk queue n part) (get_or-count_from 0 chunks next 0 less ∙ omega arith))

at_last : (queue n chunks k next : ℕ) (ys : List Label) → next ≡ chunks + k → first_label (drop next (chunk_labels queue n chunks ++ ys)) ≡ first_label (drop k ys)
at_last queue n chunks k next ys e =
    let xs = map (λ part. Chunk queue n part) (count_from 0 chunks) in
    let size : length xs ≡ chunks = length-map (count_from 0 chunks) (λ part. Chunk queue n part) ∙ length-count_from 0 chunks in
    ap first_label (drop_past xs ys k next (omega arith))

by_chunk : (queue n chunks : ℕ) (carries : Bool) (next : ℕ) → next < chunks → label_by queue n chunks carries next ≡ Some (Chunk queue n next)
by_chunk queue n chunks carries next less = grind (arith, nat_tests)

by_last : (queue n chunks : ℕ) (carries : Bool) (k next : ℕ) → next ≡ chunks + k → label_by queue n chunks carries next ≡ first_label (drop k (last_labels queue n carries))
by_last queue n chunks carries zero next e = grind (arith, nat_tests)
by_last queue n chunks carries (suc zero) next e = grind (arith, nat_tests)
by_last queue n chunks carries (suc (suc zero)) next e = grind (arith, nat_tests)
by_last queue n chunks carries (suc (suc (suc zero))) next e = grind (arith, nat_tests)
by_last queue n chunks carries (suc (suc (suc (suc k)))) next e =
    let none : label_by queue n chunks carries next ≡ None = grind (arith, nat_tests) in
    none ∙ sym (ap first_label (drop_all {X = Label} k [] (omega arith)))

below_or_from : (next chunks : ℕ) → (next < chunks) ⊎ (next ≡ chunks + (next - chunks))
below_or_from next chunks = elim (cases_lt next chunks) [ inl less ↦ inl less | inr more ↦ inr (omega arith) ]

-- The label that a write's number gives is the one at that place among the entry's labels, or none past their end.
pub next_label : (queue n next : ℕ) (entry : Entry) → label_by queue n (chunks_in (length (bytes_of entry))) (carries_bytes entry) next ≡ first_label (drop next (labels_of queue n entry))
next_label queue n next entry =
    let chunks = chunks_in (length (bytes_of entry)) in
    let carries = carries_bytes entry in
    elim (below_or_from next chunks) [
      | inl less ↦ by_chunk queue n chunks carries next less ∙ sym (ap (λ labels. first_label (drop next labels)) (labels_are queue n entry) ∙ at_chunk queue n chunks next (last_labels queue n carries) less)
      | inr from ↦ by_last queue n chunks carries (next - chunks) next from
          ∙ sym (ap (λ labels. first_label (drop next labels)) (labels_are queue n entry) ∙ at_last queue n chunks (next - chunks) next (last_labels queue n carries) from)
    ]
