-- The writes of an entry: how many there are, and which entry they belong to.
use Rattle.std.proofs.Common.{◌≡◌, ℕ, suc, ◌+◌, List, [], ◌∷◌, ◌++◌, length, map, sym, ap, ◌∙◌, subst, inl, inr, arith, append_assoc, length-append, Contains}
use Rattle.std.proofs.lemmas.List.{length-map, map_push}
use Rattle.std.proofs.lemmas.List.Elements.{Contains-append_cases, Contains-append_right}
use Rattle.lane_model.specs.declared.Field.TheVariants.{Chunk, Length, Version}
use Rattle.lane_model.specs.declared.Write.{Write}
use Rattle.lane_model.specs.declared.Write.TheVariants.{Data, Flag, Bell}
use Rattle.lane_model.specs.Lane.{Entry, Lane, bytes_of, chunks_in, count_from, data_of, writes_of, entry_of}
use Rattle.lane_model.specs.Law.{EndTheLast}
use Rattle.lane_laws.proofs.Facade.{length-count_from, count_from-push}
use Rattle.lane_laws.proofs.Facade.{field_of_data, contains_cases, contains_none, contains_first}
use Rattle.lane_core.specs.Parts.{IsKnown}

abbrev pub chunk_cells : ℕ → ℕ → List Write
chunk_cells n count = map (λ part. Data n (Chunk part)) (count_from 0 count)

-- one more chunk after others
pub chunk_cells-push : (marks : List Write) (n count : ℕ) → (marks ++ chunk_cells n count) ++ Data n (Chunk count) ∷ [] ≡ marks ++ chunk_cells n (count + 1)
chunk_cells-push marks n count =
    append_assoc marks (chunk_cells n count) (Data n (Chunk count) ∷ [])
    ∙ ap (λ cells. marks ++ cells) (sym (map_push (λ part. Data n (Chunk part)) (count_from 0 count) count)
    ∙ ap (map (λ part. Data n (Chunk part))) (count_from-push 0 count count (omega arith) ∙ ap (count_from 0) (one_more count)))
  where
    one_more : (n : ℕ) → suc n ≡ n + 1
    one_more n = omega arith

-- An entry has as many writes as its payload has chunks, and four more: length, version, flags and doorbell.
pub length-writes_of : (n : ℕ) (entry : Entry) → length (writes_of n entry) ≡ chunks_in (length (bytes_of entry)) + 4
length-writes_of n entry =
    let chunks = chunks_in (length (bytes_of entry)) in
    let a = length-append (data_of n entry) (Flag n ∷ Bell ∷ []) in
    let b = length-append (chunk_cells n chunks) (Data n Length ∷ Data n Version ∷ []) in
    let d = length-map (count_from 0 chunks) (λ (part : ℕ). Data n (Chunk part)) in
    let e = length-count_from 0 chunks in
    omega arith

-- the four writes after the chunks
pub writes_in_turn : (marks : List Write) (n : ℕ) (entry : Entry)
    → ((((marks ++ chunk_cells n (chunks_in (length (bytes_of entry)))) ++ Data n Length ∷ []) ++ Data n Version ∷ []) ++ Flag n ∷ []) ++ Bell ∷ [] ≡ marks ++ writes_of n entry
writes_in_turn marks n entry =
    let cells = chunk_cells n (chunks_in (length (bytes_of entry))) in
    append_assoc (((marks ++ cells) ++ Data n Length ∷ []) ++ Data n Version ∷ []) (Flag n ∷ []) (Bell ∷ [])
    ∙ append_assoc ((marks ++ cells) ++ Data n Length ∷ []) (Data n Version ∷ []) (Flag n ∷ Bell ∷ [])
    ∙ append_assoc (marks ++ cells) (Data n Length ∷ []) (Data n Version ∷ Flag n ∷ Bell ∷ [])
    ∙ append_assoc marks cells (Data n Length ∷ Data n Version ∷ Flag n ∷ Bell ∷ [])
    ∙ ap (λ w. marks ++ w) (sym (append_assoc cells (Data n Length ∷ Data n Version ∷ []) (Flag n ∷ Bell ∷ [])))

-- flags among the writes of an entry are its own
pub known_among : (n : ℕ) (entry : Entry) (mark : Write) → Contains (writes_of n entry) mark → IsKnown mark (n + 1)
known_among n entry (Data k field) h = tt
known_among n entry Bell h = tt
known_among n entry (Flag k) h = elim (Contains-append_cases (data_of n entry) (Flag n ∷ Bell ∷ []) (Flag k) h) [
  | inl cell ↦ let f = field_of_data n entry (Flag k) cell in absurd (cc f.1)
  | inr behind ↦ elim (contains_cases (Flag n) (Bell ∷ []) (Flag k) behind) [
    | inl same ↦ let e : n ≡ k = cc in omega arith
    | inr bell ↦ elim (contains_cases Bell [] (Flag k) bell) [
      | inl other ↦ absurd (cc other)
      | inr none ↦ absurd (contains_none (Flag k) none)
    ]
  ]
]

-- the next write to post is of the entry that was begun last
pub next_is_known : (lane : Lane) (mark : Write) (rest : List Write) → lane.todo ≡ mark ∷ rest → EndTheLast lane.sent lane.todo → IsKnown mark (length lane.sent)
next_is_known lane mark rest front last = elim last [
  | inl nothing ↦ absurd (cc (nothing, front))
  | inr ending ↦
      let entry = entry_of lane ending.0 in
      let there : Contains (ending.1 ++ lane.todo) mark = Contains-append_right ending.1 lane.todo mark (subst (λ w. Contains w mark) (sym front) (contains_first mark rest)) in
      subst (IsKnown mark) ending.2 (known_among ending.0 entry mark (subst (λ w. Contains w mark) (sym ending.3) there))
]
