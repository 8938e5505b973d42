-- What stands in a slot of the ring: fields written over others, and a payload put together from its chunks.
use Rattle.std.proofs.Common.{◌≡◌, ℕ, zero, suc, ◌+◌, ◌-◌, ◌*◌, ◌/◌, ◌%◌, ◌<◌, ◌≤◌, ◌⊎◌, min, List, [], ◌∷◌, ◌++◌, length, map, take, drop, get_or, refl, sym, ap, ◌∙◌, subst, inl, inr, arith, append_assoc, length-append, length-take, length-drop, length-take-le, get_or-take, get_or-drop, Contains}
use Rattle.std.proofs.lemmas.List.{same_lists, drop_at, take_at, get_or_append_left, get_or-append_right, length-map, get_or-map}
use Rattle.std.proofs.lemmas.List.Elements.{Contains-append_left, Contains-append_right, Contains-append_cases}
use Rattle.std.proofs.lemmas.Bool.{cases_order}
use Rattle.lane_model.specs.Lane.{Entry, Slot, bytes_of, chunk_size, chunks_in, chunk_of, count_from, data_of, flags_of, overwritten, with_field, with_flags}
use Rattle.lane_model.specs.declared.Field.{Field}
use Rattle.lane_model.specs.declared.Field.TheVariants.{Chunk, Length, Version}
use Rattle.lane_model.specs.declared.Write.{Write}
use Rattle.lane_model.specs.declared.Write.TheVariants.{Data}
use Rattle.lane_model.specs.Law.{Stands, StandsWhole}
use Rattle.lane_laws.proofs.Numbers.{length-count_from, get_or-count_from}

-- Writing bytes over a part of a list, if they fit within it, leaves the list as long as it was.
pub length-overwritten : (at : ℕ) (bytes old : List ℕ) → at + length bytes ≤ length old → length (overwritten at bytes old) ≡ length old
length-overwritten at bytes old fits =
    let a = length-append (take at old ++ bytes) (drop (at + length bytes) old) in
    let b = length-append (take at old) bytes in
    let c = length-take-le at old (omega arith) in
    let d = length-drop (at + length bytes) old in
    omega arith

-- what was written is read
read_written : (at : ℕ) (bytes old : List ℕ) → at + length bytes ≤ length old → take (length bytes) (drop at (overwritten at bytes old)) ≡ bytes
read_written at bytes old fits =
    ap (λ w. take (length bytes) (drop at w)) (append_assoc (take at old) bytes (drop (at + length bytes) old))
    ∙ ap (take (length bytes)) (drop_at (take at old) (bytes ++ drop (at + length bytes) old) at (length-take-le at old (omega arith)))
    ∙ take_at bytes (drop (at + length bytes) old) (length bytes) refl

-- elsewhere the old bytes are read
at_before : (at : ℕ) (bytes old : List ℕ) (i d : ℕ) → at + length bytes ≤ length old → i < at → get_or (overwritten at bytes old) i d ≡ get_or old i d
at_before at bytes old i d fits before =
    let b = length-append (take at old) bytes in
    let c = length-take-le at old (omega arith) in
    get_or_append_left (take at old ++ bytes) (drop (at + length bytes) old) d i (omega arith)
    ∙ get_or_append_left (take at old) bytes d i (omega arith)
    ∙ get_or-take at old i d before

at_behind : (at : ℕ) (bytes old : List ℕ) (i d : ℕ) → at + length bytes ≤ length old → at + length bytes ≤ i → get_or (overwritten at bytes old) i d ≡ get_or old i d
at_behind at bytes old i d fits behind =
    let b = length-append (take at old) bytes in
    let c = length-take-le at old (omega arith) in
    get_or-append_right (take at old ++ bytes) (drop (at + length bytes) old) (at + length bytes) i d (omega arith) behind
    ∙ get_or-drop (at + length bytes) old (i - (at + length bytes)) d
    ∙ ap (λ j. get_or old j d) (omega arith)

read_alike : (xs ys : List ℕ) (a n : ℕ) → length xs ≡ length ys → ((i d : ℕ) → a ≤ i → i < a + n → get_or xs i d ≡ get_or ys i d) → take n (drop a xs) ≡ take n (drop a ys)
read_alike xs ys a n same each =
    let b = length-take n (drop a xs) in
    let c = length-take n (drop a ys) in
    let d = length-drop a xs in
    let e = length-drop a ys in
    same_lists (take n (drop a xs)) (take n (drop a ys)) (omega arith) (λ k dflt below.
    get_or-take n (drop a xs) k dflt (omega arith)
    ∙ get_or-drop a xs k dflt
    ∙ each (a + k) dflt (omega arith) (omega arith)
    ∙ sym (get_or-drop a ys k dflt)
    ∙ sym (get_or-take n (drop a ys) k dflt (omega arith)))

read_before : (at : ℕ) (bytes old : List ℕ) (a n : ℕ) → at + length bytes ≤ length old → a + n ≤ at → take n (drop a (overwritten at bytes old)) ≡ take n (drop a old)
read_before at bytes old a n fits before = read_alike _ old a n (length-overwritten at bytes old fits) (λ i d low high. at_before at bytes old i d fits (omega arith))

read_behind : (at : ℕ) (bytes old : List ℕ) (a n : ℕ) → at + length bytes ≤ length old → at + length bytes ≤ a → take n (drop a (overwritten at bytes old)) ≡ take n (drop a old)
read_behind at bytes old a n fits behind = read_alike _ old a n (length-overwritten at bytes old fits) (λ i d low high. at_behind at bytes old i d fits (omega arith))

-- A chunk of a payload has 128 bytes, or as many as are left from the chunk's start where these are fewer.
pub length-chunk_of : (bytes : List ℕ) (part : ℕ) → length (chunk_of bytes part) ≡ min chunk_size (length bytes - chunk_size * part)
length-chunk_of bytes part = length-take chunk_size (drop (chunk_size * part) bytes) ∙ ap (min chunk_size) (length-drop (chunk_size * part) bytes)

-- a field that an entry has
abbrev pub IsFieldOf : Entry → Field → Type 0
IsFieldOf entry (Chunk part) = part < chunks_in (length (bytes_of entry))
IsFieldOf entry Length = Unit {0}
IsFieldOf entry Version = Unit {0}

chunk_fits : (bytes old : List ℕ) (part : ℕ) → part < chunks_in (length bytes) → length bytes ≤ length old → chunk_size * part + length (chunk_of bytes part) ≤ length old
chunk_fits bytes old part among fits = omega (arith, length-chunk_of bytes part)

-- a field stands in its slot once it was written
pub stands_written : (slot : Slot) (n : ℕ) (entry : Entry) (field : Field) → IsFieldOf entry field → length (bytes_of entry) ≤ length slot.payload
    → Stands (with_field slot n entry field) n entry field
stands_written slot n entry (Chunk part) among fits =
    read_written (chunk_size * part) (chunk_of (bytes_of entry) part) slot.payload (chunk_fits (bytes_of entry) slot.payload part among fits)
stands_written slot n entry Length among fits = refl
stands_written slot n entry Version among fits = (refl, refl)

-- and each other field that stood in it stands there still
pub stands_still : (slot : Slot) (n : ℕ) (entry : Entry) (field other : Field) → IsFieldOf entry field → length (bytes_of entry) ≤ length slot.payload
    → Stands slot n entry other → Stands (with_field slot n entry field) n entry other
stands_still slot n entry (Chunk part) (Chunk other) among fits stands =
    let bytes = bytes_of entry in
    let room = chunk_fits bytes slot.payload part among fits in
    let a = length-chunk_of bytes part in
    let b = length-chunk_of bytes other in
    elim (cases_order part other) [
      | inl same ↦ subst (λ k. Stands (with_field slot n entry (Chunk part)) n entry (Chunk k)) same (stands_written slot n entry (Chunk part) among fits)
      | inr apart ↦ elim apart [
        | inl below ↦ read_behind (chunk_size * part) (chunk_of bytes part) slot.payload (chunk_size * other) (length (chunk_of bytes other)) room (omega arith) ∙ stands
        | inr above ↦ read_before (chunk_size * part) (chunk_of bytes part) slot.payload (chunk_size * other) (length (chunk_of bytes other)) room (omega arith) ∙ stands
      ]
    ]
stands_still slot n entry (Chunk part) Length among fits stands = stands
stands_still slot n entry (Chunk part) Version among fits stands = stands
stands_still slot n entry Length (Chunk other) among fits stands = stands
stands_still slot n entry Length Length among fits stands = refl
stands_still slot n entry Length Version among fits stands = stands
stands_still slot n entry Version (Chunk other) among fits stands = stands
stands_still slot n entry Version Length among fits stands = stands
stands_still slot n entry Version Version among fits stands = (refl, refl)

-- flags touch no field, and a field no flags
pub stands_under_flags : (slot : Slot) (n : ℕ) (entry : Entry) (field : Field) (flags : ℕ) → Stands slot n entry field → Stands (with_flags slot flags) n entry field
stands_under_flags slot n entry (Chunk part) flags stands = stands
stands_under_flags slot n entry Length flags stands = stands
stands_under_flags slot n entry Version flags stands = stands

-- Writing a field of an entry into a slot leaves the slot's flags as they were.
pub flags_stay : (slot : Slot) (n : ℕ) (entry : Entry) (field : Field) → (with_field slot n entry field).flags ≡ slot.flags
flags_stay slot n entry (Chunk part) = refl
flags_stay slot n entry Length = refl
flags_stay slot n entry Version = refl

-- Writing a field of an entry into a slot that it fits leaves the slot's payload as long as it was.
pub room_stays : (slot : Slot) (n : ℕ) (entry : Entry) (field : Field) → IsFieldOf entry field → length (bytes_of entry) ≤ length slot.payload
    → length (with_field slot n entry field).payload ≡ length slot.payload
room_stays slot n entry (Chunk part) among fits = length-overwritten (chunk_size * part) (chunk_of (bytes_of entry) part) slot.payload (chunk_fits (bytes_of entry) slot.payload part among fits)
room_stays slot n entry Length among fits = refl
room_stays slot n entry Version among fits = refl

-- a payload stands once each chunk of it does
chunks_make_payload : (bytes payload : List ℕ) → length bytes ≤ length payload
    → ((part : ℕ) → part < chunks_in (length bytes) → take (length (chunk_of bytes part)) (drop (chunk_size * part) payload) ≡ chunk_of bytes part)
    → take (length bytes) payload ≡ bytes
chunks_make_payload bytes payload fits each =
    let whole = length-take-le (length bytes) payload fits in
    same_lists (take (length bytes) payload) bytes whole (λ i d below.
    let part = i / chunk_size in
    let off = i % chunk_size in
    let at : chunk_size * part + off ≡ i = omega arith in
    let a = length-chunk_of bytes part in
    get_or-take (length bytes) payload i d (omega arith)
    ∙ ap (λ j. get_or payload j d) (sym at)
    ∙ sym (get_or-drop (chunk_size * part) payload off d)
    ∙ sym (get_or-take (length (chunk_of bytes part)) (drop (chunk_size * part) payload) off d (omega arith))
    ∙ ap (λ c. get_or c off d) (each part (omega arith))
    ∙ get_or-take chunk_size (drop (chunk_size * part) bytes) off d (omega arith)
    ∙ get_or-drop (chunk_size * part) bytes off d
    ∙ ap (λ j. get_or bytes j d) at)

-- an entry stands whole once each field of it does, and its flags
pub fields_make_whole : (slot : Slot) (n : ℕ) (entry : Entry) → length (bytes_of entry) ≤ length slot.payload
    → ((field : Field) → IsFieldOf entry field → Stands slot n entry field) → slot.flags ≡ flags_of entry → StandsWhole slot n entry
fields_make_whole slot n entry fits each up = record {
  payload = chunks_make_payload (bytes_of entry) slot.payload fits (λ part among. each (Chunk part) among);
  left = (each Version tt).0;
  len = each Length tt;
  ver = (each Version tt).1;
  flags = up;
}

-- where an entry stands whole, each chunk of it stands
pub chunk_of_whole : (slot : Slot) (n : ℕ) (entry : Entry) (part : ℕ) → StandsWhole slot n entry → Stands slot n entry (Chunk part)
chunk_of_whole slot n entry part whole =
    let bytes = bytes_of entry in
    let at = chunk_size * part in
    let count = length (chunk_of bytes part) in
    let a = length-chunk_of bytes part in
    let b = length-take count (drop at slot.payload) in
    let c = length-drop at slot.payload in
    let d : min (length bytes) (length slot.payload) ≡ length bytes = sym (length-take (length bytes) slot.payload) ∙ ap length whole.payload in
    same_lists (take count (drop at slot.payload)) (chunk_of bytes part) (omega arith) (λ i dflt below.
    get_or-take count (drop at slot.payload) i dflt (omega arith)
    ∙ get_or-drop at slot.payload i dflt
    ∙ sym (get_or-take (length bytes) slot.payload (at + i) dflt (omega arith))
    ∙ ap (λ w. get_or w (at + i) dflt) whole.payload
    ∙ sym (get_or-drop at bytes i dflt)
    ∙ sym (get_or-take chunk_size (drop at bytes) i dflt (omega arith)))

-- an element of a list is its first or stands in the rest
pub contains_cases : {X : Type 0} (y : X) (xs : List X) (x : X) → Contains (y ∷ xs) x → (y ≡ x) ⊎ Contains xs x
contains_cases {X} y xs x h = go h.0 h.1 h.2
  where
    go : (k : ℕ) → k < length (y ∷ xs) → get_or (y ∷ xs) k x ≡ x → (y ≡ x) ⊎ Contains xs x
    go zero below e = inl e
    go (suc k) below e = inr (k, omega arith, e)

-- An empty list contains no element.
pub contains_none : {X : Type 0} (x : X) → Contains [] x → ⊥
contains_none x h = omega (arith, h.1)

-- A list contains its first element.
pub contains_first : {X : Type 0} (x : X) (xs : List X) → Contains (x ∷ xs) x
contains_first x xs = (0, omega arith, refl)

-- What a list contains is still there once another element stands in front of it.
pub contains_later : {X : Type 0} (y : X) (xs : List X) (x : X) → Contains xs x → Contains (y ∷ xs) x
contains_later y xs x h = (suc h.0, omega (arith, h.1), h.2)

-- the fields of an entry are among its writes
pub cell_of_field : (n : ℕ) (entry : Entry) (field : Field) → IsFieldOf entry field → Contains (data_of n entry) (Data n field)
cell_of_field n entry (Chunk part) among =
    let chunks = chunks_in (length (bytes_of entry)) in
    let numbers = count_from 0 chunks in
    let a = length-count_from 0 chunks in
    let b = length-map numbers (λ (k : ℕ). Data n (Chunk k)) in
    Contains-append_left (map (λ k. Data n (Chunk k)) numbers) (Data n Length ∷ Data n Version ∷ []) (Data n (Chunk part)) (
      part,
      omega arith,
      get_or-map (λ k. Data n (Chunk k)) numbers part 0 (Data n (Chunk part)) (omega arith)
          ∙ ap (λ k. Data n (Chunk k)) (get_or-count_from 0 chunks part 0 among ∙ omega arith),
    )
cell_of_field n entry Length among = Contains-append_right (map (λ k. Data n (Chunk k)) (count_from 0 (chunks_in (length (bytes_of entry))))) _ (Data n Length) (contains_first (Data n Length) (Data n Version ∷ []))
cell_of_field n entry Version among = Contains-append_right (map (λ k. Data n (Chunk k)) (count_from 0 (chunks_in (length (bytes_of entry))))) _ (Data n Version) (contains_later (Data n Length) (Data n Version ∷ []) (Data n Version) (contains_first (Data n Version) []))

-- and its writes before the flags are fields of it
pub field_of_data : (n : ℕ) (entry : Entry) (write : Write) → Contains (data_of n entry) write → (field : Field) × (write ≡ Data n field) × IsFieldOf entry field
field_of_data n entry write h =
    let chunks = chunks_in (length (bytes_of entry)) in
    let numbers = count_from 0 chunks in
    let a = length-count_from 0 chunks in
    let b = length-map numbers (λ (k : ℕ). Data n (Chunk k)) in
    elim (Contains-append_cases (map (λ k. Data n (Chunk k)) numbers) (Data n Length ∷ Data n Version ∷ []) write h) [
      | inl chunk ↦
          let below : chunk.0 < chunks = omega (arith, chunk.1) in (
            Chunk chunk.0,
            sym chunk.2
                ∙ get_or-map (λ k. Data n (Chunk k)) numbers chunk.0 0 write (omega (arith, chunk.1))
                ∙ ap (λ k. Data n (Chunk k)) (get_or-count_from 0 chunks chunk.0 0 below ∙ omega arith),
            below,
          )
      | inr header ↦ elim (contains_cases (Data n Length) (Data n Version ∷ []) write header) [
        | inl e ↦ (Length, sym e, tt)
        | inr later ↦ elim (contains_cases (Data n Version) [] write later) [
          | inl e ↦ (Version, sym e, tt)
          | inr none ↦ absurd (contains_none write none)
        ]
      ]
    ]

-- so a field of an entry is named by its number
pub field_among : (n k : ℕ) (entry : Entry) (field : Field) → Contains (data_of n entry) (Data k field) → (n ≡ k) × IsFieldOf entry field
field_among n k entry field h =
    let f = field_of_data n entry (Data k field) h in
    (cc, subst (IsFieldOf entry) (cc) f.2)
