-- A slot of a ring as it is in a memory, and what a store at one of the memory's spots makes of it.
use Rattle.std.proofs.Common.{◌≡◌, ℕ, ◌+◌, ◌<◌, ◌≤◌, ◌⊎◌, inl, inr, ⊎_elim, Bool, true, false, List, [], ◌∷◌, ◌++◌, length, take, drop, replicate, refl, sym, ap, ◌∙◌, arith}
use Rattle.std.specs.Prelude.{◌≢◌, ◌^◌, if◌then◌else◌}
use Rattle.lane_model.specs.Lane.{Slot, overwritten, zeroed_slot}
use Rattle.ring_geometry.specs.Geometry.{HasRing, entries_of, max_payload_of}
use Rattle.ring_geometry.specs.Laws.{StandApart}
use Rattle.ring_geometry.specs.Spots.{Rings, Spot, Payload, Header, Index, layout_at, IsSpot, AreOther, spot_at, spot_bytes}
use Rattle.ring_geometry.proofs.Facade.{spots_apart}
use Rattle.pair_model.specs.Headers.{word_bytes}
use Rattle.pair_model.specs.Stores.{Store, bytes_in}
use Rattle.pair_model.proofs.Facade.{bytes_elsewhere, bytes_over, word_stored, nothing_stored, length-word_bytes, number_of, Leaves, Gives}
use Rattle.ledger_model.specs.Rings.{without_header}

-- the bytes of a spot, and the word that four of them say
abbrev pub at_spot : Rings → Spot → List Store → List ℕ
at_spot rings spot stores = bytes_in stores (spot_at rings spot) (spot_bytes rings spot)

abbrev pub word_at_spot : Rings → Spot → List Store → ℕ
word_at_spot rings spot stores = number_of (at_spot rings spot stores)

-- a store lies within a spot of these rings
pub record Fills (rings : Rings) (spot : Spot) (store : Store) : Type 0 where
  pub is : IsSpot rings spot
  pub from : spot_at rings spot ≤ store.at
  pub to : store.at + length store.bytes ≤ spot_at rings spot + spot_bytes rings spot

-- it leaves the other spots
pub other_left : (rings : Rings) → rings.size ≤ rings.cap → (one other : Spot) (store : Store) → Fills rings one store → IsSpot rings other → AreOther one other → Leaves (at_spot rings other) (store ∷ [])
other_left rings small one other store fills is differ older =
    bytes_elsewhere store older (spot_at rings other) (spot_bytes rings other)
    (⊎_elim (λ before. inr (omega (arith, before, fills.to))) (λ behind. inl (omega (arith, behind, fills.from))) (spots_apart rings small one other fills.is is differ))

-- Where the fields of a header stand, on version 5 or 4

abbrev pub version_at : Bool → ℕ
version_at five = if five then 4 else 0

abbrev pub length_at : Bool → ℕ
length_at five = if five then 8 else 4

abbrev pub flags_at : Bool → ℕ
flags_at five = if five then 12 else 8

abbrev pub header_size : Bool → ℕ
header_size five = if five then 16 else 12

-- the words after the version, each of which a write of its own brings
pub data LaterWord : Type 0 where
  LengthWord : LaterWord
  FlagsWord : LaterWord

abbrev pub place_of : Bool → LaterWord → ℕ
place_of five LengthWord = length_at five
place_of five FlagsWord = flags_at five

abbrev pub with_word : LaterWord → ℕ → Slot → Slot
with_word LengthWord len slot = record slot { len = len }
with_word FlagsWord flags slot = record slot { flags = flags }

-- version, length and flags stand one after another
header_order : (five : Bool) → (version_at five + 4 ≤ length_at five) × (length_at five + 4 ≤ flags_at five) × (flags_at five + 4 ≤ header_size five)
header_order true = (omega arith, omega arith, omega arith)
header_order false = (omega arith, omega arith, omega arith)

-- what the write of a version fills, and brings
abbrev pub version_size : Bool → ℕ
version_size five = if five then 8 else 4

abbrev pub version_word : Bool → ℕ → ℕ → List ℕ
version_word five ver left = if five then word_bytes left ++ word_bytes ver else word_bytes ver

-- how many entries follow, as the first word of a header says it
abbrev pub left_in : Bool → ℕ → ℕ
left_in five word = if five then word else 0

-- a slot as the bytes of its spots say it
pub record StandsIn (rings : Rings) (five : Bool) (queue n : ℕ) (stores : List Store) (slot : Slot) : Type 0 where
  pub payload : at_spot rings (Payload queue n) stores ≡ slot.payload
  pub left : left_in five (word_at_spot rings (Header queue n 0 4) stores) ≡ slot.left
  pub ver : word_at_spot rings (Header queue n (version_at five) 4) stores ≡ slot.ver
  pub len : word_at_spot rings (Header queue n (length_at five) 4) stores ≡ slot.len
  pub flags : word_at_spot rings (Header queue n (flags_at five) 4) stores ≡ slot.flags

-- a list of stores leaves a slot's spots
pub record LeavesSlot (rings : Rings) (queue n : ℕ) (new : List Store) : Type 0 where
  pub payload : Leaves (at_spot rings (Payload queue n)) new
  pub header : (offset : ℕ) → offset + 4 ≤ rings.header → Leaves (at_spot rings (Header queue n offset 4)) new

-- A slot that stands in memory stands there still after stores that leave its payload and its header.
pub slot_left : (rings : Rings) (five : Bool) (queue n : ℕ) (new older : List Store) (slot : Slot) → rings.header ≡ header_size five → LeavesSlot rings queue n new → StandsIn rings five queue n older slot
    → StandsIn rings five queue n (new ++ older) slot
slot_left rings true queue n new older slot size leaves stands = record {
  payload = leaves.payload older ∙ stands.payload;
  left = ap number_of (leaves.header 0 (omega arith) older) ∙ stands.left;
  ver = ap number_of (leaves.header 4 (omega arith) older) ∙ stands.ver;
  len = ap number_of (leaves.header 8 (omega arith) older) ∙ stands.len;
  flags = ap number_of (leaves.header 12 (omega arith) older) ∙ stands.flags;
}
slot_left rings false queue n new older slot size leaves stands = record {
  payload = leaves.payload older ∙ stands.payload;
  left = stands.left;
  ver = ap number_of (leaves.header 0 (omega arith) older) ∙ stands.ver;
  len = ap number_of (leaves.header 4 (omega arith) older) ∙ stands.len;
  flags = ap number_of (leaves.header 8 (omega arith) older) ∙ stands.flags;
}

-- a store at a spot that is none of the slot's
abbrev pub IsOutside : ℕ → ℕ → Spot → Type 0
IsOutside queue n (Payload queue' n') = (queue' ≢ queue) ⊎ (n' ≢ n)
IsOutside queue n (Header queue' n' from len) = (queue' ≢ queue) ⊎ (n' ≢ n)
IsOutside queue n (Index queue') = Unit {0}

outside_payload : (queue n : ℕ) (spot : Spot) → IsOutside queue n spot → AreOther spot (Payload queue n)
outside_payload queue n (Payload queue' n') apart = apart
outside_payload queue n (Header queue' n' from len) apart = tt
outside_payload queue n (Index queue') apart = tt

outside_header : (queue n offset : ℕ) (spot : Spot) → IsOutside queue n spot → AreOther spot (Header queue n offset 4)
outside_header queue n offset (Payload queue' n') apart = tt
outside_header queue n offset (Header queue' n' from len) apart = ⊎_elim (λ queues. inl queues) (λ slots. inr (inl slots)) apart
outside_header queue n offset (Index queue') apart = tt

-- A slot that a ring has
module _ (rings : Rings) (small : rings.size ≤ rings.cap) (queue : ℕ) (ring : HasRing (layout_at rings queue)) (n : ℕ) (among : n < entries_of (layout_at rings queue)) where
  pub outside_left : (spot : Spot) (store : Store) → Fills rings spot store → IsOutside queue n spot → LeavesSlot rings queue n (store ∷ [])
  outside_left spot store fills apart = record {
    payload = other_left rings small spot (Payload queue n) store fills (ring, among) (outside_payload queue n spot apart);
    header = λ offset inside. other_left rings small spot (Header queue n offset 4) store fills (ring, (among, inside)) (outside_header queue n offset spot apart);
  }

  -- a field of this header is left by a store in it that lies apart
  field_left : (from len offset : ℕ) (store : Store) → Fills rings (Header queue n from len) store → offset + 4 ≤ rings.header → StandApart from len offset 4
      → Leaves (word_at_spot rings (Header queue n offset 4)) (store ∷ [])
  field_left from len offset store fills inside apart older = ap number_of (other_left rings small (Header queue n from len) (Header queue n offset 4) store fills (ring, (among, inside)) (inr (inr apart)) older)

  payload_left : (from len : ℕ) (store : Store) → Fills rings (Header queue n from len) store → Leaves (at_spot rings (Payload queue n)) (store ∷ [])
  payload_left from len store fills = other_left rings small (Header queue n from len) (Payload queue n) store fills (ring, among) tt

  -- a chunk of a payload
  pub chunk_stands : (five : Bool) (offset : ℕ) (store : Store) (older : List Store) (slot : Slot) → rings.header ≡ header_size five → store.at ≡ spot_at rings (Payload queue n) + offset
      → offset + length store.bytes ≤ max_payload_of (layout_at rings queue) → StandsIn rings five queue n older slot
      → StandsIn rings five queue n (store ∷ older) (record slot { payload = overwritten offset store.bytes slot.payload })
  chunk_stands five offset store older slot size there inside stands = go five size stands
    where
      fills : Fills rings (Payload queue n) store
      fills = record { is = (ring, among); from = omega arith; to = omega arith }

      left_header : (at : ℕ) → at + 4 ≤ rings.header → Leaves (word_at_spot rings (Header queue n at 4)) (store ∷ [])
      left_header at within o = ap number_of (other_left rings small (Payload queue n) (Header queue n at 4) store fills (ring, (among, within)) tt o)

      over : {old : List ℕ} → at_spot rings (Payload queue n) older ≡ old → at_spot rings (Payload queue n) (store ∷ older) ≡ overwritten offset store.bytes old
      over e = bytes_over store older (spot_at rings (Payload queue n)) offset (max_payload_of (layout_at rings queue)) there inside ∙ ap (overwritten offset store.bytes) e

      go : (five : Bool) → rings.header ≡ header_size five → StandsIn rings five queue n older slot → StandsIn rings five queue n (store ∷ older) (record slot { payload = overwritten offset store.bytes slot.payload })
      go true size stands = record {
        payload = over stands.payload;
        left = left_header 0 (omega arith) older ∙ stands.left;
        ver = left_header 4 (omega arith) older ∙ stands.ver;
        len = left_header 8 (omega arith) older ∙ stands.len;
        flags = left_header 12 (omega arith) older ∙ stands.flags;
      }
      go false size stands = record {
        payload = over stands.payload;
        left = stands.left;
        ver = left_header 0 (omega arith) older ∙ stands.ver;
        len = left_header 4 (omega arith) older ∙ stands.len;
        flags = left_header 8 (omega arith) older ∙ stands.flags;
      }

  -- a word in the header
  word_fills : (offset : ℕ) (store : Store) (value : ℕ) → store.at ≡ spot_at rings (Header queue n offset 4) → store.bytes ≡ word_bytes value → offset + 4 ≤ rings.header
      → Fills rings (Header queue n offset 4) store
  word_fills offset store value there is inside =
      let four : length store.bytes ≡ 4 = ap length is ∙ length-word_bytes value in
      record { is = (ring, (among, inside)); from = omega arith; to = omega arith }

  word_is : (offset : ℕ) (store : Store) (older : List Store) (value : ℕ) → store.at ≡ spot_at rings (Header queue n offset 4) → store.bytes ≡ word_bytes value → value < 2 ^ 32
      → word_at_spot rings (Header queue n offset 4) (store ∷ older) ≡ value
  word_is offset store older value there is less =
      let four : length store.bytes ≡ 4 = ap length is ∙ length-word_bytes value in
      word_stored store older 0 (spot_at rings (Header queue n offset 4)) value (omega arith) (omega arith) (ap (λ bytes. take 4 (drop 0 bytes)) is) less

  -- how many entries follow is left by a word after the version
  left_kept : (five : Bool) (from : ℕ) (store : Store) (older : List Store) → rings.header ≡ header_size five → version_at five + 4 ≤ from → Fills rings (Header queue n from 4) store
      → left_in five (word_at_spot rings (Header queue n 0 4) (store ∷ older)) ≡ left_in five (word_at_spot rings (Header queue n 0 4) older)
  left_kept true from store older size behind fills = field_left from 4 0 store fills (omega arith) (inr (omega arith)) older
  left_kept false from store older size behind fills = refl

  -- a word after the version
  pub word_stands : (five : Bool) (word : LaterWord) (store : Store) (older : List Store) (slot : Slot) (value : ℕ) → rings.header ≡ header_size five → store.at ≡ spot_at rings (Header queue n (place_of five word) 4)
      → store.bytes ≡ word_bytes value → value < 2 ^ 32 → StandsIn rings five queue n older slot → StandsIn rings five queue n (store ∷ older) (with_word word value slot)
  word_stands five LengthWord store older slot value size there is less stands =
      let fills = word_fills (length_at five) store value there is (omega (arith, header_order five)) in record {
        payload = payload_left (length_at five) 4 store fills older ∙ stands.payload;
        left = left_kept five (length_at five) store older size (header_order five).0 fills ∙ stands.left;
        ver = field_left (length_at five) 4 (version_at five) store fills (omega (arith, header_order five)) (inr (header_order five).0) older ∙ stands.ver;
        len = word_is (length_at five) store older value there is less;
        flags = field_left (length_at five) 4 (flags_at five) store fills (omega (arith, header_order five)) (inl (header_order five).1) older ∙ stands.flags;
      }
  word_stands five FlagsWord store older slot value size there is less stands =
      let fills = word_fills (flags_at five) store value there is (omega (arith, header_order five)) in record {
        payload = payload_left (flags_at five) 4 store fills older ∙ stands.payload;
        left = left_kept five (flags_at five) store older size (omega (arith, header_order five)) fills ∙ stands.left;
        ver = field_left (flags_at five) 4 (version_at five) store fills (omega (arith, header_order five)) (inr (omega (arith, header_order five))) older ∙ stands.ver;
        len = field_left (flags_at five) 4 (length_at five) store fills (omega (arith, header_order five)) (inr (header_order five).1) older ∙ stands.len;
        flags = word_is (flags_at five) store older value there is less;
      }

  -- a version, with what follows
  pub version_stands : (five : Bool) (store : Store) (older : List Store) (slot : Slot) (ver left : ℕ) → rings.header ≡ header_size five → store.at ≡ spot_at rings (Header queue n 0 (version_size five))
      → store.bytes ≡ version_word five ver left → ver < 2 ^ 32 → left < 2 ^ 32 → (five ≡ false → left ≡ 0) → StandsIn rings five queue n older slot
      → StandsIn rings five queue n (store ∷ older) (record slot { left = left; ver = ver })
  version_stands true store older slot ver left size there is less few none stands =
      let eight : length store.bytes ≡ 8 = ap length is in
      let fills : Fills rings (Header queue n 0 8) store = record { is = (ring, (among, omega arith)); from = omega arith; to = omega arith } in record {
        payload = payload_left 0 8 store fills older ∙ stands.payload;
        left = word_stored store older 0 (spot_at rings (Header queue n 0 4)) left (omega arith) (omega arith) (ap (λ bytes. take 4 (drop 0 bytes)) is) few;
        ver = word_stored store older 4 (spot_at rings (Header queue n 4 4)) ver (omega arith) (omega arith) (ap (λ bytes. take 4 (drop 4 bytes)) is) less;
        len = field_left 0 8 8 store fills (omega arith) (inl (omega arith)) older ∙ stands.len;
        flags = field_left 0 8 12 store fills (omega arith) (inl (omega arith)) older ∙ stands.flags;
      }
  version_stands false store older slot ver left size there is less few none stands =
      let fills = word_fills 0 store ver there is (omega arith) in record {
        payload = payload_left 0 4 store fills older ∙ stands.payload;
        left = sym (none refl);
        ver = word_is 0 store older ver there is less;
        len = field_left 0 4 4 store fills (omega arith) (inl (omega arith)) older ∙ stands.len;
        flags = field_left 0 4 8 store fills (omega arith) (inl (omega arith)) older ∙ stands.flags;
      }

-- a header that is zeroed
pub zeroed_stands : (rings : Rings) (five : Bool) (queue n : ℕ) (new older : List Store) (slot : Slot) → rings.header ≡ header_size five → Leaves (at_spot rings (Payload queue n)) new
    → ((offset : ℕ) → offset + 4 ≤ rings.header → Gives (at_spot rings (Header queue n offset 4)) new (replicate 4 0)) → StandsIn rings five queue n older slot
    → StandsIn rings five queue n (new ++ older) (without_header slot)
zeroed_stands rings true queue n new older slot size leaves gives stands = record {
  payload = leaves older ∙ stands.payload;
  left = ap number_of (gives 0 (omega arith) older);
  ver = ap number_of (gives 4 (omega arith) older);
  len = ap number_of (gives 8 (omega arith) older);
  flags = ap number_of (gives 12 (omega arith) older);
}
zeroed_stands rings false queue n new older slot size leaves gives stands = record {
  payload = leaves older ∙ stands.payload;
  left = refl;
  ver = ap number_of (gives 0 (omega arith) older);
  len = ap number_of (gives 4 (omega arith) older);
  flags = ap number_of (gives 8 (omega arith) older);
}

-- where nothing was stored all is zero
pub nothing_stands : (rings : Rings) (five : Bool) (queue n : ℕ) → StandsIn rings five queue n [] (zeroed_slot (max_payload_of (layout_at rings queue)))
nothing_stands rings true queue n = record { payload = nothing_stored (spot_at rings (Payload queue n)) (max_payload_of (layout_at rings queue)); left = refl; ver = refl; len = refl; flags = refl }
nothing_stands rings false queue n = record { payload = nothing_stored (spot_at rings (Payload queue n)) (max_payload_of (layout_at rings queue)); left = refl; ver = refl; len = refl; flags = refl }
