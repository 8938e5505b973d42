-- What is left to land of a lane: one entry more, one write less, and which write is in front.
use Rattle.std.proofs.Common.{◌≡◌, ◌≢◌, true, ℕ, suc, ◌+◌, ◌-◌, ◌<◌, ◌≤◌, ◌⊎◌, List, [], ◌∷◌, ◌++◌, length, drop, get_or, refl, sym, ap, ◌∙◌, subst, inl, inr, arith, append_assoc, length-drop, get_or-drop, Contains}
use Rattle.std.proofs.lemmas.List.{drop-append-le}
use Rattle.std.proofs.lemmas.List.Elements.{Contains-append_cases}
use Rattle.lane_model.specs.Lane.{Entry, GoesDown, Lane, data_of, writes_of, entry_of}
use Rattle.lane_model.specs.declared.Field.{Field}
use Rattle.lane_model.specs.declared.Write.{Write}
use Rattle.lane_model.specs.declared.Write.TheVariants.{Data, Flag, Bell}
use Rattle.lane_model.specs.Law.{IsPickedFrom, Nothing, Taken, Left, AreLeft, AreLeftToLand, WritesCome, RingLaw}
use Rattle.lane_laws.proofs.Chunks.{contains_cases, contains_none, contains_later, field_of_data, field_among}

-- two slots of one list, in either order or the same
split : (before behind fields rest : List Write) (x y : Write) → before ++ x ∷ behind ≡ fields ++ y ∷ rest
    → ((mid : List Write) × (fields ≡ before ++ x ∷ mid) × (behind ≡ mid ++ y ∷ rest)) ⊎ (((before ≡ fields) × (x ≡ y) × (behind ≡ rest)) ⊎ ((mid : List Write) × (before ≡ fields ++ y ∷ mid) × (rest ≡ mid ++ x ∷ behind)))
split [] behind [] rest x y e = inr (inl (refl, cc, cc))
split [] behind (c ∷ fields) rest x y e = inl (fields, cc, cc)
split (b ∷ before) behind [] rest x y e = inr (inr (before, cc, cc))
split (b ∷ before) behind (c ∷ fields) rest x y e =
    let tails : before ++ x ∷ behind ≡ fields ++ y ∷ rest = cc in
    elim (split before behind fields rest x y tails) [
      | inl h ↦ inl (h.0, cc, h.2)
      | inr other ↦ elim other [
        | inl h ↦ inr (inl (cc, h.1, h.2))
        | inr h ↦ inr (inr (h.0, cc, h.2))
      ]
    ]

not_empty : (before behind : List Write) (x : Write) → before ++ x ∷ behind ≡ [] → ⊥
not_empty [] behind x e = cc
not_empty (b ∷ before) behind x e = cc

behind_bell : (mid rest behind : List Write) (x : Write) → x ≢ Bell → Bell ∷ rest ≡ mid ++ x ∷ behind → (more : List Write) × (mid ≡ Bell ∷ more) × (rest ≡ more ++ x ∷ behind)
behind_bell [] rest behind x other e = absurd (other (cc))
behind_bell (m ∷ mid) rest behind x other e = (mid, cc, cc)

-- ---- writes that are some of others

-- Every list of writes is a subsequence of itself.
pub picked_all : (xs : List Write) → IsPickedFrom xs xs
picked_all [] = Nothing
picked_all (x ∷ xs) = Taken (picked_all xs)

picked_without : {zs ys : List Write} → IsPickedFrom zs ys → (before behind : List Write) (x : Write) → zs ≡ before ++ x ∷ behind → IsPickedFrom (before ++ behind) ys
picked_without Nothing before behind x e = absurd (not_empty before behind x (sym e))
picked_without (Taken {ys = ys} h) [] behind x e = Left (subst (λ w. IsPickedFrom w ys) (cc) h)
picked_without (Taken {x = z} {ys = ys} h) (b ∷ before) behind x e =
    let same : z ≡ b = cc in
    subst (λ w. IsPickedFrom (w ∷ before ++ behind) (z ∷ ys)) same (Taken (picked_without h before behind x (cc)))
picked_without (Left h) before behind x e = Left (picked_without h before behind x e)

picked_among : {zs ys : List Write} → IsPickedFrom zs ys → (x : Write) → Contains zs x → Contains ys x
picked_among Nothing x h = absurd (contains_none x h)
picked_among (Taken {x = z} {xs = zs} {ys = ys} p) x h = elim (contains_cases z zs x h) [
  | inl same ↦ (0, omega arith, same)
  | inr later ↦ contains_later z ys x (picked_among p x later)
]
picked_among (Left {y = y} {ys = ys} p) x h = contains_later y ys x (picked_among p x h)

-- ---- what is left of the entries

-- one entry more
pub left_more : (entries : List Entry) (n m : ℕ) (writes : List Write) (entry : Entry) → m ≡ n + length entries
    → AreLeft n entries writes → AreLeft n (entries ++ entry ∷ []) (writes ++ writes_of m entry)
left_more [] n m writes entry e none =
    let same : m ≡ n = omega arith in
    (data_of n entry, [], ap (λ w. w ++ writes_of m entry) none ∙ ap (λ k. writes_of k entry) same, picked_all (data_of n entry), refl)
left_more (first ∷ entries) n m writes entry e h =
    let next : m ≡ suc n + length entries = omega arith in
    (h.0, h.1 ++ writes_of m entry, ap (λ w. w ++ writes_of m entry) h.2 ∙ append_assoc h.0 (Flag n ∷ Bell ∷ h.1) (writes_of m entry), h.3, left_more entries (suc n) m h.1 entry next h.4)

-- one field less, wherever it is
pub left_without : (entries : List Entry) (n : ℕ) (before behind : List Write) (k : ℕ) (field : Field)
    → AreLeft n entries (before ++ Data k field ∷ behind) → AreLeft n entries (before ++ behind)
left_without [] n before behind k field none = absurd (not_empty before behind (Data k field) none)
left_without (entry ∷ entries) n before behind k field h =
    elim (split before behind h.0 (Bell ∷ h.1) (Data k field) (Flag n) h.2) [
      | inl s ↦ (before ++ s.0, h.1, ap (λ w. before ++ w) s.2 ∙ sym (append_assoc before s.0 (Flag n ∷ Bell ∷ h.1)), picked_without h.3 before s.0 (Data k field) s.1, h.4)
      | inr other ↦ elim other [
        | inl s ↦ absurd (cell_no_flag s.1)
        | inr s ↦
            let b = behind_bell s.0 h.1 behind (Data k field) cell_no_bell s.2 in (
              h.0,
              b.0 ++ behind,
              ap (λ w. w ++ behind) (s.1 ∙ ap (λ w. h.0 ++ Flag n ∷ w) b.1) ∙ append_assoc h.0 (Flag n ∷ Bell ∷ b.0) behind,
              h.3,
              left_without entries (suc n) b.0 behind k field (subst (AreLeft (suc n) entries) b.2 h.4),
            )
      ]
    ]
  where
    cell_no_flag : Data k field ≡ Flag n → ⊥
    cell_no_flag e = cc

    cell_no_bell : Data k field ≡ Bell → ⊥
    cell_no_bell e = cc

-- flags in front are those of the first entry, and its doorbell follows
pub flag_in_front : (entries : List Entry) (n k : ℕ) (rest : List Write) → AreLeft n entries (Flag k ∷ rest)
    → (k ≡ n) × (more : List Entry) × (left : List Write) × (length entries ≡ suc (length more)) × (drop 1 entries ≡ more) × (rest ≡ Bell ∷ left) × AreLeft (suc n) more left
flag_in_front [] n k rest none = absurd (not_empty [] rest (Flag k) none)
flag_in_front (entry ∷ entries) n k rest h = go h.0 h.2 h.3
  where
    go : (fields : List Write) → Flag k ∷ rest ≡ fields ++ Flag n ∷ Bell ∷ h.1 → IsPickedFrom fields (data_of n entry)
        → (k ≡ n) × (more : List Entry) × (left : List Write) × (length (entry ∷ entries) ≡ suc (length more)) × (drop 1 (entry ∷ entries) ≡ more) × (rest ≡ Bell ∷ left) × AreLeft (suc n) more left
    go [] e p = (cc, entries, h.1, refl, refl, cc, h.4)
    go (c ∷ fields) e p =
        let same : c ≡ Flag k = cc in
        let f = field_of_data n entry c (picked_among p c (0, omega arith, refl)) in
        absurd (cc (same, f.1))

-- a doorbell is never in front of them
pub bell_in_front : (entries : List Entry) (n : ℕ) (rest : List Write) → AreLeft n entries (Bell ∷ rest) → ⊥
bell_in_front [] n rest none = not_empty [] rest Bell none
bell_in_front (entry ∷ entries) n rest h = go h.0 h.2 h.3
  where
    go : (fields : List Write) → Bell ∷ rest ≡ fields ++ Flag n ∷ Bell ∷ h.1 → IsPickedFrom fields (data_of n entry) → ⊥
    go [] e p = cc
    go (c ∷ fields) e p =
        let same : c ≡ Bell = cc in
        let f = field_of_data n entry c (picked_among p c (0, omega arith, refl)) in
        cc (same, f.1)

-- nothing is left of no entries alone
pub left_nothing : (entries : List Entry) (n : ℕ) → AreLeft n entries [] → length entries ≡ 0
left_nothing [] n none = refl
left_nothing (entry ∷ entries) n h = absurd (not_empty h.0 (Bell ∷ h.1) (Flag n) (sym h.2))

-- a field that is left is one of the entry of its number
pub cell_left : (entries : List Entry) (n : ℕ) (writes : List Write) (k : ℕ) (field : Field) → AreLeft n entries writes → Contains writes (Data k field)
    → (n ≤ k) × (k < n + length entries) × Contains (data_of k (get_or entries (k - n) GoesDown)) (Data k field)
cell_left [] n writes k field none among = absurd (contains_none (Data k field) (subst (λ w. Contains w (Data k field)) none among))
cell_left (entry ∷ entries) n writes k field h among =
    elim (Contains-append_cases h.0 (Flag n ∷ Bell ∷ h.1) (Data k field) (subst (λ w. Contains w (Data k field)) h.2 among)) [
      | inl first ↦
          let among_all : Contains (data_of n entry) (Data k field) = picked_among h.3 (Data k field) first in
          let same : n ≡ k = (field_among n k entry field among_all).0 in
          let start : 0 ≡ k - n = omega arith in (
            omega arith,
            omega arith,
            subst (λ j. Contains (data_of k (get_or (entry ∷ entries) j GoesDown)) (Data k field)) start (subst (λ j. Contains (data_of j entry) (Data k field)) same among_all),
          )
      | inr later ↦ elim (contains_cases (Flag n) (Bell ∷ h.1) (Data k field) later) [
        | inl e ↦ absurd (cc e)
        | inr after_flag ↦ elim (contains_cases Bell h.1 (Data k field) after_flag) [
          | inl e ↦ absurd (cc e)
          | inr in_rest ↦
              let r = cell_left entries (suc n) h.1 k field h.4 in_rest in
              let next : suc (k - suc n) ≡ k - n = omega arith in (
                omega arith,
                omega arith,
                subst (λ j. Contains (data_of k (get_or (entry ∷ entries) j GoesDown)) (Data k field)) next r.2,
              )
        ]
      ]
    ]

-- ---- with the doorbell of the entry before

-- beginning an entry leaves its writes after the others
pub left_to_land_more : (lane : Lane) (writes : List Write) (entry : Entry) → lane.flagged ≤ length lane.sent
    → AreLeftToLand lane.flagged lane.sent writes → AreLeftToLand lane.flagged (lane.sent ++ entry ∷ []) (writes ++ writes_of (length lane.sent) entry)
left_to_land_more lane writes entry first h =
    let counted : length lane.sent ≡ lane.flagged + length (drop lane.flagged lane.sent) = omega (arith, length-drop lane.flagged lane.sent) in
    let more : drop lane.flagged lane.sent ++ entry ∷ [] ≡ drop lane.flagged (lane.sent ++ entry ∷ []) = sym (drop-append-le lane.flagged lane.sent (entry ∷ []) first) in
    let new_writes : List Write = writes_of (length lane.sent) entry in
    elim h [
      | inl left ↦ inl (subst (λ es. AreLeft lane.flagged es (writes ++ new_writes)) more (left_more (drop lane.flagged lane.sent) lane.flagged (length lane.sent) writes entry counted left))
      | inr bell ↦ inr (
        bell.0 ++ new_writes,
        ap (λ w. w ++ new_writes) bell.1,
        bell.2,
        subst (λ es. AreLeft lane.flagged es (bell.0 ++ new_writes)) more (left_more (drop lane.flagged lane.sent) lane.flagged (length lane.sent) bell.0 entry counted bell.3),
      )
    ]

-- What is left to land of the begun entries stays in order where any one field is taken out of it.
pub left_to_land_without : (lane : Lane) (before behind : List Write) (k : ℕ) (field : Field)
    → AreLeftToLand lane.flagged lane.sent (before ++ Data k field ∷ behind) → AreLeftToLand lane.flagged lane.sent (before ++ behind)
left_to_land_without lane before behind k field h = elim h [
  | inl left ↦ inl (left_without (drop lane.flagged lane.sent) lane.flagged before behind k field left)
  | inr bell ↦
      let b = behind_bell before bell.0 behind (Data k field) cell_no_bell (sym bell.1) in
      inr (
        b.0 ++ behind,
        ap (λ w. w ++ behind) b.1,
        bell.2,
        left_without (drop lane.flagged lane.sent) lane.flagged b.0 behind k field (subst (AreLeft lane.flagged (drop lane.flagged lane.sent)) b.2 bell.3),
      )
]
  where
    cell_no_bell : Data k field ≡ Bell → ⊥
    cell_no_bell e = cc

-- a field that is left to land is one of an entry without flags
pub cell_to_land : (lane : Lane) (writes : List Write) (k : ℕ) (field : Field) → lane.flagged ≤ length lane.sent → AreLeftToLand lane.flagged lane.sent writes → Contains writes (Data k field)
    → (lane.flagged ≤ k) × (k < length lane.sent) × Contains (data_of k (entry_of lane k)) (Data k field)
cell_to_land lane writes k field first h among = elim h [
  | inl left ↦ at_entry writes left among
  | inr bell ↦ elim (contains_cases Bell bell.0 (Data k field) (subst (λ w. Contains w (Data k field)) bell.1 among)) [
    | inl e ↦ absurd (cc e)
    | inr later ↦ at_entry bell.0 bell.3 later
  ]
]
  where
    at_entry : (rest : List Write) → AreLeft lane.flagged (drop lane.flagged lane.sent) rest → Contains rest (Data k field)
        → (lane.flagged ≤ k) × (k < length lane.sent) × Contains (data_of k (entry_of lane k)) (Data k field)
    at_entry rest left in_rest =
        let c = cell_left (drop lane.flagged lane.sent) lane.flagged rest k field left in_rest in
        let d = length-drop lane.flagged lane.sent in
        let low : lane.flagged ≤ k = c.0 in
        let e : get_or (drop lane.flagged lane.sent) (k - lane.flagged) GoesDown ≡ entry_of lane k =
        get_or-drop lane.flagged lane.sent (k - lane.flagged) GoesDown ∙ ap (λ j. get_or lane.sent j GoesDown) (omega arith) in
        (low, omega arith, subst (λ entry. Contains (data_of k entry) (Data k field)) e c.2)

-- a step that changes the writes to come alone keeps the law where they still come in order, and no field is lost
pub other_writes_keep : (lost lost_now : List Write) (lost_back : List ℕ) (lane : Lane) (flight todo : List Write) → WritesCome lane.flagged lane.sent ((flight ++ lost_now) ++ todo) todo
    → (lane.up ≡ true → (lost_now ≡ []) × (lost_back ≡ []))
    → ((n : ℕ) (field : Field) → Contains ((lane.flight ++ lost) ++ lane.todo) (Data n field) → Contains ((flight ++ lost_now) ++ todo) (Data n field))
    → RingLaw lost lost_back lane → RingLaw lost_now lost_back (record lane { flight = flight; todo = todo })
other_writes_keep lost lost_now lost_back lane flight todo coming none still h =
    record {
      coming = coming;
      none_lost = none;
      standing = record {
        whole = h.standing.whole;
        empty = h.standing.empty;
        landed = λ n field low high among. elim (h.standing.landed n field low high among) [
          | inl comes ↦ inl (still n field comes)
          | inr stands ↦ inr stands
        ];
      };
      room = h.room;
      frames = h.frames;
      counts = h.counts;
      receiver = h.receiver;
      back = h.back;
    }
