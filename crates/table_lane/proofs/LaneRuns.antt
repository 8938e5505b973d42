-- Steps of a lane, made one after another, keep the law of its ring.
use Rattle.std.proofs.Common.{◌≡◌, ℕ, zero, suc, ◌+◌, ◌-◌, ◌%◌, ◌<◌, ◌≤◌, true, false, List, [], ◌∷◌, ◌++◌, length, map, set, refl, sym, subst, ap, ◌∙◌, inl, inr, append-nil, append_assoc, arith, get_or-set_same, if◌then◌else◌, length-set, replicate}
use Rattle.std.proofs.lemmas.List.{set-get_or, map-append}
use Rattle.std.proofs.lemmas.Bool.{cases_Bool, cond-true, cond-false, le-ltb}
use Rattle.table_lane.specs.LaneNames.{Entry, Write, Data, Flag, Bell, Field, Chunk, Length, Version, Slot, blank_slot, lane_slot_of, ring_with, with_field, data_of, version_of, bytes_of, Lane, entry_of, HoldsRingLaw, Copying, Copied, count_from, after_post, after_landing, after_copy, after_index}
use Rattle.table_lane.specs.LaneNames.{LaneStep, Begin, Post, Land, Look, Copy, Clear, Acknowledge, GiveBack, Cut, Drop, Leads, LaneRuns}
use Rattle.table_lane.specs.LaneSteps.{flag_steps, index_steps}
use Rattle.table_lane.proofs.LaneLaws.{chunks_in, more_to_copy, begin_keeps, post_keeps, land_data_keeps, land_flag_keeps, land_bell_keeps, look_keeps, copy_keeps, clear_keeps, ack_keeps, index_keeps, cut_keeps, drop_keeps}

-- one step keeps the law of the ring
leads_keep : (step : LaneStep) (before after : Lane) → Leads step before after → HoldsRingLaw before → HoldsRingLaw after
leads_keep (Begin entry) before after h law = subst (λ (l : Lane). HoldsRingLaw l) (sym h.4) (begin_keeps before entry h.0 h.1 h.2 h.3 law)
leads_keep Post before after h law = subst (λ (l : Lane). HoldsRingLaw l) (sym h.3) (post_keeps before h.0 h.1 h.2 law)
leads_keep (Land (Data n field)) before after h law = subst (λ (l : Lane). HoldsRingLaw l) (sym h.3) (land_data_keeps before n field h.0 h.1 h.2 law)
leads_keep (Land (Flag n)) before after h law = subst (λ (l : Lane). HoldsRingLaw l) (sym h.2) (land_flag_keeps before n h.0 h.1 law)
leads_keep (Land Bell) before after h law = subst (λ (l : Lane). HoldsRingLaw l) (sym h.2) (land_bell_keeps before h.0 h.1 law)
leads_keep Look before after h law = subst (λ (l : Lane). HoldsRingLaw l) (sym h.2) (look_keeps before h.0 h.1 law)
leads_keep Copy before after h law = subst (λ (l : Lane). HoldsRingLaw l) (sym h.1) (copy_keeps before h.0 law)
leads_keep Clear before after h law = subst (λ (l : Lane). HoldsRingLaw l) (sym h.1) (clear_keeps before h.0 law)
leads_keep Acknowledge before after h law = subst (λ (l : Lane). HoldsRingLaw l) (sym h.1) (ack_keeps before h.0 law)
leads_keep (GiveBack n) before after h law = subst (λ (l : Lane). HoldsRingLaw l) (sym h.2) (index_keeps before n h.0 h.1 law)
leads_keep Cut before after h law = subst (λ (l : Lane). HoldsRingLaw l) (sym h.1) (cut_keeps before law)
leads_keep Drop before after h law = subst (λ (l : Lane). HoldsRingLaw l) (sym h.1) (drop_keeps before h.0 law)

-- and so do steps, one after another
pub runs_keep : (steps : List LaneStep) (before after : Lane) → LaneRuns steps before after → HoldsRingLaw before → HoldsRingLaw after
runs_keep [] before after same law = subst (λ (l : Lane). HoldsRingLaw l) (sym same) law
runs_keep (step ∷ steps) before after runs law = runs_keep steps runs.0 after runs.2 (leads_keep step before runs.0 runs.1 law)

-- all writes that are left are posted
pub post_all : (writes : List Write) (lane : Lane) → lane.todo ≡ writes → lane.up ≡ true → LaneRuns (map (λ write. Post) writes) lane (record lane { todo = []; flight = lane.flight ++ writes })
post_all [] lane none up = λ i. record lane { todo = sym none i; flight = append-nil lane.flight i }
post_all (write ∷ writes) lane front up =
    let next : Lane = after_post lane write writes in
    let flight : (if lane.up then lane.flight ++ write ∷ [] else lane.flight) ++ writes ≡ lane.flight ++ write ∷ writes =
    ap (λ w. w ++ writes) (cond-true lane.up _ _ up) ∙ append_assoc lane.flight (write ∷ []) writes in
    (next, (write, writes, front, refl), subst (λ (f : List Write). LaneRuns (map (λ w. Post) writes) next (record lane { todo = []; flight = f })) flight (post_all writes next refl up))

-- the fields of an entry in the order of its writes
abbrev pub fields_of : Entry → List Field
fields_of entry = map Chunk (count_from 0 (chunks_in (length (bytes_of entry)))) ++ Length ∷ Version ∷ []

map_chunks : (n : ℕ) (parts : List ℕ) → map (λ part. Data n (Chunk part)) parts ≡ map (Data n) (map Chunk parts)
map_chunks n [] = refl
map_chunks n (part ∷ parts) = ap (λ w. Data n (Chunk part) ∷ w) (map_chunks n parts)

-- The writes of an entry before its flags are its fields in their order: chunks, length and version.
pub data_is_fields : (n : ℕ) (entry : Entry) → data_of n entry ≡ map (Data n) (fields_of entry)
data_is_fields n entry =
    let parts : List ℕ = count_from 0 (chunks_in (length (bytes_of entry))) in
    ap (λ w. w ++ Data n Length ∷ Data n Version ∷ []) (map_chunks n parts) ∙ sym (map-append (Data n) (map Chunk parts) (Length ∷ Version ∷ []))

-- a slot with these fields of entry n in it
abbrev pub with_fields : Slot → ℕ → Entry → List Field → Slot
with_fields slot n entry [] = slot
with_fields slot n entry (field ∷ fields) = with_fields (with_field slot n entry field) n entry fields

field_keeps_flags : (slot : Slot) (n : ℕ) (entry : Entry) (field : Field) → (with_field slot n entry field).flags ≡ slot.flags
field_keeps_flags slot n entry (Chunk part) = refl
field_keeps_flags slot n entry Length = refl
field_keeps_flags slot n entry Version = refl

-- Writing fields of an entry into a slot, however many, leaves the slot's flags as they were.
pub fields_keep_flags : (fields : List Field) (slot : Slot) (n : ℕ) (entry : Entry) → (with_fields slot n entry fields).flags ≡ slot.flags
fields_keep_flags [] slot n entry = refl
fields_keep_flags (field ∷ fields) slot n entry = fields_keep_flags fields (with_field slot n entry field) n entry ∙ field_keeps_flags slot n entry field

-- with its version last, the slot has the version of n
version_last : (fields : List Field) (slot : Slot) (n : ℕ) (entry : Entry) → (with_fields slot n entry (fields ++ Length ∷ Version ∷ [])).ver ≡ version_of n
version_last [] slot n entry = refl
version_last (field ∷ fields) slot n entry = version_last fields (with_field slot n entry field) n entry

-- A slot into which all fields of entry n were written has the version of n.
pub fields_give_version : (slot : Slot) (n : ℕ) (entry : Entry) → (with_fields slot n entry (fields_of entry)).ver ≡ version_of n
fields_give_version slot n entry = version_last (map Chunk (count_from 0 (chunks_in (length (bytes_of entry))))) slot n entry

set-set : {A : Type 0} (xs : List A) (i : ℕ) (a b : A) → set (set xs i a) i b ≡ set xs i b
set-set [] i a b = refl
set-set (x ∷ xs) zero a b = refl
set-set (x ∷ xs) (suc i) a b = ap (λ ys. x ∷ ys) (set-set xs i a b)

-- some fields of one entry, next to one another in the list, land
pub land_fields : (fields : List Field) (lane : Lane) (n : ℕ) (before behind : List Write) → lane.flight ≡ before ++ (map (Data n) fields ++ behind) → n % lane.entries < length lane.ring
    → LaneRuns (map Land (map (Data n) fields)) lane (record lane { flight = before ++ behind; ring = ring_with lane n (with_fields (lane_slot_of lane n) n (entry_of lane n) fields) })
land_fields [] lane n before behind front within = λ i. record lane { flight = sym front i; ring = set-get_or lane.ring (n % lane.entries) blank_slot i }
land_fields (field ∷ fields) lane n before behind front within =
    let others : List Write = map (Data n) fields ++ behind in
    let first : Slot = with_field (lane_slot_of lane n) n (entry_of lane n) field in
    let next : Lane = after_landing lane (Data n field) (before ++ others) in
    let at : ℕ = n % lane.entries in
    let rest = land_fields fields next n before behind refl (subst (λ (k : ℕ). at < k) (sym (length-set lane.ring at first)) within) in (
      next,
      (before, others, front, refl),
      subst (λ (slots : List Slot). LaneRuns (map Land (map (Data n) fields)) next (record lane { flight = before ++ behind; ring = slots }))
          (set-set lane.ring at first _ ∙ ap (λ (slot : Slot). set lane.ring at (with_fields slot n (entry_of lane n) fields)) (get_or-set_same lane.ring at first blank_slot within))
          rest,
    )

-- the flags of the first entry in flight land, and the doorbell after them
pub land_flag_and_bell : (lane : Lane) (n : ℕ) (rest : List Write) → lane.flight ≡ Flag n ∷ Bell ∷ rest → LaneRuns (flag_steps n) lane (record (after_landing lane (Flag n) rest) { flight = rest })
land_flag_and_bell lane n rest front = (after_landing lane (Flag n) (Bell ∷ rest), (Bell ∷ rest, front, refl), (after_landing (after_landing lane (Flag n) (Bell ∷ rest)) Bell rest, (rest, refl, refl), refl))

-- a copying receiver copies all parts
pub copy_all : (more : ℕ) (lane : Lane) → lane.phase ≡ Copying → chunks_in (length (bytes_of (entry_of lane lane.got))) ≤ lane.part + 1 + more
    → (further : ℕ) × (part : ℕ) × LaneRuns (Copy ∷ replicate further Copy) lane (record lane { part = part; got = lane.got + 1; phase = Copied })
copy_all zero lane copying enough =
    let last : more_to_copy lane ≡ false = le-ltb (lane.part + 1) (chunks_in (length (bytes_of (entry_of lane lane.got)))) (omega arith) in
    (0, lane.part, (after_copy lane, (copying, refl), sym (cond-false (more_to_copy lane) _ _ last)))
copy_all (suc more) lane copying enough = elim (cases_Bool (more_to_copy lane)) [
  | inl again ↦
      let next : Lane = record lane { part = lane.part + 1 } in
      let rest = copy_all more next copying (omega arith) in
      (suc rest.0, rest.1, (next, (copying, sym (cond-true (more_to_copy lane) _ _ again)), rest.2))
  | inr last ↦ (0, lane.part, (after_copy lane, (copying, refl), sym (cond-false (more_to_copy lane) _ _ last)))
]

-- index writes land, one after another
pub index_all : (more : ℕ) (lane : Lane) (freed : ℕ) → freed ≡ lane.freed + more → freed ≤ lane.acked → lane.up ≡ true → HoldsRingLaw lane
    → (returning : List ℕ) × (word : ℕ) × LaneRuns (index_steps lane.freed more) lane (record lane { returning = returning; freed = freed; index_word = word })
index_all zero lane freed is below up law =
    let same : freed ≡ lane.freed = omega arith in
    (lane.returning, lane.index_word, λ i. record lane { freed = same i })
index_all (suc more) lane freed is below up law =
    let none : law.1 ≡ [] = (law.2.none_lost up).1 in
    let all : lane.returning ≡ count_from lane.freed (lane.acked - lane.freed) = sym (append-nil lane.returning) ∙ ap (λ w. lane.returning ++ w) (sym none) ∙ law.2.back.returning in
    let left : lane.acked - lane.freed ≡ suc (lane.acked - lane.freed - 1) = omega arith in
    let rest : List ℕ = count_from (suc lane.freed) (lane.acked - lane.freed - 1) in
    let front : lane.returning ≡ lane.freed ∷ rest = all ∙ ap (count_from lane.freed) left in
    let next : Lane = after_index lane lane.freed rest in
    let run = index_all more next freed (omega arith) below up (index_keeps lane lane.freed rest front law) in
    let one : lane.freed + 1 ≡ suc lane.freed = omega arith in
    (run.0, run.1, (next, (rest, front, refl), subst (λ (from : ℕ). LaneRuns (index_steps from more) next (record lane { returning = run.0; freed = freed; index_word = run.1 })) one run.2))
