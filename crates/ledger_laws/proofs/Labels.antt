-- Labels and the writes of a lane that they mean.
use Rattle.std.proofs.Common.{◌≡◌, ℕ, ◌==◌, Bool, true, false, Option, Some, None, List, [], ◌∷◌, map, refl, sym, ap, ◌∙◌, inl, inr}
use Rattle.std.specs.Prelude.{if◌then◌else◌, slice_index}
use Rattle.std.specs.List.{filter_map, cons_option}
use Rattle.std.proofs.lemmas.Bool.{eq-eqb, eqb-true, cases_Bool, cond-false}
use Rattle.std.proofs.lemmas.Option.{none-some, same_Some}
use Rattle.step_kinds.specs.declared.steps.Label.{Label}
use Rattle.step_kinds.specs.declared.steps.Label.TheVariants.{Chunk, Len, Ver, Flag, Down, Bell, Index, Pad}
use Rattle.lane_model.specs.Lane.{Entry, Carries, GoesDown, writes_of}
use Rattle.lane_model.specs.declared.Field.TheVariants.{Chunk as PayloadChunk, Length, Version}
use Rattle.lane_model.specs.declared.Write.{Write}
use Rattle.lane_model.specs.declared.Write.TheVariants.{Data, Flag as EntryFlag, Bell as QueueBell}
use Rattle.ledger_model.specs.Labels.{label_of, labels_of, write_of, label_index_of, writes_among}
use Rattle.order_rules.specs.Order.{strict}
use Rattle.pair_model.specs.Orders.{classes_of, kind_of, order_of}
use Rattle.step_kinds.specs.declared.names.Side.{Side}
use Rattle.step_kinds.specs.declared.plan.PairPlan.{PairPlan}

-- a lane's label means the write whose label it is
pub write_of-label : (q : ℕ) (entry : Entry) (write : Write) → write_of q (label_of q entry write) ≡ Some write
write_of-label q entry (Data n (PayloadChunk part)) = rw (eq-eqb q q refl) refl
write_of-label q entry (Data n Length) = rw (eq-eqb q q refl) refl
write_of-label q entry (Data n Version) = rw (eq-eqb q q refl) refl
write_of-label q (Carries bytes left) (EntryFlag n) = rw (eq-eqb q q refl) refl
write_of-label q GoesDown (EntryFlag n) = rw (eq-eqb q q refl) refl
write_of-label q entry QueueBell = rw (eq-eqb q q refl) refl

filter_map-back : {X Y : Type 0} (f : X → Y) (h : Y → Option X) → ((x : X) → h (f x) ≡ Some x) → (xs : List X) → filter_map h (map f xs) ≡ xs
filter_map-back f h back [] = refl
filter_map-back f h back (x ∷ xs) =
    ap (λ o. cons_option o (filter_map h (map f xs))) (back x) ∙ ap (λ rest. x ∷ rest) (filter_map-back f h back xs)

-- The labels of an entry's writes, read on their queue, are the entry's writes in order.
pub writes_among-labels : (q n : ℕ) (entry : Entry) → writes_among q (labels_of q n entry) ≡ writes_of n entry
writes_among-labels q n entry = filter_map-back (label_of q entry) (write_of q) (write_of-label q entry) (writes_of n entry)

-- flags, doorbells and index writes pass no other write of their class
pub bell_strict : (strict_pair : Bool) (q : ℕ) → kind_of strict_pair (Bell q) ≡ strict
bell_strict true q = refl
bell_strict false q = refl

-- An index write is strict on every pair.
pub index_strict : (strict_pair : Bool) (q n : ℕ) → kind_of strict_pair (Index q n) ≡ strict
index_strict true q n = refl
index_strict false q n = refl

no_flag : {n : ℕ} (b : Bool) (write : Write) → (write ≡ EntryFlag n → ⊥) → {X : Type 0} → (if b then Some write else None) ≡ Some (EntryFlag n) → X
no_flag true write ne e = absurd (ne (same_Some _ _ e))
no_flag false write ne e = absurd (none-some _ e)

-- A label that means the flags of an entry is strict on every pair.
pub flag_strict : (q : ℕ) (strict_pair : Bool) (label : Label) (n : ℕ) → write_of q label ≡ Some (EntryFlag n) → kind_of strict_pair label ≡ strict
flag_strict q true label n is = refl
flag_strict q false (Chunk p m part) n is = no_flag (p == q) (Data m (PayloadChunk part)) (λ e. cc) is
flag_strict q false (Len p m) n is = no_flag (p == q) (Data m Length) (λ e. cc) is
flag_strict q false (Ver p m) n is = no_flag (p == q) (Data m Version) (λ e. cc) is
flag_strict q false (Flag p m) n is = refl
flag_strict q false (Down p m) n is = refl
flag_strict q false (Bell p) n is = refl
flag_strict q false (Index p m) n is = refl
flag_strict q false (Pad i value) n is = refl
flag_strict q false label n is = absurd (none-some _ is)

-- All writes of a lane in one direction have one class: that of its queue

queue_is : {X : Type 0} (p q : ℕ) (x y : X) → (if p == q then Some x else None) ≡ Some y → p ≡ q
queue_is p q x y e = elim (cases_Bool (p == q)) [
  | inl is ↦ eqb-true p q is
  | inr isnt ↦ absurd (none-some y (sym (cond-false (p == q) (Some x) None isnt) ∙ e))
]

write_class : (own : PairPlan) (side : Side) (q : ℕ) (label : Label) (write : Write) → write_of q label ≡ Some write → (order_of own side label).class ≡ slice_index (classes_of own side) q
write_class own side q (Chunk p n part) write e = ap (slice_index (classes_of own side)) (queue_is p q _ write e)
write_class own side q (Len p n) write e = ap (slice_index (classes_of own side)) (queue_is p q _ write e)
write_class own side q (Ver p n) write e = ap (slice_index (classes_of own side)) (queue_is p q _ write e)
write_class own side q (Flag p n) write e = ap (slice_index (classes_of own side)) (queue_is p q _ write e)
write_class own side q (Down p n) write e = ap (slice_index (classes_of own side)) (queue_is p q _ write e)
write_class own side q (Bell p) write e = ap (slice_index (classes_of own side)) (queue_is p q _ write e)
write_class own side q label write e = absurd (none-some write e)

index_class : (own : PairPlan) (side : Side) (q : ℕ) (label : Label) (n : ℕ) → label_index_of q label ≡ Some n → (order_of own side label).class ≡ slice_index (classes_of own side) q
index_class own side q (Index p m) n e = ap (slice_index (classes_of own side)) (queue_is p q m n e)
index_class own side q label n e = absurd (none-some n e)

-- what is read of labels is read of those of one class alone
abbrev pub ReadsOneClass : {Y : Type 0} → (Label → Option Y) → PairPlan → Side → Label → Type 0
ReadsOneClass {Y} read own side label = (other : Label) (y : Y) → read other ≡ Some y → (order_of own side other).class ≡ (order_of own side label).class

-- All writes that a side posts of a queue's lane have one traffic class.
pub writes_one_class : (own : PairPlan) (side : Side) (q : ℕ) (label : Label) (write : Write) → write_of q label ≡ Some write → ReadsOneClass (write_of q) own side label
writes_one_class own side q label write is other y some = write_class own side q other y some ∙ sym (write_class own side q label write is)

-- All index writes that a side posts on a queue have one traffic class.
pub indexes_one_class : (own : PairPlan) (side : Side) (q : ℕ) (label : Label) (n : ℕ) → label_index_of q label ≡ Some n → ReadsOneClass (label_index_of q) own side label
indexes_one_class own side q label n is other y some = index_class own side q other y some ∙ sym (index_class own side q label n is)
