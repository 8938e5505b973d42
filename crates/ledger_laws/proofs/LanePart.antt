-- What may land among all that a side has in flight may land among the writes of its lane, which are of one class.
use Rattle.std.proofs.Common.{◌≡◌, ℕ, zero, suc, ◌==◌, ◌&&◌, ◌||◌, Bool, true, false, not, Option, Some, None, List, [], ◌∷◌, map, take, refl, sym, ap, ◌∙◌, subst}
use Rattle.std.specs.Prelude.{if◌then◌else◌, length, slice_get, remove}
use Rattle.std.specs.List.{filter_map, cons_option, list_all}
use Rattle.std.proofs.lemmas.Bool.{and_parts, eq-eqb}
use Rattle.std.proofs.lemmas.Option.{none-some, same_Some}
use Rattle.step_kinds.specs.declared.names.Side.{Side}
use Rattle.step_kinds.specs.declared.plan.PairPlan.{PairPlan}
use Rattle.step_kinds.specs.declared.steps.Label.{Label}
use Rattle.step_kinds.specs.declared.steps.Label.TheVariants.{Chunk, Len, Ver, Flag, Down, Bell, Index}
use Rattle.lane_model.specs.declared.Write.{Write}
use Rattle.ledger_model.specs.Labels.{write_of, label_index_of}
use Rattle.order_rules.specs.Order.{Order, lands_behind, passes, relaxed, strict}
use Rattle.pair_model.specs.Orders.{kind_of, order_of}
use Rattle.ledger_laws.specs.Landing.{kind_of_write, by_kind, LandsInPart, LanePartLands}
use Rattle.ledger_laws.proofs.InFlight.{get-map}
use Rattle.ledger_laws.proofs.Labels.{ReadsOneClass, writes_one_class, indexes_one_class}

module _ {Y : Type 0} (read : Label → Option Y) (kind : Y → ℕ) (plan : PairPlan) (side : Side) (label : Label) (own : Y) (is : read label ≡ Some own)
    (one_class : ReadsOneClass read plan side label) (kinds : (other : Label) (y : Y) → read other ≡ Some y → kind_of plan.strict other ≡ kind y) where
  abbrev own_order : Y → Order
  own_order y = by_kind (kind y)

  -- what stands at a place of the part, what it passes, and what is left
  record InPart (whole left before : List Y) : Type 0 where
    stands : slice_get whole (length before) ≡ Some own
    passed : list_all (passes (own_order own)) (take (length before) (map own_order whole)) ≡ true
    leaves : left ≡ remove whole (length before)

  -- a write of the lane is passed by its kind, as it has the same class
  passes_own : (other : Label) (y : Y) → read other ≡ Some y → passes (order_of plan side label) (order_of plan side other) ≡ true → passes (own_order own) (own_order y) ≡ true
  passes_own other y some pass =
      let here = (order_of plan side label).class in
      let there = (order_of plan side other).class in
      ap (λ k. (k == relaxed) || false) (sym (kinds label own is))
      ∙ ap (λ b. (kind_of plan.strict label == relaxed) || not b) (sym (eq-eqb here there (sym (one_class other y some)))) ∙ pass

  behind : (x : Label) (whole left before : List Y) (o : Option Y) → read x ≡ o → passes (order_of plan side label) (order_of plan side x) ≡ true → InPart whole left before
      → InPart (cons_option o whole) (cons_option o left) (cons_option o before)
  behind x whole left before None e pass h = h
  behind x whole left before (Some y) e pass h = record {
    stands = h.stands;
    passed = subst (λ b. (b && list_all (passes (own_order own)) (take (length before) (map own_order whole))) ≡ true) (sym (passes_own x y e pass)) h.passed;
    leaves = ap (λ rest. y ∷ rest) h.leaves;
  }

  in_part : (xs : List Label) (place : ℕ) → slice_get xs place ≡ Some label → list_all (passes (order_of plan side label)) (take place (map (order_of plan side) xs)) ≡ true
      → InPart (filter_map read xs) (filter_map read (remove xs place)) (filter_map read (take place xs))
  in_part [] place at all = absurd (none-some label at)
  in_part (x ∷ xs) zero at all =
      subst (λ o. InPart (cons_option o (filter_map read xs)) (filter_map read xs) []) (sym (ap read (same_Some x label at) ∙ is)) (record { stands = refl; passed = refl; leaves = refl })
  in_part (x ∷ xs) (suc place) at all =
      let parts = and_parts (passes (order_of plan side label) (order_of plan side x)) (list_all (passes (order_of plan side label)) (take place (map (order_of plan side) xs))) all in
      behind x _ _ _ (read x) refl parts.0 (in_part xs place at parts.1)

  lands_in : (flight : List Label) (place : ℕ) → slice_get flight place ≡ Some label → lands_behind (slice_get (map (order_of plan side) flight) place) (take place (map (order_of plan side) flight)) ≡ true
      → LandsInPart read kind flight place own
  lands_in flight place at may =
      let before = take place (map (order_of plan side) flight) in
      let known = in_part flight place at (subst (λ found. lands_behind found before ≡ true) (get-map (order_of plan side) flight place label at) may) in
      let part = filter_map read flight in
      let among = length (filter_map read (take place flight)) in
      record {
        stands = known.stands;
        lands = subst (λ found. lands_behind found (take among (map own_order part)) ≡ true) (sym (get-map own_order part among own known.stands)) known.passed;
        leaves = known.leaves;
      }

-- the kinds of a lane's writes are those of their labels

means : (b : Bool) (meant write : Write) (k : ℕ) → k ≡ kind_of_write false meant → (if b then Some meant else None) ≡ Some write → k ≡ kind_of_write false write
means true meant write k is some = is ∙ ap (kind_of_write false) (same_Some meant write some)
means false meant write k is some = absurd (none-some write some)

write_kind : (strict_pair : Bool) (q : ℕ) (label : Label) (write : Write) → write_of q label ≡ Some write → kind_of strict_pair label ≡ kind_of_write strict_pair write
write_kind true q label write some = refl
write_kind false q (Chunk p n part) write some = means (p == q) _ write _ refl some
write_kind false q (Len p n) write some = means (p == q) _ write _ refl some
write_kind false q (Ver p n) write some = means (p == q) _ write _ refl some
write_kind false q (Flag p n) write some = means (p == q) _ write _ refl some
write_kind false q (Down p n) write some = means (p == q) _ write _ refl some
write_kind false q (Bell p) write some = means (p == q) _ write _ refl some
write_kind false q label write some = absurd (none-some write some)

index_kind : (strict_pair : Bool) (q : ℕ) (label : Label) (n : ℕ) → label_index_of q label ≡ Some n → kind_of strict_pair label ≡ strict
index_kind true q label n some = refl
index_kind false q (Index p m) n some = refl
index_kind false q label n some = absurd (none-some n some)

-- A write that may land among all that a side has in flight may land in its lane's part, by the kinds alone.
pub lane_part_lands : LanePartLands
lane_part_lands plan side q flight place label at may = record {
  write = λ own is. lands_in (write_of q) (kind_of_write plan.strict) plan side label own is (writes_one_class plan side q label own is) (write_kind plan.strict q) flight place at may;
  index = λ n is. lands_in (label_index_of q) (λ n. strict) plan side label n is (indexes_one_class plan side q label n is) (index_kind plan.strict q) flight place at may;
}
