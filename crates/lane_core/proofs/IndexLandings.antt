-- Index writes that land: what their queue answers is what the model's lane answers, and the ring law holds after it.
use Rattle.std.proofs.Common.{◌≡◌, ℕ, inl, inr, ◌<◌, true, false, List, [], ◌∷◌, Some, None, length, map, option_map, slice_get, refl, sym, ap, ◌∙◌, subst, arith}
use Rattle.std.specs.List.{remove}
use Rattle.std.proofs.lemmas.Bool.{cond-true, cond-false}
use Rattle.std.proofs.lemmas.Option.{slice_get-map}
use Rattle.lane_model.specs.Law.{HoldsRingLaw}
use Rattle.lane_model.specs.Steps.{after_index}
use Rattle.lane_laws.proofs.Facade.{index_is_next, index_keeps}
use Rattle.posted_queue.specs.Flight.{Flight}
use Rattle.posted_queue.specs.Landing.{land_answer as queue_answer, flight_after_landing as queue_after}
use Rattle.posted_queue.specs.declared.LandAnswer.TheVariants.{Landed as QueueLanded, Blocked as QueueBlocked, Nothing as QueueNothing}
use Rattle.order_rules.specs.Order.{Order, may_land}
use Rattle.step_kinds.specs.declared.steps.Label.TheVariants.{Index}
use Rattle.lane_core.specs.Calls.{LaneValue, core_with_lane, index_order, may_land_index, land_index_answer, index_found, after_land_index, after_index_found}
use Rattle.lane_core.specs.LaneView.{lane_seen, value_seen}
use Rattle.lane_core.specs.declared.answers.LaneLand.{LaneLand}
use Rattle.lane_core.specs.declared.answers.LaneLand.TheVariants.{Landed, Blocked, Nothing}
use Rattle.lane_core.specs.declared.lane.Lane.TheInside.{Inside}
use Rattle.lane_core.specs.declared.write.IndexWrite.{IndexWrite}
use Rattle.lane_core.proofs.LandSteps.{was_landed, was_blocked, was_nothing, first_apart, past_the_end}
use Rattle.lane_core.proofs.OneClass.{relaxed_or_first}
use Rattle.lane_core.proofs.Parts.{map-remove}

abbrev pub number_of_write : IndexWrite → ℕ
number_of_write w = w.number

abbrev pub order_of_index : IndexWrite → Order
order_of_index w = index_order

-- the orders of index writes, as the queue has them and as the model has them
orders_seen : (writes : List IndexWrite) → map order_of_index writes ≡ map (λ n. index_order) (map number_of_write writes)
orders_seen [] = refl
orders_seen (w ∷ writes) = ap (λ orders. index_order ∷ orders) (orders_seen writes)

-- index writes are strict, so the first alone may land
is_first : (numbers : List ℕ) (place n : ℕ) → slice_get numbers place ≡ Some n → may_land (map (λ m. index_order) numbers) place ≡ true → place ≡ 0
is_first numbers place n found may = elim (relaxed_or_first (λ m. index_order) 0 numbers place n (λ m. refl) found may) [
  | inl e ↦ omega (arith, e)
  | inr first ↦ first
]

-- what is known of a lane where the queue answers that an index write landed
pub record HasReturned (l : Inside) (place n : ℕ) (returning : Flight IndexWrite) : Type 0 where
  pub answer : land_index_answer (value_seen l) place ≡ Landed (Index l.queue n)
  pub after : after_land_index (lane_seen l) place ≡ after_index (lane_seen l) n (map number_of_write returning.writes)
  pub law : HoldsRingLaw (after_index (lane_seen l) n (map number_of_write returning.writes))
  pub begun : n < length (lane_seen l).sent
  pub spare : returning.spare ≡ l.returning.spare

-- An index write that the flight lets land lands in the model's lane too, and the law of the ring holds after it.
pub has_returned : (l : Inside) (place : ℕ) (write : IndexWrite) (returning : Flight IndexWrite) → QueueLanded write ≡ queue_answer order_of_index l.returning place
    → returning ≡ queue_after order_of_index l.returning place → HoldsRingLaw (lane_seen l) → HasReturned l place write.number returning
has_returned l place write returning answer after law =
    let lane = lane_seen l in
    let n = write.number in
    let was = was_landed _ _ write answer in
    let found : slice_get lane.returning place ≡ Some n = slice_get-map number_of_write l.returning.writes place ∙ ap (option_map number_of_write) was.0 in
    let may : may_land_index lane place ≡ true = ap (λ orders. may_land orders place) (sym (orders_seen l.returning.writes)) ∙ was.1 in
    let now = after ∙ cond-true _ _ _ was.1 in
    let numbers : map number_of_write returning.writes ≡ remove lane.returning place =
    ap (λ (f : Flight IndexWrite). map number_of_write f.writes) now ∙ map-remove number_of_write l.returning.writes place in
    let first : place ≡ 0 = is_first lane.returning place n found may in
    let front : lane.returning ≡ n ∷ remove lane.returning 0 = first_apart lane.returning n (ap (slice_get lane.returning) (sym first) ∙ found) in
    let next = index_is_next lane n (remove lane.returning 0) front law in
    let rest : remove lane.returning 0 ≡ map number_of_write returning.writes = ap (remove lane.returning) (sym first) ∙ sym numbers in
    let h = law.2 in
    record {
      answer = ap (index_found (value_seen l) place) found ∙ cond-true _ _ _ may;
      after = ap (after_index_found lane place) found ∙ cond-true _ _ _ may ∙ ap (after_index lane n) (sym numbers);
      law = subst (λ (ns : List ℕ). HoldsRingLaw (after_index lane n ns)) rest (index_keeps lane n (remove lane.returning 0) front law);
      begun = omega (arith, next.1, h.counts.acked_first, h.counts.cleared_first, h.counts.got_first, h.counts.flagged_first);
      spare = ap (λ (f : Flight IndexWrite). f.spare) now;
    }

-- Once an index write has landed, the answer with its label is the one that the model's lane gives.
pub returned_answer : {l : Inside} {place n : ℕ} {returning : Flight IndexWrite} {value : LaneValue} → HasReturned l place n returning → value_seen l ≡ value → Landed (Index l.queue n) ≡ land_index_answer value place
returned_answer {l = l} {place = place} {n = n} landed seen = subst (λ (value : LaneValue). Landed (Index l.queue n) ≡ land_index_answer value place) seen (sym landed.answer)

-- where it answers that none stands at the place, or that one is blocked, nothing changes, and the lane answers the
-- same
pub record IsUnmoved (l : Inside) (place : ℕ) (returning : Flight IndexWrite) (answer : LaneLand) : Type 0 where
  pub same : returning ≡ l.returning
  pub after : after_land_index (lane_seen l) place ≡ lane_seen l
  pub answers : land_index_answer (value_seen l) place ≡ answer

-- If the flight has no index write at the place, it stays the same and the model's lane answers `Nothing`.
pub none_returned : (l : Inside) (place : ℕ) (returning : Flight IndexWrite) → QueueNothing ≡ queue_answer order_of_index l.returning place → returning ≡ queue_after order_of_index l.returning place → IsUnmoved l place returning Nothing
none_returned l place returning answer after =
    let was = was_nothing _ _ answer in
    let found : slice_get (lane_seen l).returning place ≡ None = slice_get-map number_of_write l.returning.writes place ∙ ap (option_map number_of_write) was in
    record {
      same = after ∙ cond-false _ _ _ (past_the_end order_of_index l.returning.writes place was);
      after = ap (after_index_found (lane_seen l) place) found;
      answers = ap (index_found (value_seen l) place) found;
    }

-- If the flight says that an index write is blocked, it stays the same and the model's lane answers `Blocked`.
pub blocked_return : (l : Inside) (place : ℕ) (returning : Flight IndexWrite) → QueueBlocked ≡ queue_answer order_of_index l.returning place → returning ≡ queue_after order_of_index l.returning place → IsUnmoved l place returning Blocked
blocked_return l place returning answer after =
    let was = was_blocked _ _ answer in
    let found : slice_get (lane_seen l).returning place ≡ Some was.0.number = slice_get-map number_of_write l.returning.writes place ∙ ap (option_map number_of_write) was.1 in
    let waits : may_land_index (lane_seen l) place ≡ false = ap (λ orders. may_land orders place) (sym (orders_seen l.returning.writes)) ∙ was.2 in
    record {
      same = after ∙ cond-false _ _ _ was.2;
      after = ap (after_index_found (lane_seen l) place) found ∙ cond-false _ _ _ waits;
      answers = ap (index_found (value_seen l) place) found ∙ cond-false _ _ _ waits;
    }

-- so contracts see the answer and the lane of the model
pub unmoved_answer : {l : Inside} {place : ℕ} {returning : Flight IndexWrite} {answer : LaneLand} {value : LaneValue} → IsUnmoved l place returning answer → value_seen l ≡ value → answer ≡ land_index_answer value place
unmoved_answer {place = place} {answer = answer} still seen = subst (λ (value : LaneValue). answer ≡ land_index_answer value place) seen (sym still.answers)

-- If no index write landed, the lane that contracts see is the model's after the landing.
pub unmoved_after : {l : Inside} {place : ℕ} {returning : Flight IndexWrite} {answer : LaneLand} {value : LaneValue} → IsUnmoved l place returning answer → value_seen l ≡ value
    → value_seen (record l { returning = returning }) ≡ core_with_lane value (after_land_index value.lane place)
unmoved_after {l = l} {place = place} still seen =
    rw still.same (subst (λ (value : LaneValue). value_seen l ≡ core_with_lane value (after_land_index value.lane place)) seen (ap (core_with_lane (value_seen l)) (sym still.after)))
