-- Whenever the receiver of a lane is up, the law of the ring holds of the lane; whenever the sender is, the index word
-- is the tail.
use Rattle.std.proofs.Common.{◌≡◌, ℕ, ◌*◌, ◌/◌, ◌<◌, ◌≤◌, Bool, true, false, List, length, replicate, refl, sym, ap, ◌∙◌, subst, inl, inr, arith}
use Rattle.std.specs.Prelude.{slice_index_or}
use Rattle.std.proofs.Math.Nat.{le-div_iff_mul-le, min-le_right, div-mul-le_self}
use Rattle.std.proofs.Math.ListN.{get_or-eq_default}
use Rattle.std.proofs.lemmas.Bool.{cases_lt, false≢true}
use Rattle.std.proofs.lemmas.List.{length-replicate, get_or-replicate}
use Rattle.step_kinds.specs.declared.names.LaneName.{LaneName}
use Rattle.step_kinds.specs.declared.names.Side.{Side}
use Rattle.step_kinds.specs.declared.names.Side.TheVariants.{A, B}
use Rattle.step_kinds.specs.declared.plan.PairPlan.{PairPlan}
use Rattle.step_kinds.specs.declared.plan.Plan.{Plan}
use Rattle.lane_model.specs.Lane.{blank_slot}
use Rattle.lane_model.specs.Law.{HoldsRingLaw}
use Rattle.ring_geometry.specs.Geometry.{Layout, HasRing, ring_bytes, frame_size, entries_of}
use Rattle.ledger_model.specs.LinkSteps.{fresh_lane}
use Rattle.ledger_model.specs.Log.{Answered, ledger_of}
use Rattle.ledger_model.specs.Rings.{RingPart, zeroed_slot, fresh_ring, ring_of, shown_lane}
use Rattle.pair_model.specs.Plans.{pair_plan}
use Rattle.pair_model.specs.Sizes.{Sizes, layout_of, sizes_of}
use Rattle.ledger_laws.specs.Laws.{IsOrdinaryOn}
use Rattle.ledger_laws.specs.Rings.{RingLawOfReceiver, IndexWordIsTail, RingLawHolds}
use Rattle.ledger_laws.proofs.EntriesFit.{EntriesKnown, entries_run}
use Rattle.ledger_laws.proofs.FreshLanes.{SidesKnown, started, sides_run}
use Rattle.ledger_laws.proofs.RingOfLane.{IsSized, LawOf, WordOf, law_at_start, tail_at_start, law_kept, word_kept, sized_kept}
use Rattle.ledger_laws.proofs.walk.Logs.{HoldsOn, holds_after}
use Rattle.ledger_laws.proofs.walk.Sight.{Sight, sight}
use Rattle.ledger_laws.proofs.walk.Turn.{IsRaw, SizesOf}

-- what holds of a lane and of its ring after each log
pub record RingKnown (plan : Plan) (lane : LaneName) (log : List Answered) (s : Sight) (ring : RingPart) : Type 0 where
  pub sides : SidesKnown lane.queue s
  pub entries : EntriesKnown plan lane log s
  sized : IsSized (SizesOf plan lane) ring.ring
  law : LawOf (SizesOf plan lane) lane.queue s ring
  word : WordOf (SizesOf plan lane) s ring

-- The start

fresh_slot : (entries largest k : ℕ) → k < entries → slice_index_or (replicate entries (zeroed_slot largest)) k blank_slot ≡ zeroed_slot largest
fresh_slot entries largest k below = get_or-replicate entries k (zeroed_slot largest) blank_slot below

fresh_sized : (sizes : Sizes) (up : Bool) → IsSized sizes (fresh_ring sizes up).ring
fresh_sized sizes up = record {
  slots = length-replicate sizes.entries (zeroed_slot sizes.largest);
  rooms = λ k below. ap (λ slot. length slot.payload) (fresh_slot sizes.entries sizes.largest k below) ∙ length-replicate sizes.largest 0;
}

no_flags_yet : (sizes : Sizes) (k : ℕ) → (slice_index_or (replicate sizes.entries (zeroed_slot sizes.largest)) k blank_slot).flags ≡ 0
no_flags_yet sizes k = elim (cases_lt k sizes.entries) [
  | inl below ↦ ap (λ slot. slot.flags) (fresh_slot sizes.entries sizes.largest k below)
  | inr past ↦
      let all = length-replicate sizes.entries (zeroed_slot sizes.largest) in
      ap (λ slot. slot.flags) (get_or-eq_default (replicate sizes.entries (zeroed_slot sizes.largest)) blank_slot (omega arith))
]

law_fresh : (sizes : Sizes) (plan : PairPlan) (from : Side) (q : ℕ) (up : Bool) → 2 ≤ sizes.entries → LawOf sizes q (sight from q (started plan up)) (fresh_ring sizes up)
law_fresh sizes plan A q true two here =
    law_at_start sizes q true _ _ fresh_lane (fresh_ring sizes true) two (fresh_sized sizes true) (record { fresh = refl; no_writes = refl; no_indexes = refl }) (no_flags_yet sizes)
law_fresh sizes plan B q true two here =
    law_at_start sizes q true _ _ fresh_lane (fresh_ring sizes true) two (fresh_sized sizes true) (record { fresh = refl; no_writes = refl; no_indexes = refl }) (no_flags_yet sizes)
law_fresh sizes plan A q false two here = absurd (false≢true here)
law_fresh sizes plan B q false two here = absurd (false≢true here)

word_fresh : (sizes : Sizes) (plan : PairPlan) (from : Side) (q : ℕ) (up : Bool) → 2 ≤ sizes.entries → WordOf sizes (sight from q (started plan up)) (fresh_ring sizes up)
word_fresh sizes plan A q true two here = tail_at_start sizes.entries two
word_fresh sizes plan B q true two here = tail_at_start sizes.entries two
word_fresh sizes plan A q false two here = absurd (false≢true here)
word_fresh sizes plan B q false two here = absurd (false≢true here)

-- Each run

-- A queue's area that has room for a ring has room for at least two entries.
pub two_entries : (l : Layout) → HasRing l → 2 ≤ entries_of l
two_entries l h =
    let some : 0 < frame_size l = omega (arith, h.header_fits) in
    let half : frame_size l ≤ ring_bytes l / 2 = min-le_right l.mtu (ring_bytes l / 2) in
    let halves : ring_bytes l / 2 * 2 ≤ ring_bytes l = div-mul-le_self (ring_bytes l) 2 in
    (le-div_iff_mul-le {k = frame_size l} {x = 2} {y = ring_bytes l} some).1 (omega arith)

-- On an ordinary pair the facts of a lane's ring of two slots or more hold at the start and by each ordinary step.
pub ring_runs : (plan : Plan) (lane : LaneName) → 2 ≤ (SizesOf plan lane).entries → IsRaw plan lane ≡ false → HoldsOn plan lane (IsOrdinaryOn lane.pair) (RingKnown plan lane)
ring_runs plan lane two no_raw = record {
  fresh = record {
    sides = (sides_run plan lane no_raw).fresh;
    entries = (entries_run plan lane no_raw).fresh;
    sized = fresh_sized (SizesOf plan lane) own.up;
    law = law_fresh (SizesOf plan lane) own lane.from lane.queue own.up two;
    word = word_fresh (SizesOf plan lane) own lane.from lane.queue own.up two;
  };
  turns = λ log s ring made news t ordinary tells turn h.
      let entries = (entries_run plan lane no_raw).turns log s made news t tells turn h.entries in
      subst (RingKnown plan lane _ t) (sym (tells.ring (SizesOf plan lane) ring)) (record {
        sides = (sides_run plan lane no_raw).turns log s ring made news t ordinary tells turn h.sides;
        entries = entries;
        sized = sized_kept plan lane s made news t ring two turn h.sides h.law h.sized;
        law = law_kept plan lane s made news t ring two no_raw turn h.sides h.entries.fits entries.leaves h.sized h.law;
        word = word_kept plan lane s made news t ring two no_raw turn h.sides h.word;
      });
}
  where
    own : PairPlan
    own = pair_plan plan lane.pair

-- The laws

-- On an ordinary pair the law of the ring holds of a lane while its receiver is up, with the tail for index word.
pub ring_law_of_receiver : RingLawOfReceiver
ring_law_of_receiver plan memories steps name no_raw ordinary has_ring up =
    let two = two_entries (layout_of (pair_plan plan name.pair) name.from name.queue) has_ring in
    (holds_after plan name (IsOrdinaryOn name.pair) _ (ring_runs plan name two no_raw) memories steps ordinary).law up

-- On an ordinary pair the index word is the tail of the entries given back while the sender's side is up.
pub index_word_is_tail : IndexWordIsTail
index_word_is_tail plan memories steps name no_raw ordinary has_ring up =
    let two = two_entries (layout_of (pair_plan plan name.pair) name.from name.queue) has_ring in
    (holds_after plan name (IsOrdinaryOn name.pair) _ (ring_runs plan name two no_raw) memories steps ordinary).word up

-- On an ordinary pair the law of the ring holds of each lane that has a ring while both sides are up.
pub ring_law_holds : RingLawHolds
ring_law_holds plan memories steps name no_raw ordinary has_ring sender_up receiver_up =
    let pair = pair_plan plan name.pair in
    let now = ledger_of plan memories steps name.pair in
    let ring = ring_of plan memories steps name in
    subst (λ word. HoldsRingLaw (shown_lane (sizes_of pair name.from name.queue) now (record { ring = ring.ring; index_word = word }) name.from name.queue))
    (sym (index_word_is_tail plan memories steps name no_raw ordinary has_ring sender_up))
    (ring_law_of_receiver plan memories steps name no_raw ordinary has_ring receiver_up)
