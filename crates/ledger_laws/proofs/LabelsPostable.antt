-- Each label in flight is one that its side can post by steps that the plan permits.
use Rattle.std.proofs.Common.{◌≡◌, ℕ, ◌<◌, ◌≤◌, ◌==◌, Bool, true, false, not, Option, Some, None, List, [], ◌∷◌, ◌++◌, length, refl, sym, ap, ◌∙◌, subst, inl, inr, arith}
use Rattle.std.specs.Prelude.{if◌then◌else◌, nat_lt, slice_get}
use Rattle.std.specs.List.{AllByRecursion, list_all}
use Rattle.std.proofs.lemmas.Bool.{false≢true, cases_Bool, and_parts, eqb-true, ltb-true, cond-false}
use Rattle.std.proofs.lemmas.Option.{none-some}
use Rattle.step_kinds.specs.Bits.{with_bit}
use Rattle.step_kinds.specs.Subject.{subject_of}
use Rattle.step_kinds.specs.Sides.{other_side}
use Rattle.step_kinds.specs.declared.names.Side.{Side}
use Rattle.step_kinds.specs.declared.names.Side.TheVariants.{A, B}
use Rattle.step_kinds.specs.declared.plan.PairPlan.{PairPlan}
use Rattle.step_kinds.specs.declared.plan.Plan.{Plan}
use Rattle.step_kinds.specs.declared.steps.Answer.{Answer}
use Rattle.step_kinds.specs.declared.steps.Label.{Label}
use Rattle.step_kinds.specs.declared.steps.Label.TheVariants.{Chunk, Len, Ver, Flag, Down, Bell, Index, Pad, Raw}
use Rattle.step_kinds.specs.declared.steps.Step.{Step}
use Rattle.step_kinds.specs.declared.steps.Step.TheVariants.{Enable, Train, Break, DropDone, Clean, Offer, Check, Ready, Join, Begin, QpDown, Xbegin, Post, Land, Look, Copy, Clear, Ack, Wake, Irq, Mask, Unmask, Spad, Poke}
use Rattle.pair_model.specs.Headers.{Bytes, Found, ALinkDownEntry, AnEntry}
use Rattle.ledger_model.specs.Labels.{labels_of}
use Rattle.ledger_model.specs.Ledger.{LanePart, SidePart, PairPart, side_of, lane_of, lane_to, link_up, with_side_part, with_lane, posts, posts_raw}
use Rattle.ledger_model.specs.LinkSteps.{emptied_side, cleaned_side}
use Rattle.ledger_model.specs.Next.{read_next}
use Rattle.ledger_model.specs.Outcome.{Outcome, decided}
use Rattle.ledger_model.specs.Reading.{Reading, reading_of}
use Rattle.ledger_model.specs.Receiving.{lands_on, taken_out, land_found, look_at}
use Rattle.ledger_model.specs.Sending.{with_next, posts_through}
use Rattle.pair_model.specs.Both.{at_side}
use Rattle.pair_model.specs.DeclaredPlans.{IsPair, IsPermitted, IsPoke}
use Rattle.pair_model.specs.Plans.{pair_plan, side_plan}
use Rattle.ledger_laws.specs.States.{IsPostable, LabelsArePostable}
use Rattle.ledger_laws.proofs.AtStart.{fresh-flight}
use Rattle.ledger_laws.proofs.EntriesFit.{all_push}
use Rattle.ledger_laws.proofs.LabelsOfEntries.{all_remove}
use Rattle.ledger_laws.proofs.Offers.{is_offer, offer_of, offer-good}
use Rattle.ledger_laws.proofs.PairStates.{HoldsOfPair, pair_after, landing_cases}
use Rattle.ledger_laws.proofs.walk.Cases.{enable_cases, train_cases, break_cases, drop_cases, clean_cases, offer_cases, next_offer, ready_cases, readied, ready_pad, post_cases, copy_cases, ack_cases, acking}
use Rattle.ledger_laws.proofs.walk.Logs.{OwnTodos}
use Rattle.ledger_laws.proofs.walk.SendingTurns.{on_queue-labels}
use Rattle.ledger_laws.proofs.walk.Turn.{on_queue}

-- Labels

-- a label on a queue that the side has
queue_postable : (plan : PairPlan) (side : Side) (q : ℕ) (label : Label) → on_queue q label ≡ true → q < (side_plan plan side).queues → IsPostable plan side label
queue_postable plan side q (Chunk p n part) on few = omega (arith, eqb-true p q on, few)
queue_postable plan side q (Len p n) on few = omega (arith, eqb-true p q on, few)
queue_postable plan side q (Ver p n) on few = omega (arith, eqb-true p q on, few)
queue_postable plan side q (Flag p n) on few = omega (arith, eqb-true p q on, few)
queue_postable plan side q (Down p n) on few = omega (arith, eqb-true p q on, few)
queue_postable plan side q (Bell p) on few = omega (arith, eqb-true p q on, few)
queue_postable plan side q label on few = absurd (false≢true on)

-- a write of an offer
offer_postable : (plan : PairPlan) (side : Side) (label : Label) → offer_of label ≡ Some label → IsPostable plan side label
offer_postable plan side (Pad i value) some = elim (cases_Bool (is_offer i)) [
  | inl is ↦ omega (arith, ltb-true i 12 (and_parts (nat_lt i 12) (not (i == 1)) is).0)
  | inr isnt ↦ absurd (none-some _ (sym (cond-false (is_offer i) (Some (Pad i value)) None isnt) ∙ some))
]
offer_postable plan side label some = absurd (none-some _ some)

-- What a pair has in flight

module _ (plan : PairPlan) where
  abbrev Good : PairPart → Type 0
  Good pair = (side : Side) → AllByRecursion (IsPostable plan side) (side_of pair side).flight

  good_decided : (old : PairPart) (refusal : Option Answer) (answer : Answer) (new : PairPart) → Good old → Good new → Good (decided old refusal answer new).after
  good_decided old None answer new first second = second
  good_decided old (Some r) answer new first second = first

  -- a side's part with other writes in flight
  good_side : (pair : PairPart) (side : Side) (part : SidePart) → AllByRecursion (IsPostable plan side) part.flight → Good pair → Good (with_side_part pair side part)
  good_side pair A part now good A = now
  good_side pair A part now good B = good B
  good_side pair B part now good A = good A
  good_side pair B part now good B = now

  -- and with the same
  good_alike : (pair : PairPart) (side : Side) (part : SidePart) → part.flight ≡ (side_of pair side).flight → Good pair → Good (with_side_part pair side part)
  good_alike pair side part same good = good_side pair side part (subst (AllByRecursion (IsPostable plan side)) (sym same) (good side)) good

  good_posts : (pair : PairPart) (side : Side) (label : Label) → IsPostable plan side label → Good pair → Good (posts pair side label)
  good_posts pair side label is good = go (link_up pair)
    where
      go : (up : Bool) → Good (if up then with_side_part pair side (record (side_of pair side) { flight = (side_of pair side).flight ++ label ∷ [] }) else pair)
      go true = good_side pair side _ (all_push (IsPostable plan side) (side_of pair side).flight label (good side) is) good
      go false = good

  good_raw : (pair : PairPart) (side : Side) (label : Label) (bytes : List ℕ) → IsPostable plan side label → Good pair → Good (posts_raw pair side label bytes)
  good_raw pair side label bytes is good = go (link_up pair)
    where
      go : (up : Bool)
          → Good (if up then with_side_part pair side (record (side_of pair side) { flight = (side_of pair side).flight ++ label ∷ []; poked = (side_of pair side).poked ++ bytes ∷ [] }) else pair)
      go true = good_side pair side _ (all_push (IsPostable plan side) (side_of pair side).flight label (good side) is) good
      go false = good

  good_through : (reading : Reading) (pair : PairPart) (side : Side) (label : Label) → IsPostable plan side label → Good pair → Good (posts_through reading pair side label)
  good_through reading pair side label is good = go (reading.reaches side label)
    where
      go : (reaches : Bool) → Good (if reaches then posts pair side label else pair)
      go true = good_posts pair side label is good
      go false = good

  good_taken : (pair : PairPart) (side : Side) (place : ℕ) (label : Label) → Good pair → Good (taken_out pair side place label)
  good_taken pair side place label good = good_side pair side _ (all_remove (IsPostable plan side) (side_of pair side).flight place (good side)) good

  good_landed : (pair : PairPart) (side : Side) (label : Label) → Good pair → Good (lands_on pair side label)
  good_landed pair side label good =
      landing_cases Good pair side label good (λ from queue lane. good) (λ part keeps. good_alike pair (other_side side) part keeps.flight good)

  good_land : (pair : PairPart) (side : Side) (place : ℕ) (found : Option Label) → Good pair → Good (land_found plan pair side place found).after
  good_land pair side place None good = good
  good_land pair side place (Some label) good =
      good_decided pair _ _ (lands_on (taken_out pair side place label) side label) good (good_landed (taken_out pair side place label) side label (good_taken pair side place label good))

  good_found : (pair : PairPart) (side : Side) (queue : ℕ) (found : Found) → Good pair → Good (look_at pair side queue found).after
  good_found pair side queue ALinkDownEntry good = good_alike pair side _ refl good
  good_found pair side queue (AnEntry len left) good = good
  good_found pair side queue found good = good

  -- a write of a queue's lane goes out
  good_post : (reading : Reading) (pair : PairPart) (side : Side) (queue : ℕ) (lane : LanePart) (todo : List Label) (label : Label) (rest : List Label) → todo ≡ label ∷ rest
      → list_all (on_queue queue) todo ≡ true → queue < (side_plan plan side).queues → Good pair → Good (posts_through reading (with_lane pair side queue (record lane { todo = rest })) side label)
  good_post reading pair side queue lane todo label rest first own few good =
      let on = (and_parts (on_queue queue label) (list_all (on_queue queue) rest) (ap (list_all (on_queue queue)) (sym first) ∙ own)).0 in
      good_through reading (with_lane pair side queue (record lane { todo = rest })) side label (queue_postable plan side queue label on few) good

-- Each step

few_windows : (plan : PairPlan) → IsPair plan → (side : Side) → (side_plan plan side).windows ≤ 4
few_windows plan is A = is.side_a.windows.1
few_windows plan is B = is.side_b.windows.1

module _ (plan : Plan) (k : ℕ) (is : IsPair (pair_plan plan k)) where
  abbrev Own : PairPlan
  Own = pair_plan plan k

  abbrev Holds : Outcome → Type 0
  Holds o = Good Own o.after

  good_next : (reading : Reading) (bytes : Bytes) (pair : PairPart) (step : Step) → IsPermitted plan step → subject_of step ≡ k → OwnTodos pair → Good Own pair
      → Good Own (read_next plan.devs Own reading bytes pair step).after
  good_next reading bytes pair (Enable p side) may on todos good = enable_cases Holds pair side (λ r is. good) (λ made. good)
  good_next reading bytes pair (Train p) may on todos good = train_cases Holds pair (λ r is. good) (λ made. good)
  good_next reading bytes pair (Break p) may on todos good = break_cases Holds pair (λ r is. good) (λ made. good)
  good_next reading bytes pair (DropDone p) may on todos good = drop_cases Holds pair (λ r is. good) (λ made. dropped)
    where
      dropped : (side : Side) → AllByRecursion (IsPostable Own side) (at_side (record { a = emptied_side pair.sides.a; b = emptied_side pair.sides.b }) side).flight
      dropped A = tt
      dropped B = tt
  good_next reading bytes pair (Clean p side) may on todos good = clean_cases Holds pair side (λ r is. good) (λ made. good_alike Own pair side (cleaned_side (side_of pair side)) refl good)
  good_next reading bytes pair (Offer p side) may on todos good =
      offer_cases Holds Own pair side (λ r is. good) (λ up more.
      good_posts Own _ side (next_offer Own pair side)
      (offer_postable Own side (next_offer Own pair side) (offer-good (side_plan Own side) (few_windows Own is side) (side_of pair side).offered)) (good_alike Own pair side _ refl good))
  good_next reading bytes pair (Check p side) may on todos good = good_decided Own pair _ _ _ good (good_alike Own pair side _ refl good)
  good_next reading bytes pair (Ready p side queue) may on todos good =
      ready_cases Holds pair side queue (λ r is. good) (λ up checked.
      good_posts Own (readied pair side queue) side (ready_pad pair side queue) (omega arith) (good_alike Own pair side (record (side_of pair side) { ready = with_bit (side_of pair side).ready queue }) refl good))
  good_next reading bytes pair (Join p side queue) may on todos good = good_decided Own pair _ _ _ good (good_alike Own pair side _ refl good)
  good_next reading bytes pair (Begin p side queue frame) may on todos good = good_decided Own pair _ _ _ good good
  good_next reading bytes pair (QpDown p side queue) may on todos good = good_decided Own pair _ _ _ good (good_alike Own pair side _ refl good)
  good_next reading bytes pair (Xbegin p side queue dev dst kind payload) may on todos good = good_decided Own _ _ _ _ good good
  good_next reading bytes pair (Post p side queue) may on todos good =
      let few : queue < (side_plan Own side).queues = subst (λ j. queue < (side_plan (pair_plan plan j) side).queues) on may.among in
      post_cases reading Holds pair side queue good
      (λ label rest next. good_post Own reading pair side queue (lane_of pair side queue) (lane_of pair side queue).todo label rest next (todos side queue) few good)
      (λ entry others label rest idle waits next.
      good_post Own reading pair side queue (with_next queue (lane_of pair side queue) (entry ∷ others)) (labels_of queue (length (lane_of pair side queue).sent) entry) label rest next (on_queue-labels queue (length (lane_of pair side queue).sent) entry) few good)
  good_next reading bytes pair (Land p side place) may on todos good = good_land Own pair side place (slice_get (side_of pair side).flight place) good
  good_next reading bytes pair (Look p side queue) may on todos good = good_decided Own pair _ _ _ good (good_found Own pair side queue (reading.found side queue) good)
  good_next reading bytes pair (Copy p side queue) may on todos good = copy_cases reading Holds pair side queue (λ r is. good) (λ turn more. good) (λ turn last more. good) (λ turn last whole. good)
  good_next reading bytes pair (Clear p side queue) may on todos good = good_decided Own pair _ _ _ good good
  good_next reading bytes pair (Ack p side queue) may on todos good =
      let few : queue < (side_plan Own side).queues = subst (λ j. queue < (side_plan (pair_plan plan j) side).queues) on may.among in
      ack_cases reading Holds pair side queue (λ r is. good) (λ turn. good_through Own reading (acking pair side queue) side (Index queue (lane_to pair side queue).acked) few good)
  good_next reading bytes pair (Wake p side queue dev) may on todos good = good_decided Own pair _ _ _ good good
  good_next reading bytes pair (Irq p side) may on todos good = good_alike Own pair side _ refl good
  good_next reading bytes pair (Mask p side bits) may on todos good = good_alike Own pair side _ refl good
  good_next reading bytes pair (Unmask p side bits) may on todos good = good_alike Own pair side _ refl good
  good_next reading bytes pair (Spad p side i value) may on todos good = good_posts Own pair side (Pad i value) may.1.among good
  good_next reading bytes pair (Poke p side window offset poked) may on todos good =
      let poke = subst (λ j. IsPoke (pair_plan plan j) side window offset poked) on may.1 in
      good_raw Own pair side (Raw window offset (length poked)) poked (poke.raw, poke.windows, poke.within) good
  good_next reading bytes pair step may on todos good = good

  good_holds : HoldsOfPair plan k (IsPermitted plan) (Good Own)
  good_holds = record {
    fresh = λ side. subst (AllByRecursion (IsPostable Own side)) (sym (fresh-flight Own side)) tt;
    steps = λ bytes part step may on todos good. good_next (reading_of Own bytes part) bytes part step may on todos good;
  }

-- After permitted steps a label in flight is on a queue of its side, or of a scratchpad, or, if raw, within a window.
pub labels_are_postable : LabelsArePostable
labels_are_postable plan memories steps pair side is permitted =
    pair_after plan pair (IsPermitted plan) (Good (pair_plan plan pair)) (good_holds plan pair is) memories steps permitted side
