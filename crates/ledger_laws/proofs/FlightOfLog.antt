-- What a side has in flight is what the log says.
use Rattle.std.proofs.Common.{◌≡◌, ℕ, ◌+◌, ◌==◌, ◌&&◌, Bool, true, false, List, [], ◌∷◌, ◌++◌, length, refl, sym, ap, ◌∙◌}
use Rattle.std.specs.Prelude.{if◌then◌else◌, bit_and, bit_or, remove, slice_index_or, slice_set}
use Rattle.std.specs.List.{fold}
use Rattle.std.proofs.lemmas.Bool.{false≢true, cond-true, cond-false, eq-eqb, ne_eqb}
use Rattle.std.proofs.lemmas.List.Sums.{fold-append}
use Rattle.step_kinds.specs.Bits.{all_below, with_bit, without_bits}
use Rattle.step_kinds.specs.Sides.{other_side, same_side}
use Rattle.step_kinds.specs.Subject.{subject_of}
use Rattle.step_kinds.specs.declared.names.Side.{Side}
use Rattle.step_kinds.specs.declared.names.Side.TheVariants.{A, B}
use Rattle.step_kinds.specs.declared.plan.PairPlan.{PairPlan}
use Rattle.step_kinds.specs.declared.plan.Plan.{Plan}
use Rattle.step_kinds.specs.declared.steps.Answer.{Answer}
use Rattle.step_kinds.specs.declared.steps.Answer.TheVariants.{Ok as Done, OkSession, Offered, Posted, Landed, Acked}
use Rattle.step_kinds.specs.declared.steps.Label.{Label}
use Rattle.step_kinds.specs.declared.steps.Label.TheVariants.{Flag, Down, Bell, Index, Pad, Raw}
use Rattle.step_kinds.specs.declared.steps.Step.{Step}
use Rattle.step_kinds.specs.declared.steps.Step.TheVariants.{Enable, Train, Break, DropDone, Clean, Offer, Check, Ready, Join, Begin, QpDown, Xbegin, Post, Land, Look, Copy, Clear, Ack, Wake, Irq, Mask, Unmask, Spad, Poke}
use Rattle.pair_model.specs.Pads.{offers}
use Rattle.pair_model.specs.Plans.{dev_plan, pair_plan, side_plan}
use Rattle.pair_model.specs.Sizes.{sizes_of}
use Rattle.pair_model.specs.Headers.{Bytes}
use Rattle.ledger_model.specs.Ledger.{PairPart, SidePart, lane_of, lane_to, link_up, posts, posts_raw, side_of, with_lane, with_side_part}
use Rattle.ledger_model.specs.Log.{Answered}
use Rattle.ledger_model.specs.Next.{fresh_pair, read_next}
use Rattle.ledger_model.specs.Outcome.{Outcome}
use Rattle.ledger_model.specs.Reading.{Reading, by_bytes, by_ledger, reading_of}
use Rattle.ledger_model.specs.Receiving.{lands_on, poked_without, taken_out}
use Rattle.ledger_model.specs.Sending.{posts_through, with_next}
use Rattle.ledger_laws.specs.Flights.{InFlightIsPosted, Outbox, goes_out, outbox_next, outbox_start}
use Rattle.ledger_laws.specs.Laws.{IsOrdinaryPair}
use Rattle.ledger_laws.proofs.EachPair.{AnyStep, HoldsOfLog, log_after}
use Rattle.ledger_laws.proofs.FreshLanes.{started}
use Rattle.ledger_laws.proofs.LogGrowth.{made_by}
use Rattle.ledger_laws.proofs.walk.Cases.{ack_cases, acking, begin_cases, break_cases, check_cases, clean_cases, cleaned, clear_cases, copy_cases, drop_cases, dropped, enable_cases, join_cases, land_cases, look_cases, next_offer, offer_cases, offering, post_cases, qpdown_cases, readied, ready_cases, ready_pad, refuses, train_cases, wake_cases, xbegin_cases}
use Rattle.ledger_laws.proofs.walk.Logs.{all_fit}

-- What the ledger has of a side

abbrev pub outbox_in : PairPart → Side → Outbox
outbox_in pair side = record { up = link_up pair; offered = (side_of pair side).offered; ready = (side_of pair side).ready; flight = (side_of pair side).flight }

abbrev told_next : Plan → ℕ → Side → Outbox → Step → Answer → Outbox
told_next plan pair side now step answer = outbox_next plan pair side now (record { step = step; answer = answer })

-- What an entry of the log of another pair tells, and a refusal

off_pair : (k p : ℕ) (b : Bool) {X : Type 0} (x y : X) → (p ≡ k → ⊥) → (if (p == k) && b then x else y) ≡ y
off_pair k p b x y ne = rw (ne_eqb p k ne) refl

told-elsewhere : (plan : Plan) (k : ℕ) (side : Side) (now : Outbox) (step : Step) (answer : Answer) → (subject_of step ≡ k → ⊥) → told_next plan k side now step answer ≡ now
told-elsewhere plan k side now (Train p) (OkSession session) ne = rw (ne_eqb p k ne) refl
told-elsewhere plan k side now (Break p) Done ne = rw (ne_eqb p k ne) refl
told-elsewhere plan k side now (DropDone p) Done ne = rw (ne_eqb p k ne) refl
told-elsewhere plan k side now (Clean p s) Done ne = off_pair k p _ _ now ne
told-elsewhere plan k side now (Offer p s) (Offered index) ne = off_pair k p _ _ now ne
told-elsewhere plan k side now (Ready p s queue) Done ne = off_pair k p _ _ now ne
told-elsewhere plan k side now (Post p s queue) (Posted label) ne = off_pair k p _ _ now ne
told-elsewhere plan k side now (Ack p s queue) (Acked n) ne = off_pair k p _ _ now ne
told-elsewhere plan k side now (Spad p s i value) Done ne = off_pair k p _ _ now ne
told-elsewhere plan k side now (Poke p s window offset bytes) Done ne = off_pair k p _ _ now ne
told-elsewhere plan k side now (Land p s place) (Landed label) ne = off_pair k p _ _ now ne
told-elsewhere plan k side now step answer ne = refl

told-refused : (plan : Plan) (k : ℕ) (side : Side) (now : Outbox) (step : Step) (r : Answer) → refuses r ≡ true → told_next plan k side now step r ≡ now
told-refused plan k side now (Train p) (OkSession session) is = absurd (false≢true is)
told-refused plan k side now (Break p) Done is = absurd (false≢true is)
told-refused plan k side now (DropDone p) Done is = absurd (false≢true is)
told-refused plan k side now (Clean p s) Done is = absurd (false≢true is)
told-refused plan k side now (Offer p s) (Offered index) is = absurd (false≢true is)
told-refused plan k side now (Ready p s queue) Done is = absurd (false≢true is)
told-refused plan k side now (Post p s queue) (Posted label) is = absurd (false≢true is)
told-refused plan k side now (Ack p s queue) (Acked n) is = absurd (false≢true is)
told-refused plan k side now (Spad p s i value) Done is = absurd (false≢true is)
told-refused plan k side now (Poke p s window offset bytes) Done is = absurd (false≢true is)
told-refused plan k side now (Land p s place) (Landed label) is = absurd (false≢true is)
told-refused plan k side now step r is = refl

-- How the changes of a pair look to a side

module _ (side : Side) where
  -- what a step on a side leaves of this one: `new` where it is this side
  abbrev Seen : Side → Outbox → Outbox → Outbox
  Seen s new old = if same_side s side then new else old

  seen_part : (now : PairPart) (s : Side) (part : SidePart)
      → outbox_in (with_side_part now s part) side ≡ Seen s (record { up = link_up now; offered = part.offered; ready = part.ready; flight = part.flight }) (outbox_in now side)
  seen_part now s part = go side s
    where
      go : (side s : Side)
          → outbox_in (with_side_part now s part) side
          ≡ (if same_side s side then record { up = link_up now; offered = part.offered; ready = part.ready; flight = part.flight } else outbox_in now side)
      go A A = refl
      go B B = refl
      go A B = refl
      go B A = refl

  seen_itself : (now : PairPart) (s : Side) → Seen s (outbox_in now s) (outbox_in now side) ≡ outbox_in now side
  seen_itself now s = go side s
    where
      go : (side s : Side) → (if same_side s side then outbox_in now s else outbox_in now side) ≡ outbox_in now side
      go A A = refl
      go B B = refl
      go A B = refl
      go B A = refl

  -- a side's part with the same numbers and writes
  part_kept : (now : PairPart) (s : Side) (part : SidePart) → part.offered ≡ (side_of now s).offered → part.ready ≡ (side_of now s).ready → part.flight ≡ (side_of now s).flight
      → outbox_in (with_side_part now s part) side ≡ outbox_in now side
  part_kept now s part offered ready flight =
      seen_part now s part
      ∙ ap (λ (own : Outbox). Seen s own (outbox_in now side)) (λ i. record { up = link_up now; offered = offered i; ready = ready i; flight = flight i })
      ∙ seen_itself now s

  -- a write that a side posts
  posts_seen : (now : PairPart) (s : Side) (label : Label) → outbox_in (posts now s label) side ≡ Seen s (goes_out (outbox_in now s) label) (outbox_in now side)
  posts_seen now s label = go (link_up now) refl side s
    where
      go : (up : Bool) → link_up now ≡ up → (side s : Side)
          → outbox_in (if up then with_side_part now s (record (side_of now s) { flight = (side_of now s).flight ++ label ∷ [] }) else now) side
          ≡ (if same_side s side then record (outbox_in now s) { flight = (if up then (side_of now s).flight ++ label ∷ [] else (side_of now s).flight) } else outbox_in now side)
      go true e A A = refl
      go true e B B = refl
      go true e A B = refl
      go true e B A = refl
      go false e A A = refl
      go false e B B = refl
      go false e A B = refl
      go false e B A = refl

  posts_raw_seen : (now : PairPart) (s : Side) (label : Label) (poked : List ℕ) → outbox_in (posts_raw now s label poked) side ≡ Seen s (goes_out (outbox_in now s) label) (outbox_in now side)
  posts_raw_seen now s label poked = go (link_up now) side s
    where
      go : (up : Bool) (side s : Side)
          → outbox_in (if up then with_side_part now s (record (side_of now s) { flight = (side_of now s).flight ++ label ∷ []; poked = (side_of now s).poked ++ poked ∷ [] }) else now) side
          ≡ (if same_side s side then record (outbox_in now s) { flight = (if up then (side_of now s).flight ++ label ∷ [] else (side_of now s).flight) } else outbox_in now side)
      go true A A = refl
      go true B B = refl
      go true A B = refl
      go true B A = refl
      go false A A = refl
      go false B B = refl
      go false A B = refl
      go false B A = refl

  landed_kept : (now : PairPart) (s : Side) (label : Label) → outbox_in (lands_on now s label) side ≡ outbox_in now side
  landed_kept now s (Flag queue n) = refl
  landed_kept now s (Down queue n) = refl
  landed_kept now s (Bell queue) = part_kept now (other_side s) (record (side_of now (other_side s)) { pending = with_bit (side_of now (other_side s)).pending queue }) refl refl refl
  landed_kept now s (Index queue n) = refl
  landed_kept now s (Pad i value) = part_kept now (other_side s) (record (side_of now (other_side s)) { pads = slice_set (side_of now (other_side s)).pads i value }) refl refl refl
  landed_kept now s label = refl

-- Each step

module _ (plan : Plan) (k : ℕ) (side : Side) (reading : Reading) (bytes : Bytes) (pair : PairPart) (reaches : (s : Side) (label : Label) → reading.reaches s label ≡ true) where
  abbrev Own : PairPlan
  Own = pair_plan plan k

  abbrev Now : Outbox
  Now = outbox_in pair side

  abbrev Tells : Step → Outcome → Type 0
  Tells step o = told_next plan k side Now step o.answer ≡ outbox_in o.after side

  refused : (step : Step) (r : Answer) → refuses r ≡ true → Tells step (record { answer = r; after = pair })
  refused step r is = told-refused plan k side Now step r is

  -- what a step on a side of this pair tells: of this side it is `new`, which is the side's own where the step is on it
  own_pair : (p : ℕ) → p ≡ k → (s : Side) (new : Outbox) → (if (p == k) && same_side s side then new else Now) ≡ Seen side s new Now
  own_pair p e s new = ap (λ b. if b && same_side s side then new else Now) (eq-eqb p k e)

  -- `new` may speak of this side or of the step's
  same_there : (s : Side) (f : Side → Outbox) → Seen side s (f side) Now ≡ Seen side s (f s) Now
  same_there s f = go side s
    where
      go : (side s : Side) → (if same_side s side then f side else outbox_in pair side) ≡ (if same_side s side then f s else outbox_in pair side)
      go A A = refl
      go B B = refl
      go A B = refl
      go B A = refl

  through_is : (now : PairPart) (s : Side) (label : Label) → posts_through reading now s label ≡ posts now s label
  through_is now s label = cond-true (reading.reaches s label) (posts now s label) now (reaches s label)

  posts_told : (p : ℕ) → p ≡ k → (s : Side) (label : Label) → (if (p == k) && same_side s side then goes_out Now label else Now) ≡ outbox_in (posts pair s label) side
  posts_told p e s label = own_pair p e s (goes_out Now label) ∙ same_there s (λ t. goes_out (outbox_in pair t) label) ∙ sym (posts_seen side pair s label)

  -- with another lane, which a side doesn't see
  through_told : (p : ℕ) → p ≡ k → (s : Side) (label : Label) (now : PairPart) → ((t : Side) → outbox_in now t ≡ outbox_in pair t)
      → (if (p == k) && same_side s side then goes_out Now label else Now) ≡ outbox_in (posts_through reading now s label) side
  through_told p e s label now same =
      own_pair p e s (goes_out Now label) ∙ same_there s (λ t. goes_out (outbox_in pair t) label)
      ∙ (λ i. Seen side s (goes_out (sym (same s) i) label) (sym (same side) i))
      ∙ sym (ap (λ (after : PairPart). outbox_in after side) (through_is now s label) ∙ posts_seen side now s label)

  drop_tells : (p : ℕ) → p ≡ k → Tells (DropDone p) (record { answer = Done; after = dropped pair })
  drop_tells p e = rw (eq-eqb p k e) (go side)
    where
      go : (side : Side) → record (outbox_in pair side) { up = false; flight = [] } ≡ outbox_in (dropped pair) side
      go A = refl
      go B = refl

  clean_tells : (p : ℕ) → p ≡ k → (s : Side) → Tells (Clean p s) (record { answer = Done; after = cleaned pair s })
  clean_tells p e s = own_pair p e s (record Now { offered = 0; ready = 0 }) ∙ go side s
    where
      go : (side s : Side) → (if same_side s side then record (outbox_in pair side) { offered = 0; ready = 0 } else outbox_in pair side) ≡ outbox_in (cleaned pair s) side
      go A A = refl
      go B B = refl
      go A B = refl
      go B A = refl

  offer_tells : (p : ℕ) → p ≡ k → (s : Side) (index : ℕ)
      → (if (p == k) && same_side s side then goes_out (record Now { offered = Now.offered + 1 }) (slice_index_or (offers (side_plan Own side)) Now.offered (Pad 0 0)) else Now)
      ≡ outbox_in (posts (offering pair s) s (next_offer Own pair s)) side
  offer_tells p e s index =
      own_pair p e s _
      ∙ same_there s (λ t. goes_out (record (outbox_in pair t) { offered = (outbox_in pair t).offered + 1 }) (slice_index_or (offers (side_plan Own t)) (outbox_in pair t).offered (Pad 0 0)))
      ∙ go side s ∙ sym (posts_seen side (offering pair s) s (next_offer Own pair s))
    where
      go : (side s : Side)
          → (if same_side s side then goes_out (record (outbox_in pair s) { offered = (outbox_in pair s).offered + 1 }) (slice_index_or (offers (side_plan Own s)) (outbox_in pair s).offered (Pad 0 0)) else outbox_in pair side)
          ≡ (if same_side s side then goes_out (outbox_in (offering pair s) s) (next_offer Own pair s) else outbox_in (offering pair s) side)
      go A A = refl
      go B B = refl
      go A B = refl
      go B A = refl

  ready_tells : (p : ℕ) → p ≡ k → (s : Side) (queue : ℕ) → Tells (Ready p s queue) (record { answer = Done; after = posts (readied pair s queue) s (ready_pad pair s queue) })
  ready_tells p e s queue =
      own_pair p e s _
      ∙ same_there s (λ t. goes_out (record (outbox_in pair t) { ready = with_bit (outbox_in pair t).ready queue }) (ready_pad pair t queue))
      ∙ go side s ∙ sym (posts_seen side (readied pair s queue) s (ready_pad pair s queue))
    where
      go : (side s : Side)
          → (if same_side s side then goes_out (record (outbox_in pair s) { ready = with_bit (outbox_in pair s).ready queue }) (ready_pad pair s queue) else outbox_in pair side)
          ≡ (if same_side s side then goes_out (outbox_in (readied pair s queue) s) (ready_pad pair s queue) else outbox_in (readied pair s queue) side)
      go A A = refl
      go B B = refl
      go A B = refl
      go B A = refl

  land_tells : (p : ℕ) → p ≡ k → (s : Side) (place : ℕ) (label : Label) → Tells (Land p s place) (record { answer = Landed label; after = lands_on (taken_out pair s place label) s label })
  land_tells p e s place label =
      own_pair p e s (record Now { flight = remove Now.flight place })
      ∙ same_there s (λ t. record (outbox_in pair t) { flight = remove (outbox_in pair t).flight place })
      ∙ sym (landed_kept side (taken_out pair s place label) s label
      ∙ seen_part side pair s (record (side_of pair s) { flight = remove (side_of pair s).flight place; poked = poked_without (side_of pair s) place label }))

  tells_next : (step : Step) → subject_of step ≡ k → Tells step (read_next plan.devs Own reading bytes pair step)
  tells_next (Enable p s) e = enable_cases (Tells (Enable p s)) pair s (λ r no. refl) (λ _. refl)
  tells_next (Train p) e = train_cases (Tells (Train p)) pair (λ r no. refused (Train p) r no.is) (λ _. cond-true (p == k) (record Now { up = true }) Now (eq-eqb p k e))
  tells_next (Break p) e = break_cases (Tells (Break p)) pair (λ r no. refused (Break p) r no.is) (λ _. cond-true (p == k) (record Now { up = false }) Now (eq-eqb p k e))
  tells_next (DropDone p) e = drop_cases (Tells (DropDone p)) pair (λ r no. refused (DropDone p) r no.is) (λ _. drop_tells p e)
  tells_next (Clean p s) e = clean_cases (Tells (Clean p s)) pair s (λ r no. refused (Clean p s) r no.is) (λ _. clean_tells p e s)
  tells_next (Offer p s) e = offer_cases (Tells (Offer p s)) Own pair s (λ r no. refused (Offer p s) r no.is) (λ up more. offer_tells p e s 0)
  tells_next (Check p s) e = check_cases (Tells (Check p s)) Own pair s (λ r no. refl) (λ _. sym (part_kept side pair s (record (side_of pair s) { up = true }) refl refl refl))
  tells_next (Ready p s queue) e = ready_cases (Tells (Ready p s queue)) pair s queue (λ r no. refused (Ready p s queue) r no.is) (λ up checked. ready_tells p e s queue)
  tells_next (Join p s queue) e =
      join_cases (Tells (Join p s queue)) pair s queue (λ r no. refl) (λ up ready asked. sym (part_kept side pair s (record (side_of pair s) { joined = with_bit (side_of pair s).joined queue }) refl refl refl))
  tells_next (Begin p s queue frame) e = begin_cases reading (Tells (Begin p s queue frame)) (sizes_of Own s queue) pair s queue frame (λ r no. refl) (λ may. refl)
  tells_next (QpDown p s queue) e =
      qpdown_cases reading (Tells (QpDown p s queue)) (sizes_of Own s queue) pair s queue (λ r no. refl)
      (λ may. sym (part_kept side pair s (record (side_of pair s) { closed = with_bit (side_of pair s).closed queue }) refl refl refl))
  tells_next (Xbegin p s queue dev dst kind payload) e =
      xbegin_cases reading (Tells (Xbegin p s queue dev dst kind payload)) (sizes_of Own s queue) (dev_plan plan.devs dev) pair s queue dst kind payload (λ r no. refl) (λ may. refl)
  tells_next (Post p s queue) e =
      post_cases reading (Tells (Post p s queue)) pair s queue refl
      (λ label rest is. through_told p e s label (with_lane pair s queue (record (lane_of pair s queue) { todo = rest })) (λ t. refl))
      (λ entry others label rest idle waits is. through_told p e s label (with_lane pair s queue (record (with_next queue (lane_of pair s queue) (entry ∷ others)) { todo = rest })) (λ t. refl))
  tells_next (Land p s place) e = land_cases (Tells (Land p s place)) Own pair s place (λ r no. refused (Land p s place) r no.is) (λ label at may. land_tells p e s place label)
  tells_next (Look p s queue) e =
      look_cases reading (Tells (Look p s queue)) pair s queue (λ r no found. refl) (λ may empty. refl) (λ may len left found. refl)
      (λ may. sym (part_kept side pair s (record (side_of pair s) { closed = with_bit (side_of pair s).closed queue }) refl refl refl))
  tells_next (Copy p s queue) e = copy_cases reading (Tells (Copy p s queue)) pair s queue (λ r no. refl) (λ turn more. refl) (λ turn all others. refl) (λ turn all last. refl)
  tells_next (Clear p s queue) e = clear_cases (Tells (Clear p s queue)) pair s queue (λ r no. refl) (λ _. refl)
  tells_next (Ack p s queue) e =
      ack_cases reading (Tells (Ack p s queue)) pair s queue (λ r no. refused (Ack p s queue) r no.is)
      (λ _. through_told p e s (Index queue (lane_to pair s queue).acked) (acking pair s queue) (λ t. refl))
  tells_next (Wake p s queue dev) e = wake_cases (Tells (Wake p s queue dev)) reading (dev_plan plan.devs dev) pair s queue (λ r no. refl) refl
  tells_next (Irq p s) e = sym (part_kept side pair s (record (side_of pair s) { pending = bit_and (side_of pair s).pending (side_of pair s).masked }) refl refl refl)
  tells_next (Mask p s bits) e = sym (part_kept side pair s (record (side_of pair s) { masked = bit_or (side_of pair s).masked bits }) refl refl refl)
  tells_next (Unmask p s bits) e = sym (part_kept side pair s (record (side_of pair s) { masked = without_bits (side_of pair s).masked bits }) refl refl refl)
  tells_next (Spad p s i value) e = posts_told p e s (Pad i value)
  tells_next (Poke p s window offset poked) e =
      own_pair p e s (goes_out Now (Raw window offset (length poked))) ∙ same_there s (λ t. goes_out (outbox_in pair t) (Raw window offset (length poked)))
      ∙ sym (posts_raw_seen side pair s (Raw window offset (length poked)) poked)
  tells_next step e = refl

-- After every log

abbrev outbox_after : Plan → ℕ → Side → List Answered → Outbox
outbox_after plan k side log = fold (outbox_next plan k side) (outbox_start plan k side) log

outbox-last : (plan : Plan) (k : ℕ) (side : Side) (log : List Answered) (made : Answered) → outbox_after plan k side (log ++ made ∷ []) ≡ outbox_next plan k side (outbox_after plan k side log) made
outbox-last plan k side log made = fold-append (outbox_next plan k side) (outbox_start plan k side) log (made ∷ [])

outbox-fresh : (plan : Plan) (k : ℕ) (side : Side) → outbox_start plan k side ≡ outbox_in (fresh_pair (pair_plan plan k)) side
outbox-fresh plan k side = go (pair_plan plan k).up side
  where
    go : (up : Bool) (side : Side)
        → record {
          up = up;
          offered = (if up then length (offers (side_plan (pair_plan plan k) side)) else 0);
          ready = (if up then all_below (side_plan (pair_plan plan k) side).queues else 0);
          flight = [];
        }
        ≡ outbox_in (started (pair_plan plan k) up) side
    go true A = refl
    go true B = refl
    go false A = refl
    go false B = refl

outbox_run : (plan : Plan) (k : ℕ) (side : Side) → IsOrdinaryPair plan k → HoldsOfLog plan k AnyStep (λ log pair. outbox_after plan k side log ≡ outbox_in pair side)
outbox_run plan k side no_raw = record {
  fresh = outbox-fresh plan k side;
  own = λ log bytes pair step any e todos h.
      let own = pair_plan plan k in
      outbox-last plan k side log (made_by plan k bytes pair step) ∙ ap (λ now. outbox_next plan k side now (made_by plan k bytes pair step)) h
      ∙ tells_next plan k side (reading_of own bytes pair) bytes pair
      (λ s label. ap (λ (reading : Reading). reading.reaches s label) (cond-false own.raw (by_bytes own bytes pair) (by_ledger own pair) no_raw)) step e;
  other = λ log pair made ne h. outbox-last plan k side log made ∙ told-elsewhere plan k side (outbox_after plan k side log) made.step made.answer ne ∙ h;
}

-- On an ordinary pair a side has in flight what it posted on a link that was up, less what landed or was dropped.
pub in_flight_is_posted : InFlightIsPosted
in_flight_is_posted plan memories steps pair side no_raw =
    ap (λ (now : Outbox). now.flight) (sym (log_after plan pair AnyStep _ (outbox_run plan pair side no_raw) memories steps (all_fit steps)))
