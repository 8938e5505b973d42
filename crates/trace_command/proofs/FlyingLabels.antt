-- What a side has in flight is what the log says, on raw pairs too: a write that doesn't go through isn't among it.
use Rattle.std.proofs.Common.{◌≡◌, ℕ, ◌+◌, ◌==◌, ◌&&◌, Bool, true, false, not, Option, Some, None, List, [], ◌∷◌, ◌++◌, length, refl, sym, ap, ◌∙◌, inl, inr, ◌⊎◌}
use Rattle.std.specs.Prelude.{if◌then◌else◌, bit_and, bit_or, filter, nat_lt, remove, slice_index_or, slice_set}
use Rattle.std.specs.List.{fold}
use Rattle.std.proofs.lemmas.Bool.{cases_eq, cond_both, false≢true, eq-eqb, ne_eqb}
use Rattle.step_kinds.specs.Bits.{all_below, has_bit, with_bit, without_bits}
use Rattle.step_kinds.specs.Sides.{other_side, same_side}
use Rattle.step_kinds.specs.Subject.{subject_of}
use Rattle.step_kinds.specs.declared.names.Side.{Side}
use Rattle.step_kinds.specs.declared.names.Side.TheVariants.{A, B}
use Rattle.step_kinds.specs.declared.plan.PairPlan.{PairPlan}
use Rattle.step_kinds.specs.declared.plan.Plan.{Plan}
use Rattle.step_kinds.specs.declared.steps.Answer.{Answer}
use Rattle.step_kinds.specs.declared.steps.Answer.TheVariants.{Ok as Done, OkSession, LinkDown, Already, Offered, NotChecked, Posted, Landed, OutOfTurn, Acked}
use Rattle.step_kinds.specs.declared.steps.Label.{Label}
use Rattle.step_kinds.specs.declared.steps.Label.TheVariants.{Flag, Down, Bell, Index, Pad, Raw}
use Rattle.step_kinds.specs.declared.steps.Step.{Step}
use Rattle.step_kinds.specs.declared.steps.Step.TheVariants.{Enable, Train, Break, DropDone, Clean, Offer, Check, Ready, Join, Begin, QpDown, Xbegin, Post, Land, Look, Copy, Clear, Ack, Wake, Irq, Mask, Unmask, Spad, Poke}
use Rattle.pair_model.specs.Both.{at_side, both_of, with_side}
use Rattle.pair_model.specs.Link.{clean_refusal, cleaned_link, cut_refusal, dropped_link, fresh_link, train_refusal}
use Rattle.pair_model.specs.Pads.{links_pad, offers, pad_index}
use Rattle.pair_model.specs.Plans.{pair_plan, side_plan}
use Rattle.pair_model.specs.declared.LinkRefusal.{LinkRefusal}
use Rattle.pair_model.specs.declared.LinkRefusal.TheVariants.{NotDown}
use Rattle.pair_model.specs.Headers.{Bytes, Found, NoEntry, ALinkDownEntry, AnotherVersion, TooManyBytes, AnEntry}
use Rattle.lane_model.specs.Lane.{chunks_in}
use Rattle.ledger_model.specs.Ledger.{LanePart, PairPart, SidePart, lane_of, lane_to, link_up, posts, posts_raw, side_of, updated, with_lane, with_side_part}
use Rattle.ledger_model.specs.LinkSteps.{answer_of_refusal, cleaned_side, emptied_side, forgotten_lanes, fresh_lane, started_dev}
use Rattle.ledger_model.specs.Log.{Answered, Memories, answered, ledger_of, log_of}
use Rattle.ledger_model.specs.Next.{agreed_side, fresh_dev, fresh_pair, idle_side, no_tally, outcome_in, pair_next, read_next}
use Rattle.ledger_model.specs.Outcome.{Outcome, decided, refuse_if}
use Rattle.ledger_model.specs.Reading.{Reading, by_bytes, by_ledger, has_window, reading_of}
use Rattle.ledger_model.specs.Receiving.{copy_of, is_cleared, is_copying, lands_on, look_at, poked_without, taken_out}
use Rattle.ledger_model.specs.Sending.{posts_through, with_next}
use Rattle.ledger_laws.specs.Flights.{Outbox, goes_out, outbox_next, outbox_start}
use Rattle.ledger_laws.proofs.Facade.{acking, drop_cases, land_cases, ledger_of-last, log_of-last, post_cases, refuses}
use Rattle.trace_command.specs.Writes.{goes_through}
use Rattle.trace_command.specs.Laws.{flying_labels, is_lost}
use Rattle.trace_command.proofs.NumbersInStep.{each_longer, fold_filter-last}

-- What the ledger has of a side, and what an item of a log leaves of it

abbrev pub outbox_in : PairPart → Side → Outbox
outbox_in pair side = record { up = link_up pair; offered = (side_of pair side).offered; ready = (side_of pair side).ready; flight = (side_of pair side).flight }

-- the outbox after an item: a write that doesn't go through changes nothing
abbrev pub flying_next : Plan → ℕ → Side → Outbox → Answered → Outbox
flying_next plan pair side now made = if not (is_lost plan made) then outbox_next plan pair side now made else now

-- a side's outbox after a log
abbrev pub flying_after : Plan → ℕ → Side → List Answered → Outbox
flying_after plan pair side log = fold (outbox_next plan pair side) (outbox_start plan pair side) (filter (λ made. not (is_lost plan made)) log)

-- It is that before the last item, and then that item's.
pub flying-last : (plan : Plan) (pair : ℕ) (side : Side) (log : List Answered) (made : Answered)
    → flying_after plan pair side (log ++ made ∷ []) ≡ flying_next plan pair side (flying_after plan pair side log) made
flying-last plan pair side log made = fold_filter-last (outbox_next plan pair side) (outbox_start plan pair side) (λ made. not (is_lost plan made)) log made

abbrev told_next : Plan → ℕ → Side → Outbox → Step → Answer → Outbox
told_next plan pair side now step answer = flying_next plan pair side now (record { step = step; answer = answer })

-- What an item of another pair tells, and a refusal

off_pair : (k p : ℕ) (b : Bool) {X : Type 0} (x y : X) → (p ≡ k → ⊥) → (if (p == k) && b then x else y) ≡ y
off_pair k p b x y ne = rw (ne_eqb p k ne) refl

-- what is lost or tells nothing tells nothing
if_same : (b : Bool) (new now : Outbox) → new ≡ now → (if b then new else now) ≡ now
if_same true new now same = same
if_same false new now same = refl

told-elsewhere : (plan : Plan) (k : ℕ) (side : Side) (now : Outbox) (step : Step) (answer : Answer) → (subject_of step ≡ k → ⊥) → told_next plan k side now step answer ≡ now
told-elsewhere plan k side now (Train p) (OkSession session) ne = rw (ne_eqb p k ne) refl
told-elsewhere plan k side now (Break p) Done ne = rw (ne_eqb p k ne) refl
told-elsewhere plan k side now (DropDone p) Done ne = rw (ne_eqb p k ne) refl
told-elsewhere plan k side now (Clean p s) Done ne = off_pair k p _ _ now ne
told-elsewhere plan k side now (Offer p s) (Offered index) ne = off_pair k p _ _ now ne
told-elsewhere plan k side now (Ready p s queue) Done ne = off_pair k p _ _ now ne
told-elsewhere plan k side now (Post p s queue) (Posted label) ne = if_same (not (not (goes_through (pair_plan plan p) s label))) _ now (off_pair k p (same_side s side) (goes_out now label) now ne)
told-elsewhere plan k side now (Ack p s queue) (Acked n) ne = if_same (not (not (goes_through (pair_plan plan p) s (Index queue n)))) _ now (off_pair k p (same_side s side) (goes_out now (Index queue n)) now ne)
told-elsewhere plan k side now (Spad p s i value) Done ne = off_pair k p _ _ now ne
told-elsewhere plan k side now (Poke p s window offset bytes) Done ne = off_pair k p _ _ now ne
told-elsewhere plan k side now (Land p s place) (Landed label) ne = off_pair k p _ _ now ne
told-elsewhere plan k side now step answer ne = refl

told-refused : (plan : Plan) (k : ℕ) (side : Side) (now : Outbox) (step : Step) (r : Answer) → refuses r ≡ true → told_next plan k side now step r ≡ now
told-refused plan k side now (Train p) (OkSession session) is = absurd (false≢true is)
told-refused plan k side now (Break p) Done is = absurd (false≢true is)
told-refused plan k side now (DropDone p) Done is = absurd (false≢true is)
told-refused plan k side now (Clean p s) Done is = absurd (false≢true is)
told-refused plan k side now (Offer p s) (Offered index) is = absurd (false≢true is)
told-refused plan k side now (Ready p s queue) Done is = absurd (false≢true is)
told-refused plan k side now (Post p s queue) (Posted label) is = absurd (false≢true is)
told-refused plan k side now (Ack p s queue) (Acked n) is = absurd (false≢true is)
told-refused plan k side now (Spad p s i value) Done is = absurd (false≢true is)
told-refused plan k side now (Poke p s window offset bytes) Done is = absurd (false≢true is)
told-refused plan k side now (Land p s place) (Landed label) is = absurd (false≢true is)
told-refused plan k side now step r is = refl

-- Tests of a step

test : (P : Option Answer → Type 0) (b : Bool) (r : Answer) (later : Option Answer) → P (Some r) → P later → P (refuse_if b r later)
test P true r later first rest = first
test P false r later first rest = rest

-- the steps of the link
link_test : (P : Outcome → Type 0) (old : PairPart) (refusal : Option LinkRefusal) (answer : Answer) (new : PairPart)
    → ((r : Answer) → refuses r ≡ true → P (record { answer = r; after = old })) → P (record { answer = answer; after = new })
    → P (decided old (answer_of_refusal refusal) answer new)
link_test P old None answer new refused made = made
link_test P old (Some NotDown) answer new refused made = refused _ refl
link_test P old (Some refusal) answer new refused made = refused _ refl

-- what a step leaves as it was, whether it is refused or not
left_same : {X : Type 0} (f : PairPart → X) (x : X) (old : PairPart) (refusal : Option Answer) (answer : Answer) (new : PairPart)
    → x ≡ f old → x ≡ f new → x ≡ f (decided old refusal answer new).after
left_same f x old None answer new before after = after
left_same f x old (Some refusal) answer new before after = before

-- How the changes of a pair look to a side

module _ (side : Side) where
  -- what a step on a side leaves of this one: `new` where it is this side
  abbrev Seen : Side → Outbox → Outbox → Outbox
  Seen s new old = if same_side s side then new else old

  seen_part : (now : PairPart) (s : Side) (part : SidePart)
      → outbox_in (with_side_part now s part) side ≡ Seen s (record { up = link_up now; offered = part.offered; ready = part.ready; flight = part.flight }) (outbox_in now side)
  seen_part now s part = go side s
    where
      go : (side s : Side)
          → outbox_in (with_side_part now s part) side
          ≡ (if same_side s side then record { up = link_up now; offered = part.offered; ready = part.ready; flight = part.flight } else outbox_in now side)
      go A A = refl
      go B B = refl
      go A B = refl
      go B A = refl

  seen_itself : (now : PairPart) (s : Side) → Seen s (outbox_in now s) (outbox_in now side) ≡ outbox_in now side
  seen_itself now s = go side s
    where
      go : (side s : Side) → (if same_side s side then outbox_in now s else outbox_in now side) ≡ outbox_in now side
      go A A = refl
      go B B = refl
      go A B = refl
      go B A = refl

  -- a side's part with the same numbers and writes
  part_kept : (now : PairPart) (s : Side) (part : SidePart) → part.offered ≡ (side_of now s).offered → part.ready ≡ (side_of now s).ready → part.flight ≡ (side_of now s).flight
      → outbox_in now side ≡ outbox_in (with_side_part now s part) side
  part_kept now s part offered ready flight =
      sym
      (seen_part now s part
      ∙ ap (λ (own : Outbox). Seen s own (outbox_in now side)) (λ i. record { up = link_up now; offered = offered i; ready = ready i; flight = flight i })
      ∙ seen_itself now s)

  -- a write that a side posts
  posts_seen : (now : PairPart) (s : Side) (label : Label) → outbox_in (posts now s label) side ≡ Seen s (goes_out (outbox_in now s) label) (outbox_in now side)
  posts_seen now s label = go (link_up now) refl side s
    where
      go : (up : Bool) → link_up now ≡ up → (side s : Side)
          → outbox_in (if up then with_side_part now s (record (side_of now s) { flight = (side_of now s).flight ++ label ∷ [] }) else now) side
          ≡ (if same_side s side then record (outbox_in now s) { flight = (if up then (side_of now s).flight ++ label ∷ [] else (side_of now s).flight) } else outbox_in now side)
      go true e A A = refl
      go true e B B = refl
      go true e A B = refl
      go true e B A = refl
      go false e A A = refl
      go false e B B = refl
      go false e A B = refl
      go false e B A = refl

  posts_raw_seen : (now : PairPart) (s : Side) (label : Label) (poked : List ℕ) → outbox_in (posts_raw now s label poked) side ≡ Seen s (goes_out (outbox_in now s) label) (outbox_in now side)
  posts_raw_seen now s label poked = go (link_up now) side s
    where
      go : (up : Bool) (side s : Side)
          → outbox_in (if up then with_side_part now s (record (side_of now s) { flight = (side_of now s).flight ++ label ∷ []; poked = (side_of now s).poked ++ poked ∷ [] }) else now) side
          ≡ (if same_side s side then record (outbox_in now s) { flight = (if up then (side_of now s).flight ++ label ∷ [] else (side_of now s).flight) } else outbox_in now side)
      go true A A = refl
      go true B B = refl
      go true A B = refl
      go true B A = refl
      go false A A = refl
      go false B B = refl
      go false A B = refl
      go false B A = refl

  landed_kept : (now : PairPart) (s : Side) (label : Label) → outbox_in now side ≡ outbox_in (lands_on now s label) side
  landed_kept now s (Flag queue n) = refl
  landed_kept now s (Down queue n) = refl
  landed_kept now s (Bell queue) = part_kept now (other_side s) (record (side_of now (other_side s)) { pending = with_bit (side_of now (other_side s)).pending queue }) refl refl refl
  landed_kept now s (Index queue n) = refl
  landed_kept now s (Pad i value) = part_kept now (other_side s) (record (side_of now (other_side s)) { pads = slice_set (side_of now (other_side s)).pads i value }) refl refl refl
  landed_kept now s label = refl

-- Each step

module _ (plan : Plan) (k : ℕ) (side : Side) (reading : Reading) (bytes : Bytes) (pair : PairPart) (reaches : (s : Side) (label : Label) → reading.reaches s label ≡ goes_through (pair_plan plan k) s label) where
  abbrev Own : PairPlan
  Own = pair_plan plan k

  abbrev Now : Outbox
  Now = outbox_in pair side

  abbrev Tells : Step → Outcome → Type 0
  Tells step o = told_next plan k side Now step o.answer ≡ outbox_in o.after side

  refused : (step : Step) (r : Answer) → refuses r ≡ true → Tells step (record { answer = r; after = pair })
  refused step r is = told-refused plan k side Now step r is

  -- what a step leaves as it was
  kept : (refusal : Option Answer) (answer : Answer) (new : PairPart) → Now ≡ outbox_in new side → Now ≡ outbox_in (decided pair refusal answer new).after side
  kept refusal answer new same = left_same (λ (p : PairPart). outbox_in p side) Now pair refusal answer new refl same

  -- what a step on a side of this pair tells: of this side it is `new`, which is the side's own where the step is on it
  own_pair : (p : ℕ) → p ≡ k → (s : Side) (new : Outbox) → (if (p == k) && same_side s side then new else Now) ≡ Seen side s new Now
  own_pair p e s new = ap (λ b. if b && same_side s side then new else Now) (eq-eqb p k e)

  -- `new` may speak of this side or of the step's
  same_there : (s : Side) (f : Side → Outbox) → Seen side s (f side) Now ≡ Seen side s (f s) Now
  same_there s f = go side s
    where
      go : (side s : Side) → (if same_side s side then f side else outbox_in pair side) ≡ (if same_side s side then f s else outbox_in pair side)
      go A A = refl
      go B B = refl
      go A B = refl
      go B A = refl

  posts_told : (p : ℕ) → p ≡ k → (s : Side) (label : Label) (now : PairPart) → ((t : Side) → outbox_in now t ≡ outbox_in pair t)
      → (if (p == k) && same_side s side then goes_out Now label else Now) ≡ outbox_in (posts now s label) side
  posts_told p e s label now same =
      own_pair p e s (goes_out Now label) ∙ same_there s (λ t. goes_out (outbox_in pair t) label)
      ∙ (λ i. Seen side s (goes_out (sym (same s) i) label) (sym (same side) i))
      ∙ sym (posts_seen side now s label)

  -- a write of a queue, which may be lost, with another lane, which a side doesn't see
  through_told : (p : ℕ) → p ≡ k → (s : Side) (label : Label) (now : PairPart) → ((t : Side) → outbox_in now t ≡ outbox_in pair t)
      → (if not (not (goes_through (pair_plan plan p) s label)) then (if (p == k) && same_side s side then goes_out Now label else Now) else Now)
      ≡ outbox_in (posts_through reading now s label) side
  through_told p e s label now same =
      ap (λ j. if not (not (goes_through (pair_plan plan j) s label)) then told else Now) e ∙ go (goes_through Own s label)
      ∙ ap (λ b. outbox_in (if b then posts now s label else now) side) (sym (reaches s label))
    where
      told : Outbox
      told = if (p == k) && same_side s side then goes_out Now label else Now

      go : (b : Bool) → (if not (not b) then told else Now) ≡ outbox_in (if b then posts now s label else now) side
      go true = posts_told p e s label now same
      go false = sym (same side)

  drop_tells : (p : ℕ) → p ≡ k → Tells (DropDone p) (record { answer = Done; after = record pair { link = dropped_link pair.link; sides = record { a = emptied_side pair.sides.a; b = emptied_side pair.sides.b } } })
  drop_tells p e = rw (eq-eqb p k e) (go side)
    where
      go : (side : Side)
          → record (outbox_in pair side) { up = false; flight = [] }
          ≡ outbox_in (record pair { link = dropped_link pair.link; sides = record { a = emptied_side pair.sides.a; b = emptied_side pair.sides.b } }) side
      go A = refl
      go B = refl

  clean_tells : (p : ℕ) → p ≡ k → (s : Side)
      → Tells (Clean p s)
      (record {
        answer = Done;
        after = record pair {
          link = cleaned_link pair.link s;
          sides = with_side pair.sides s (cleaned_side (side_of pair s));
          lanes = forgotten_lanes pair.lanes s;
          devs = with_side pair.devs s (λ queue. started_dev (at_side pair.devs s queue));
        };
      })
  clean_tells p e s = own_pair p e s (record Now { offered = 0; ready = 0 }) ∙ go side s
    where
      go : (side s : Side)
          → (if same_side s side then record (outbox_in pair side) { offered = 0; ready = 0 } else outbox_in pair side)
          ≡ outbox_in
          (record pair {
            link = cleaned_link pair.link s;
            sides = with_side pair.sides s (cleaned_side (side_of pair s));
            lanes = forgotten_lanes pair.lanes s;
            devs = with_side pair.devs s (λ queue. started_dev (at_side pair.devs s queue));
          })
          side
      go A A = refl
      go B B = refl
      go A B = refl
      go B A = refl

  abbrev offering : Side → PairPart
  offering s = with_side_part pair s (record (side_of pair s) { offered = (side_of pair s).offered + 1 })

  abbrev next_offer : Side → Label
  next_offer s = slice_index_or (offers (side_plan Own s)) (side_of pair s).offered (Pad 0 0)

  offer_tells : (p : ℕ) → p ≡ k → (s : Side)
      → (if (p == k) && same_side s side then goes_out (record Now { offered = Now.offered + 1 }) (slice_index_or (offers (side_plan Own side)) Now.offered (Pad 0 0)) else Now)
      ≡ outbox_in (posts (offering s) s (next_offer s)) side
  offer_tells p e s =
      own_pair p e s _
      ∙ same_there s (λ t. goes_out (record (outbox_in pair t) { offered = (outbox_in pair t).offered + 1 }) (slice_index_or (offers (side_plan Own t)) (outbox_in pair t).offered (Pad 0 0)))
      ∙ go side s ∙ sym (posts_seen side (offering s) s (next_offer s))
    where
      go : (side s : Side)
          → (if same_side s side then goes_out (record (outbox_in pair s) { offered = (outbox_in pair s).offered + 1 }) (slice_index_or (offers (side_plan Own s)) (outbox_in pair s).offered (Pad 0 0)) else outbox_in pair side)
          ≡ (if same_side s side then goes_out (outbox_in (offering s) s) (next_offer s) else outbox_in (offering s) side)
      go A A = refl
      go B B = refl
      go A B = refl
      go B A = refl

  abbrev readied : Side → ℕ → PairPart
  readied s queue = with_side_part pair s (record (side_of pair s) { ready = with_bit (side_of pair s).ready queue })

  abbrev ready_pad : Side → ℕ → Label
  ready_pad s queue = Pad links_pad (with_bit (side_of pair s).ready queue)

  ready_tells : (p : ℕ) → p ≡ k → (s : Side) (queue : ℕ) → Tells (Ready p s queue) (record { answer = Done; after = posts (readied s queue) s (ready_pad s queue) })
  ready_tells p e s queue =
      own_pair p e s _
      ∙ same_there s (λ t. goes_out (record (outbox_in pair t) { ready = with_bit (outbox_in pair t).ready queue }) (ready_pad t queue))
      ∙ go side s ∙ sym (posts_seen side (readied s queue) s (ready_pad s queue))
    where
      go : (side s : Side)
          → (if same_side s side then goes_out (record (outbox_in pair s) { ready = with_bit (outbox_in pair s).ready queue }) (ready_pad s queue) else outbox_in pair side)
          ≡ (if same_side s side then goes_out (outbox_in (readied s queue) s) (ready_pad s queue) else outbox_in (readied s queue) side)
      go A A = refl
      go B B = refl
      go A B = refl
      go B A = refl

  land_tells : (p : ℕ) → p ≡ k → (s : Side) (place : ℕ) (label : Label) → Tells (Land p s place) (record { answer = Landed label; after = lands_on (taken_out pair s place label) s label })
  land_tells p e s place label =
      own_pair p e s (record Now { flight = remove Now.flight place })
      ∙ same_there s (λ t. record (outbox_in pair t) { flight = remove (outbox_in pair t).flight place })
      ∙ sym (seen_part side pair s (record (side_of pair s) { flight = remove (side_of pair s).flight place; poked = poked_without (side_of pair s) place label }))
      ∙ landed_kept side (taken_out pair s place label) s label

  look_kept : (s : Side) (queue : ℕ) (found : Found) → Now ≡ outbox_in (look_at pair s queue found).after side
  look_kept s queue NoEntry = refl
  look_kept s queue ALinkDownEntry = part_kept side pair s (record (side_of pair s) { closed = with_bit (side_of pair s).closed queue }) refl refl refl
  look_kept s queue (AnotherVersion seen own) = refl
  look_kept s queue (TooManyBytes len most) = refl
  look_kept s queue (AnEntry len left) = refl

  copy_kept : (s : Side) (queue : ℕ) (lane : LanePart) (gathered : List ℕ) → Now ≡ outbox_in (copy_of pair s queue lane gathered).after side
  copy_kept s queue lane gathered =
      cond_both (nat_lt (lane.part + 1) (chunks_in lane.len)) _ _ Same (λ _. refl) (λ _. cond_both (nat_lt 0 lane.left) _ _ Same (λ _. refl) (λ _. refl))
    where
      Same : Outcome → Type 0
      Same o = Now ≡ outbox_in o.after side

  tells_next : (step : Step) → subject_of step ≡ k → Tells step (read_next plan.devs Own reading bytes pair step)
  tells_next (Enable p s) e = kept _ _ _ refl
  tells_next (Train p) e =
      link_test (Tells (Train p)) pair (train_refusal pair.link) _ _ (refused (Train p)) (ap (λ b. if b then record Now { up = true } else Now) (eq-eqb p k e))
  tells_next (Break p) e =
      link_test (Tells (Break p)) pair (cut_refusal pair.link) _ _ (refused (Break p)) (ap (λ b. if b then record Now { up = false } else Now) (eq-eqb p k e))
  tells_next (DropDone p) e = drop_cases (Tells (DropDone p)) pair (λ r no. refused (DropDone p) r no.is) (λ _. drop_tells p e)
  tells_next (Clean p s) e = link_test (Tells (Clean p s)) pair (clean_refusal pair.link) _ _ (refused (Clean p s)) (clean_tells p e s)
  tells_next (Offer p s) e = test Left (not (link_up pair)) LinkDown _ refl (test Left ((side_of pair s).offered == length (offers (side_plan Own s))) Already None refl (offer_tells p e s))
    where
      Left : Option Answer → Type 0
      Left refusal = Tells (Offer p s) (decided pair refusal (Offered (pad_index (next_offer s))) (posts (offering s) s (next_offer s)))
  tells_next (Check p s) e = kept _ _ _ (part_kept side pair s (record (side_of pair s) { up = true }) refl refl refl)
  tells_next (Ready p s queue) e =
      test Left (not (link_up pair)) LinkDown _ refl
      (test Left (not (side_of pair s).up) NotChecked _ refl (test Left (has_bit (side_of pair s).ready queue) Already None refl (ready_tells p e s queue)))
    where
      Left : Option Answer → Type 0
      Left refusal = Tells (Ready p s queue) (decided pair refusal Done (posts (readied s queue) s (ready_pad s queue)))
  tells_next (Join p s queue) e = kept _ _ _ (part_kept side pair s (record (side_of pair s) { joined = with_bit (side_of pair s).joined queue }) refl refl refl)
  tells_next (Begin p s queue frame) e = kept _ _ _ refl
  tells_next (QpDown p s queue) e = kept _ _ _ (part_kept side pair s (record (side_of pair s) { closed = with_bit (side_of pair s).closed queue }) refl refl refl)
  tells_next (Xbegin p s queue dev dst kind payload) e = left_same (λ (p : PairPart). outbox_in p side) Now _ _ _ _ refl refl
  tells_next (Post p s queue) e =
      post_cases reading (Tells (Post p s queue)) pair s queue refl
      (λ label rest is. through_told p e s label (with_lane pair s queue (record (lane_of pair s queue) { todo = rest })) (λ t. refl))
      (λ entry others label rest idle waits is. through_told p e s label (with_lane pair s queue (record (with_next queue (lane_of pair s queue) (entry ∷ others)) { todo = rest })) (λ t. refl))
  tells_next (Land p s place) e = land_cases (Tells (Land p s place)) Own pair s place (λ r no. refused (Land p s place) r no.is) (λ label at may. land_tells p e s place label)
  tells_next (Look p s queue) e = kept _ _ _ (look_kept s queue (reading.found s queue))
  tells_next (Copy p s queue) e =
      let lane = lane_to pair s queue in
      let copied = copy_of pair s queue lane (lane.gathered ++ reading.part s queue) in
      kept (refuse_if (not (is_copying lane.phase)) OutOfTurn None) copied.answer copied.after (copy_kept s queue lane (lane.gathered ++ reading.part s queue))
  tells_next (Clear p s queue) e = kept _ _ _ refl
  tells_next (Ack p s queue) e =
      test Left (not (is_cleared (lane_to pair s queue).phase)) OutOfTurn None refl (through_told p e s (Index queue (lane_to pair s queue).acked) (acking pair s queue) (λ t. refl))
    where
      Left : Option Answer → Type 0
      Left refusal =
          Tells (Ack p s queue)
          (decided pair refusal (Acked (lane_to pair s queue).acked) (posts_through reading (acking pair s queue) s (Index queue (lane_to pair s queue).acked)))
  tells_next (Wake p s queue dev) e = kept _ _ _ refl
  tells_next (Irq p s) e = part_kept side pair s (record (side_of pair s) { pending = bit_and (side_of pair s).pending (side_of pair s).masked }) refl refl refl
  tells_next (Mask p s bits) e = part_kept side pair s (record (side_of pair s) { masked = bit_or (side_of pair s).masked bits }) refl refl refl
  tells_next (Unmask p s bits) e = part_kept side pair s (record (side_of pair s) { masked = without_bits (side_of pair s).masked bits }) refl refl refl
  tells_next (Spad p s i value) e = posts_told p e s (Pad i value) pair (λ t. refl)
  tells_next (Poke p s window offset poked) e =
      own_pair p e s (goes_out Now (Raw window offset (length poked))) ∙ same_there s (λ t. goes_out (outbox_in pair t) (Raw window offset (length poked)))
      ∙ sym (posts_raw_seen side pair s (Raw window offset (length poked)) poked)
  tells_next step e = refl

-- After every log

module _ (plan : Plan) (k : ℕ) (side : Side) where
  reaches_is : (bytes : Bytes) (pair : PairPart) (s : Side) (label : Label) → (reading_of (pair_plan plan k) bytes pair).reaches s label ≡ goes_through (pair_plan plan k) s label
  reaches_is bytes pair s label = go (pair_plan plan k).raw
    where
      own : PairPlan
      own = pair_plan plan k

      go : (raw : Bool) → (if raw then by_bytes own bytes pair else by_ledger own pair).reaches s label ≡ (if raw then has_window own s label else true)
      go true = refl
      go false = refl

  fresh : outbox_start plan k side ≡ outbox_in (fresh_pair (pair_plan plan k)) side
  fresh = go (pair_plan plan k).up side
    where
      own : PairPlan
      own = pair_plan plan k

      go : (up : Bool) (side : Side)
          → record {
            up = up;
            offered = (if up then length (offers (side_plan own side)) else 0);
            ready = (if up then all_below (side_plan own side).queues else 0);
            flight = [];
          }
          ≡ outbox_in
          (record {
            link = fresh_link up;
            sides = (if up then record { a = agreed_side own.a own.b; b = agreed_side own.b own.a } else both_of idle_side);
            lanes = both_of (λ queue. fresh_lane);
            devs = both_of (λ queue. fresh_dev);
            tallies = both_of (λ queue session. no_tally);
          })
          side
      go true A = refl
      go true B = refl
      go false A = refl
      go false B = refl

  module _ (memories : Memories) where
    -- a step on a pair of this number, or on another
    step_tells : (bytes : ℕ → Bytes) (ledger : ℕ → PairPart) (step : Step) (now : Outbox) → now ≡ outbox_in (ledger k) side → (subject_of step ≡ k) ⊎ (subject_of step ≡ k → ⊥)
        → flying_next plan k side now (answered plan bytes ledger step) ≡ outbox_in (updated ledger (subject_of step) (outcome_in plan bytes ledger step).after k) side
    step_tells bytes ledger step now is (inl e) =
        ap (λ (now : Outbox). flying_next plan k side now (answered plan bytes ledger step)) is
        ∙ ap (λ j. flying_next plan k side (outbox_in (ledger k) side) (record { step = step; answer = (pair_next plan.devs (pair_plan plan j) (bytes j) (ledger j) step).answer })) e
        ∙ tells_next plan k side (reading_of (pair_plan plan k) (bytes k) (ledger k)) (bytes k) (ledger k) (reaches_is (bytes k) (ledger k)) step e
        ∙ ap (λ j. outbox_in (pair_next plan.devs (pair_plan plan j) (bytes j) (ledger j) step).after side) (sym e)
        ∙ ap (λ b. outbox_in (if b then (outcome_in plan bytes ledger step).after else ledger k) side) (sym (eq-eqb k (subject_of step) (sym e)))
    step_tells bytes ledger step now is (inr ne) =
        told-elsewhere plan k side now step (outcome_in plan bytes ledger step).answer ne ∙ is
        ∙ ap (λ b. outbox_in (if b then (outcome_in plan bytes ledger step).after else ledger k) side) (sym (ne_eqb k (subject_of step) (λ e. ne (sym e))))

    -- After each list of steps a side has in flight what its log says.
    pub outbox_is : (steps : List Step) → flying_after plan k side (log_of plan memories steps) ≡ outbox_in (ledger_of plan memories steps k) side
    outbox_is steps = each_longer (λ done. flying_after plan k side (log_of plan memories done) ≡ outbox_in (ledger_of plan memories done k) side) fresh next steps
      where
        next : (done : List Step) (step : Step) → flying_after plan k side (log_of plan memories done) ≡ outbox_in (ledger_of plan memories done k) side
            → flying_after plan k side (log_of plan memories (done ++ step ∷ [])) ≡ outbox_in (ledger_of plan memories (done ++ step ∷ []) k) side
        next done step now =
            let log = log_of plan memories done in
            let ledger = ledger_of plan memories done in
            ap (flying_after plan k side) (log_of-last plan memories done step)
            ∙ flying-last plan k side log (answered plan (memories log) ledger step)
            ∙ step_tells (memories log) ledger step (flying_after plan k side log) now (cases_eq (subject_of step) k)
            ∙ ap (λ (after : ℕ → PairPart). outbox_in (after k) side) (sym (ledger_of-last plan memories done step))

    -- the writes in flight alone
    pub flight_is : (steps : List Step) → (side_of (ledger_of plan memories steps k) side).flight ≡ flying_labels plan (log_of plan memories steps) k side
    flight_is steps = ap (λ (now : Outbox). now.flight) (sym (outbox_is steps))
