-- A look is answered `empty` or `peerdown` if and only if the log has no flags of a further entry, or those of a
-- link-down entry.
use Rattle.std.proofs.Common.{◌≡◌, ℕ, zero, suc, ◌+◌, ◌<◌, ◌≤◌, ◌==◌, Bool, true, false, not, ◌&&◌, Some, None, List, [], ◌∷◌, ◌++◌, length, map, refl, sym, ap, ◌∙◌, subst, append_assoc, arith, inl, inr, ◌⊎◌}
use Rattle.std.specs.Prelude.{if◌then◌else◌, slice_get, slice_index_or, take}
use Rattle.std.specs.List.{flat_map}
use Rattle.std.proofs.lemmas.Bool.{cases_Bool, cases_eq, cond-false, cond-true, eq-eqb, eqb-false, false≢true, ne_eqb}
use Rattle.std.proofs.lemmas.Grind.{flat_map-append}
use Rattle.std.proofs.lemmas.List.{append-nil, length-map}
use Rattle.step_kinds.specs.Sides.{other_side, same_side}
use Rattle.step_kinds.specs.Subject.{subject_of}
use Rattle.step_kinds.specs.declared.names.LaneName.{LaneName}
use Rattle.step_kinds.specs.declared.names.Side.{Side}
use Rattle.step_kinds.specs.declared.names.Side.TheVariants.{A, B}
use Rattle.step_kinds.specs.declared.plan.PairPlan.{PairPlan}
use Rattle.step_kinds.specs.declared.plan.Plan.{Plan}
use Rattle.step_kinds.specs.declared.steps.Answer.{Answer}
use Rattle.step_kinds.specs.declared.steps.Answer.TheVariants.{OkSession, NotReady, Closed, OutOfTurn, Landed, Posted}
use Rattle.step_kinds.specs.declared.steps.Step.{Step}
use Rattle.step_kinds.specs.declared.steps.Step.TheVariants.{Enable, Train, Break, DropDone, Clean, Offer, Check, Ready, Join, Begin, QpDown, Xbegin, Post, Land, Look, Copy, Clear, Ack, Wake, Spad, Poke}
use Rattle.step_kinds.specs.declared.steps.Label.{Label}
use Rattle.step_kinds.specs.declared.steps.Label.TheVariants.{Chunk, Len, Ver, Flag, Down, Bell, Index, Pad, Raw}
use Rattle.lane_model.specs.Lane.{Entry, Carries, GoesDown}
use Rattle.lane_model.specs.declared.Phase.TheVariants.{Idle, Copying, Copied, Cleared}
use Rattle.lane_model.specs.declared.Write.TheVariants.{Flag as EntryFlag}
use Rattle.ledger_model.specs.Labels.{write_of}
use Rattle.ledger_model.specs.Pieces.{pieces_of}
use Rattle.pair_model.specs.Ethernet.{ethernet_frame}
use Rattle.pair_model.specs.Sizes.{sizes_of}
use Rattle.ledger_model.specs.Ledger.{LanePart, PairPart, lane_of, entry_in, lane_to, posts, posts_raw, side_of, with_lane}
use Rattle.ledger_model.specs.Log.{Answered, Memories, is_on, log_of, ledger_of, made_since, trains}
use Rattle.pair_model.specs.Headers.{Bytes}
use Rattle.order_rules.specs.Order.{may_land}
use Rattle.pair_model.specs.Orders.{order_of}
use Rattle.pair_model.specs.Plans.{dev_plan, pair_plan}
use Rattle.step_kinds.specs.Bits.{has_bit}
use Rattle.pair_model.specs.Link.{is_up}
use Rattle.pair_model.specs.Headers.{NoEntry}
use Rattle.ledger_model.specs.Next.{Ledger, outcome_in, read_next}
use Rattle.ledger_model.specs.Outcome.{Outcome, decided, refuse_if}
use Rattle.ledger_model.specs.Reading.{Reading, by_bytes, by_ledger, found_entry, found_in_ledger, reading_of}
use Rattle.ledger_model.specs.Receiving.{is_idle, look_at, look_step, taken_out}
use Rattle.ledger_model.specs.Sending.{begun, begun_lane, frame_begun, posts_through, with_next}
use Rattle.ledger_laws.specs.Drivers.{Driver, EmptyWhereNothingLanded, PeerDownWhereDownLanded, driver_after, finds_down, finds_nothing, flags_in, flags_landed, has_none, is_empty_answer, is_peer_down, lane_received, may_look, queue_named}
use Rattle.ledger_laws.proofs.FlagsInOrder.{HasFlagsAhead, flags_known, landing_flag}
use Rattle.ledger_laws.proofs.Hands.{cleared_all}
use Rattle.ledger_laws.proofs.LabelsOfEntries.{all_get, labels_are_of_entries}
use Rattle.ledger_laws.proofs.walk.Turn.{IsRaw}
use Rattle.ledger_laws.specs.States.{IsOfLane}
use Rattle.ledger_laws.proofs.AtStart.{fresh-lane}
use Rattle.ledger_laws.proofs.KnownToDrivers.{drivers_know, queue_of_ledger}
use Rattle.ledger_laws.proofs.LogGrowth.{answer_of, left_by, ledger_of-last, log_of-last, made_by}
use Rattle.ledger_laws.proofs.EachPair.{same-posts, same-posts_raw, same-through}
use Rattle.ledger_laws.proofs.LogReaders.{made_since-last}
use Rattle.ledger_laws.proofs.RefusedInOrder.{neither_after}
use Rattle.ledger_laws.specs.Laws.{IsOrdinaryPair}
use Rattle.ledger_laws.proofs.walk.Cases.{ack_cases, acking, begin_cases, break_cases, check_cases, clean_cases, cleaned, clear_cases, clearing, closing, copied_last, copy_cases, drop_cases, enable_cases, join_cases, land_cases, landed, look_cases, looking, next_offer, offer_cases, offering, post_cases, qpdown_cases, readied, ready_cases, ready_pad, refuses, sent_frame, train_cases, trained, wake_cases, xbegin_cases}
use Rattle.ledger_laws.proofs.walk.Sight.{IsOff, by_lane, lane-own, lane-off, sight}
use Rattle.ledger_laws.proofs.walk.Tells.{on-own, on-off}

-- What the ledger has of the flags

abbrev is_down_entry : Entry → Bool
is_down_entry (Carries bytes left) = false
is_down_entry GoesDown = true

abbrev flags_had : LanePart → List Bool
flags_had lane = map is_down_entry (take lane.flagged lane.sent)

abbrev Had : LaneName → PairPart → List Bool
Had own pair = flags_had (lane_of pair own.from own.queue)

-- with one entry more of the log
abbrev flags_next : LaneName → List Bool → Answered → List Bool
flags_next own now made = if trains own.pair made then [] else now ++ flags_in own made

landed-last : (own : LaneName) (log : List Answered) (made : Answered) → flags_landed (log ++ made ∷ []) own ≡ flags_next own (flags_landed log own) made
landed-last own log made = ap (flat_map (flags_in own)) (made_since-last own.pair [] log made) ∙ go (trains own.pair made)
  where
    go : (b : Bool) → flat_map (flags_in own) (if b then [] else made_since own.pair [] log ++ made ∷ []) ≡ (if b then [] else flat_map (flags_in own) (made_since own.pair [] log) ++ flags_in own made)
    go true = refl
    go false = flat_map-append (flags_in own) (made_since own.pair [] log) (made ∷ []) ∙ ap (λ flags. flat_map (flags_in own) (made_since own.pair [] log) ++ flags) (append-nil (flags_in own made))

-- lists of entries
take-suc : (n : ℕ) (sent : List Entry) → n < length sent → take (suc n) sent ≡ take n sent ++ slice_index_or sent n GoesDown ∷ []
take-suc n [] less = absurd (omega arith)
take-suc zero (entry ∷ sent) less = refl
take-suc (suc n) (entry ∷ sent) less = ap (λ rest. entry ∷ rest) (take-suc n sent (omega arith))

take-one : (n : ℕ) (sent : List Entry) → n < length sent → take (n + 1) sent ≡ take n sent ++ slice_index_or sent n GoesDown ∷ []
take-one n sent less = let e : n + 1 ≡ suc n = omega arith in ap (λ k. take k sent) e ∙ take-suc n sent less

take-more : (n : ℕ) (sent more : List Entry) → n ≤ length sent → take n (sent ++ more) ≡ take n sent
take-more zero sent more within = refl
take-more (suc n) [] more within = absurd (omega arith)
take-more (suc n) (entry ∷ sent) more within = ap (λ rest. entry ∷ rest) (take-more n sent more (omega arith))

length-take : (n : ℕ) (sent : List Entry) → n ≤ length sent → length (take n sent) ≡ n
length-take zero sent within = refl
length-take (suc n) [] within = absurd (omega arith)
length-take (suc n) (entry ∷ sent) within = ap suc (length-take n sent (omega arith))

map-take-index : (n k : ℕ) (sent : List Entry) → k < n → n ≤ length sent → slice_index_or (map is_down_entry (take n sent)) k false ≡ is_down_entry (slice_index_or sent k GoesDown)
map-take-index zero k sent less within = absurd (omega arith)
map-take-index (suc n) k [] less within = absurd (omega arith)
map-take-index (suc n) zero (entry ∷ sent) less within = refl
map-take-index (suc n) (suc k) (entry ∷ sent) less within = map-take-index n k sent (omega arith) (omega arith)

map-push : (xs : List Entry) (x : Entry) → map is_down_entry (xs ++ x ∷ []) ≡ map is_down_entry xs ++ is_down_entry x ∷ []
map-push [] x = refl
map-push (y ∷ ys) x = ap (λ rest. is_down_entry y ∷ rest) (map-push ys x)

flag_is : (q n : ℕ) → write_of q (Flag q n) ≡ Some (EntryFlag n)
flag_is q n = cond-true (q == q) (Some (EntryFlag n)) None (eq-eqb q q refl)

down_is : (q n : ℕ) → write_of q (Down q n) ≡ Some (EntryFlag n)
down_is q n = cond-true (q == q) (Some (EntryFlag n)) None (eq-eqb q q refl)

-- What each step does to the flags

-- a train and a landing tell of flags alone
told-elsewhere : (own : LaneName) (now : List Bool) (step : Step) (answer : Answer) → (subject_of step ≡ own.pair → ⊥) → flags_next own now (record { step = step; answer = answer }) ≡ now
told-elsewhere own now (Train p) (OkSession session) ne = cond-false (p == own.pair) [] (now ++ []) (ne_eqb p own.pair ne) ∙ append-nil now
told-elsewhere own now (Land p side place) (Landed (Flag queue n)) ne =
    ap (λ flags. now ++ flags) (cond-false (is_on own p side queue) (false ∷ []) [] (ap (λ b. b && (same_side side own.from && (queue == own.queue))) (ne_eqb p own.pair ne))) ∙ append-nil now
told-elsewhere own now (Land p side place) (Landed (Down queue n)) ne =
    ap (λ flags. now ++ flags) (cond-false (is_on own p side queue) (true ∷ []) [] (ap (λ b. b && (same_side side own.from && (queue == own.queue))) (ne_eqb p own.pair ne))) ∙ append-nil now
told-elsewhere own now step answer ne = append-nil now

train-refused : (own : LaneName) (now : List Bool) (p : ℕ) (r : Answer) → refuses r ≡ true → flags_next own now (record { step = Train p; answer = r }) ≡ now
train-refused own now p (OkSession session) is = absurd (false≢true is)
train-refused own now p r is = append-nil now

land-refused : (own : LaneName) (now : List Bool) (p : ℕ) (side : Side) (place : ℕ) (r : Answer) → refuses r ≡ true → flags_next own now (record { step = Land p side place; answer = r }) ≡ now
land-refused own now p side place (Landed label) is = absurd (false≢true is)
land-refused own now p side place r is = append-nil now

-- what a lane says of its flags
abbrev SaysSame : LanePart → LanePart → Type 0
SaysSame old new = flags_had new ≡ flags_had old

lane_same : (own : LaneName) (pair : PairPart) (side : Side) (queue : ℕ) (part : LanePart) → SaysSame (lane_of pair side queue) part → Had own (with_lane pair side queue part) ≡ Had own pair
lane_same own pair side queue =
    by_lane own.from own.queue (λ s k. (part : LanePart) → SaysSame (lane_of pair s k) part → Had own (with_lane pair s k part) ≡ Had own pair)
    (λ part e. ap flags_had (lane-own own.from own.queue pair part) ∙ e) (λ s k c off part e. ap flags_had (lane-off own.from own.queue pair s k part off)) side queue

-- entries that are begun have no flags landed
begun_same : (q : ℕ) (lane : LanePart) (pieces : List Entry) → lane.flagged ≤ length lane.sent → flags_had (begun_lane q lane pieces) ≡ flags_had lane
begun_same q lane [] within = refl
begun_same q lane (first ∷ others) within = ap (map is_down_entry) (take-more lane.flagged lane.sent (first ∷ []) within)

frame_same : (q : ℕ) (lane : LanePart) (pieces : List Entry) → lane.flagged ≤ length lane.sent → flags_had (frame_begun q lane pieces) ≡ flags_had lane
frame_same q lane [] within = refl
frame_same q lane (first ∷ others) within = ap (map is_down_entry) (take-more lane.flagged lane.sent (first ∷ []) within)

-- what is so of a label that may land: its flags are those of the next entry of its lane
record IsNext (lane : LanePart) (down : Bool) : Type 0 where
  there : lane.flagged < length lane.sent
  kind : is_down_entry (slice_index_or lane.sent lane.flagged GoesDown) ≡ down

module _ (plan : Plan) (own : LaneName) (reading : Reading) (bytes : Bytes) (pair : PairPart) (within : (side : Side) (queue : ℕ) → (lane_of pair side queue).flagged ≤ length (lane_of pair side queue).sent) where
  abbrev Own : PairPlan
  Own = pair_plan plan own.pair

  abbrev Now : List Bool
  Now = Had own pair

  abbrev Flags : Step → Outcome → Type 0
  Flags step o = flags_next own Now (record { step = step; answer = o.answer }) ≡ Had own o.after

  -- lanes that say the same
  quiet : (after : PairPart) → Had own after ≡ Now → Now ++ [] ≡ Had own after
  quiet after same = append-nil Now ∙ sym same

  still : Now ++ [] ≡ Now
  still = append-nil Now

  posts_same : (now : PairPart) (side : Side) (label : Label) → Had own (posts now side label) ≡ Had own now
  posts_same now side label = same-posts (Had own) now side label (λ _. refl)

  through_same : (now : PairPart) (side : Side) (label : Label) → Had own (posts_through reading now side label) ≡ Had own now
  through_same now side label = same-through (Had own) reading now side label (λ _. refl)

  train_flags : (p : ℕ) → p ≡ own.pair → Flags (Train p) (record { answer = OkSession (pair.link.session + 1); after = trained pair })
  train_flags p on = rw (eq-eqb p own.pair on) (go own.from)
    where
      go : (from : Side) → [] ≡ flags_had (lane_of (trained pair) from own.queue)
      go A = refl
      go B = refl

  clean_same : (side : Side) → Had own (cleaned pair side) ≡ Now
  clean_same side = go own.from side
    where
      go : (from side : Side) → flags_had (lane_of (cleaned pair side) from own.queue) ≡ flags_had (lane_of pair from own.queue)
      go A A = refl
      go A B = refl
      go B A = refl
      go B B = refl

  -- the flags of the next entry land
  flag_own : (p : ℕ) → p ≡ own.pair → (label : Label) (down : Bool) (place : ℕ) → IsNext (lane_of pair own.from own.queue) down
      → Now ++ (if is_on own p own.from own.queue then down ∷ [] else [])
      ≡ Had own (with_lane (taken_out pair own.from place label) own.from own.queue (record (lane_of pair own.from own.queue) { flagged = (lane_of pair own.from own.queue).flagged + 1 }))
  flag_own p on label down place next =
      let lane = lane_of pair own.from own.queue in
      ap (λ flags. Now ++ flags) (cond-true (is_on own p own.from own.queue) (down ∷ []) [] (on-own own p on))
      ∙ sym (ap flags_had (lane-own own.from own.queue (taken_out pair own.from place label) (record lane { flagged = lane.flagged + 1 }))
      ∙ ap (map is_down_entry) (take-one lane.flagged lane.sent next.there) ∙ map-push (take lane.flagged lane.sent) (slice_index_or lane.sent lane.flagged GoesDown)
      ∙ ap (λ b. Now ++ b ∷ []) next.kind)

  flag_off : (p : ℕ) (side : Side) (queue : ℕ) → IsOff own.from own.queue side queue → (label : Label) (down : Bool) (place : ℕ) (part : LanePart)
      → Now ++ (if is_on own p side queue then down ∷ [] else []) ≡ Had own (with_lane (taken_out pair side place label) side queue part)
  flag_off p side queue off label down place part =
      ap (λ flags. Now ++ flags) (cond-false (is_on own p side queue) (down ∷ []) [] (on-off own p side queue off)) ∙ append-nil Now
      ∙ sym (ap flags_had (lane-off own.from own.queue (taken_out pair side place label) side queue part off))

  flag_lands : (p : ℕ) → p ≡ own.pair → (label : Label) (down : Bool) (place : ℕ) (side : Side) (queue : ℕ) → IsNext (lane_of pair side queue) down
      → Now ++ (if is_on own p side queue then down ∷ [] else [])
      ≡ Had own (with_lane (taken_out pair side place label) side queue (record (lane_of pair side queue) { flagged = (lane_of pair side queue).flagged + 1 }))
  flag_lands p on label down place =
      by_lane own.from own.queue (λ side queue. IsNext (lane_of pair side queue) down
      → Now ++ (if is_on own p side queue then down ∷ [] else [])
      ≡ Had own (with_lane (taken_out pair side place label) side queue (record (lane_of pair side queue) { flagged = (lane_of pair side queue).flagged + 1 })))
      (λ next. flag_own p on label down place next)
      (λ side queue c off next. flag_off p side queue off label down place (record (lane_of pair side queue) { flagged = (lane_of pair side queue).flagged + 1 }))

  land_flags : (p : ℕ) → p ≡ own.pair → (side : Side) (place : ℕ)
      → ((label : Label) (queue n : ℕ) (down : Bool) → slice_get (side_of pair side).flight place ≡ Some label → may_land (map (order_of Own side) (side_of pair side).flight) place ≡ true
      → (label ≡ Flag queue n) × (down ≡ false) ⊎ ((label ≡ Down queue n) × (down ≡ true)) → IsNext (lane_of pair side queue) down)
      → Flags (Land p side place) (read_next plan.devs Own reading bytes pair (Land p side place))
  land_flags p on side place next =
      land_cases (Flags (Land p side place)) Own pair side place (λ r no. land-refused own Now p side place r no.is) (λ label at may. go label at may)
    where
      go : (label : Label) → slice_get (side_of pair side).flight place ≡ Some label → may_land (map (order_of Own side) (side_of pair side).flight) place ≡ true
          → Flags (Land p side place) (record { answer = Landed label; after = landed pair side place label })
      go (Flag queue n) at may = flag_lands p on (Flag queue n) false place side queue (next (Flag queue n) queue n false at may (inl (refl, refl)))
      go (Down queue n) at may = flag_lands p on (Down queue n) true place side queue (next (Down queue n) queue n true at may (inr (refl, refl)))
      go (Bell queue) at may = still
      go (Index queue n) at may =
          quiet (landed pair side place (Index queue n)) (lane_same own (taken_out pair side place (Index queue n)) (other_side side) queue (record (lane_of pair (other_side side) queue) { freed = n + 1 }) refl)
      go (Pad i value) at may = still
      go (Chunk queue n part) at may = still
      go (Len queue n) at may = still
      go (Ver queue n) at may = still
      go (Raw window offset len) at may = still

  received_same : (side : Side) (queue : ℕ) (part : LanePart) → part.flagged ≡ (lane_to pair side queue).flagged → part.sent ≡ (lane_to pair side queue).sent
      → Had own (with_lane pair (other_side side) queue part) ≡ Now
  received_same side queue part flagged sent = lane_same own pair (other_side side) queue part (λ i. map is_down_entry (take (flagged i) (sent i)))

  sent_same : (side : Side) (queue : ℕ) (part : LanePart) → flags_had part ≡ flags_had (lane_of pair side queue) → Had own (with_lane pair side queue part) ≡ Now
  sent_same side queue part same = lane_same own pair side queue part same

  flags_next_is : (step : Step) → subject_of step ≡ own.pair
      → ((label : Label) (side : Side) (place queue n : ℕ) (down : Bool) → slice_get (side_of pair side).flight place ≡ Some label → may_land (map (order_of Own side) (side_of pair side).flight) place ≡ true
      → (label ≡ Flag queue n) × (down ≡ false) ⊎ ((label ≡ Down queue n) × (down ≡ true)) → IsNext (lane_of pair side queue) down)
      → Flags step (read_next plan.devs Own reading bytes pair step)
  flags_next_is (Enable p side) e next = enable_cases (Flags (Enable p side)) pair side (λ r no. still) (λ _. still)
  flags_next_is (Train p) e next = train_cases (Flags (Train p)) pair (λ r no. train-refused own Now p r no.is) (λ _. train_flags p e)
  flags_next_is (Break p) e next = break_cases (Flags (Break p)) pair (λ r no. still) (λ _. still)
  flags_next_is (DropDone p) e next = drop_cases (Flags (DropDone p)) pair (λ r no. still) (λ _. still)
  flags_next_is (Clean p side) e next = clean_cases (Flags (Clean p side)) pair side (λ r no. still) (λ _. quiet (cleaned pair side) (clean_same side))
  flags_next_is (Offer p side) e next =
      offer_cases (Flags (Offer p side)) Own pair side (λ r no. still)
      (λ up more. quiet (posts (offering pair side) side (next_offer Own pair side)) (posts_same (offering pair side) side (next_offer Own pair side)))
  flags_next_is (Check p side) e next = check_cases (Flags (Check p side)) Own pair side (λ r no. still) (λ _. still)
  flags_next_is (Ready p side queue) e next =
      ready_cases (Flags (Ready p side queue)) pair side queue (λ r no. still)
      (λ up checked. quiet (posts (readied pair side queue) side (ready_pad pair side queue)) (posts_same (readied pair side queue) side (ready_pad pair side queue)))
  flags_next_is (Join p side queue) e next = join_cases (Flags (Join p side queue)) pair side queue (λ r no. still) (λ up ready asked. still)
  flags_next_is (Begin p side queue frame) e next =
      let pieces = pieces_of (sizes_of Own side queue).largest frame in
      begin_cases reading (Flags (Begin p side queue frame)) (sizes_of Own side queue) pair side queue frame (λ r no. still)
      (λ may. quiet (begun (sizes_of Own side queue) pair side queue frame)
      (sent_same side queue (frame_begun queue (lane_of pair side queue) pieces) (frame_same queue (lane_of pair side queue) pieces (within side queue))))
  flags_next_is (QpDown p side queue) e next =
      qpdown_cases reading (Flags (QpDown p side queue)) (sizes_of Own side queue) pair side queue (λ r no. still)
      (λ may. quiet (closing pair side queue)
      (sent_same side queue (begun_lane queue (lane_of pair side queue) (GoesDown ∷ [])) (begun_same queue (lane_of pair side queue) (GoesDown ∷ []) (within side queue))))
  flags_next_is (Xbegin p side queue dev dst kind payload) e next =
      let frame = ethernet_frame dst (dev_plan plan.devs dev).address kind payload in
      let pieces = pieces_of (sizes_of Own side queue).largest frame in
      xbegin_cases reading (Flags (Xbegin p side queue dev dst kind payload)) (sizes_of Own side queue) (dev_plan plan.devs dev) pair side queue dst kind payload (λ r no. still)
      (λ may. quiet (sent_frame reading (sizes_of Own side queue) (dev_plan plan.devs dev) pair side queue frame)
      (sent_same side queue (frame_begun queue (lane_of pair side queue) pieces) (frame_same queue (lane_of pair side queue) pieces (within side queue))))
  flags_next_is (Post p side queue) e next =
      post_cases reading (Flags (Post p side queue)) pair side queue still
      (λ label rest is. post_of (record (lane_of pair side queue) { todo = rest }) label refl)
      (λ entry others label rest idle waits is. post_of (record (with_next queue (lane_of pair side queue) (entry ∷ others)) { todo = rest }) label
      (ap (map is_down_entry) (take-more (lane_of pair side queue).flagged (lane_of pair side queue).sent (entry ∷ []) (within side queue))))
    where
      post_of : (part : LanePart) (label : Label) → flags_had part ≡ flags_had (lane_of pair side queue) → Flags (Post p side queue) (record { answer = Posted label; after = posts_through reading (with_lane pair side queue part) side label })
      post_of part label same =
          quiet (posts_through reading (with_lane pair side queue part) side label) (through_same (with_lane pair side queue part) side label ∙ sent_same side queue part same)
  flags_next_is (Land p side place) e next = land_flags p e side place (λ label queue n down at may is. next label side place queue n down at may is)
  flags_next_is (Look p side queue) e next =
      look_cases reading (Flags (Look p side queue)) pair side queue (λ r no found. still) (λ may none. still)
      (λ may len left found. quiet (looking pair side queue len left) (received_same side queue (record (lane_to pair side queue) { phase = Copying; part = 0; len = len; left = left }) refl refl))
      (λ may. still)
  flags_next_is (Copy p side queue) e next =
      let lane = lane_to pair side queue in
      let gathered = lane.gathered ++ reading.part side queue in
      copy_cases reading (Flags (Copy p side queue)) pair side queue (λ r no. still)
      (λ turn more. quiet (with_lane pair (other_side side) queue (record lane { part = lane.part + 1; gathered = gathered })) (received_same side queue (record lane { part = lane.part + 1; gathered = gathered }) refl refl))
      (λ turn all others. quiet (with_lane pair (other_side side) queue (record lane { got = lane.got + 1; phase = Copied; gathered = gathered }))
      (received_same side queue (record lane { got = lane.got + 1; phase = Copied; gathered = gathered }) refl refl))
      (λ turn all last. quiet (copied_last pair side queue lane gathered).after (received_same side queue (record lane { got = lane.got + 1; phase = Copied; gathered = []; done = lane.done + 1 }) refl refl))
  flags_next_is (Clear p side queue) e next =
      let lane = lane_to pair side queue in
      clear_cases (Flags (Clear p side queue)) pair side queue (λ r no. still)
      (λ turn. quiet (clearing pair side queue) (received_same side queue (record lane { cleared = lane.cleared + 1; phase = Cleared }) refl refl))
  flags_next_is (Ack p side queue) e next =
      let lane = lane_to pair side queue in
      ack_cases reading (Flags (Ack p side queue)) pair side queue (λ r no. still)
      (λ turn. quiet (posts_through reading (acking pair side queue) side (Index queue lane.acked))
      (through_same (acking pair side queue) side (Index queue lane.acked) ∙ received_same side queue (record lane { acked = lane.acked + 1; phase = Idle }) refl refl))
  flags_next_is (Wake p side queue dev) e next = wake_cases (Flags (Wake p side queue dev)) reading (dev_plan plan.devs dev) pair side queue (λ r no. still) still
  flags_next_is (Spad p side i value) e next = quiet (posts pair side (Pad i value)) (posts_same pair side (Pad i value))
  flags_next_is (Poke p side window offset poked) e next =
      quiet (posts_raw pair side (Raw window offset (length poked)) poked) (same-posts_raw (Had own) pair side (Raw window offset (length poked)) poked (λ _. refl))
  flags_next_is step e next = still

-- After every log

by_last : {X : Type 0} (P : List X → Type 0) → P [] → ((xs : List X) (x : X) → P xs → P (xs ++ x ∷ [])) → (xs : List X) → P xs
by_last {X} P none more xs = go [] xs none
  where
    go : (front rest : List X) → P front → P (front ++ rest)
    go front [] h = subst P (sym (append-nil front)) h
    go front (x ∷ rest) h = subst P (append_assoc front (x ∷ []) rest) (go (front ++ x ∷ []) rest (more front x h))

module _ (plan : Plan) (memories : Memories) (own : LaneName) (no_raw : IsRaw plan own ≡ false) where
  abbrev Bytes_in : List Step → ℕ → Bytes
  Bytes_in steps k = memories (log_of plan memories steps) k

  abbrev Pair_in : List Step → ℕ → PairPart
  Pair_in steps k = ledger_of plan memories steps k

  abbrev Agrees : List Step → Type 0
  Agrees steps = flags_landed (log_of plan memories steps) own ≡ Had own (Pair_in steps own.pair)

  within_in : (steps : List Step) (side : Side) (queue : ℕ) → (lane_of (Pair_in steps own.pair) side queue).flagged ≤ length (lane_of (Pair_in steps own.pair) side queue).sent
  within_in steps side queue =
      let ahead = (flags_known plan memories steps (record { pair = own.pair; from = side; queue = queue }) no_raw).ahead in
      let w = ahead.within in
      omega arith

  next_in : (steps : List Step) (label : Label) (side : Side) (place queue n : ℕ) (down : Bool) → slice_get (side_of (Pair_in steps own.pair) side).flight place ≡ Some label
      → may_land (map (order_of (pair_plan plan own.pair) side) (side_of (Pair_in steps own.pair) side).flight) place ≡ true
      → (label ≡ Flag queue n) × (down ≡ false) ⊎ ((label ≡ Down queue n) × (down ≡ true)) → IsNext (lane_of (Pair_in steps own.pair) side queue) down
  next_in steps label side place queue n down at may (inl is) =
      let lane : LaneName = record { pair = own.pair; from = side; queue = queue } in
      let flag = subst (λ l. slice_get (side_of (Pair_in steps own.pair) side).flight place ≡ Some l) is.0 at in
      let lands = landing_flag plan memories steps lane no_raw place (Flag queue n) n (record { there = flag; may = may }) (flag_is queue n) in
      let of_entry = all_get (IsOfLane (Pair_in steps own.pair) side) (side_of (Pair_in steps own.pair) side).flight place (Flag queue n) (labels_are_of_entries plan memories steps own.pair side no_raw).in_flight flag in
      record {
        there = lands.1;
        kind = subst (λ k. is_down_entry (slice_index_or (lane_of (Pair_in steps own.pair) side queue).sent k GoesDown) ≡ down) lands.0 (not_down _ of_entry.1 ∙ sym is.1);
      }
    where
      not_down : (entry : Entry) → (entry ≡ GoesDown → ⊥) → is_down_entry entry ≡ false
      not_down (Carries bytes left) ne = refl
      not_down GoesDown ne = absurd (ne refl)
  next_in steps label side place queue n down at may (inr is) =
      let lane : LaneName = record { pair = own.pair; from = side; queue = queue } in
      let flag = subst (λ l. slice_get (side_of (Pair_in steps own.pair) side).flight place ≡ Some l) is.0 at in
      let lands = landing_flag plan memories steps lane no_raw place (Down queue n) n (record { there = flag; may = may }) (down_is queue n) in
      let of_entry = all_get (IsOfLane (Pair_in steps own.pair) side) (side_of (Pair_in steps own.pair) side).flight place (Down queue n) (labels_are_of_entries plan memories steps own.pair side no_raw).in_flight flag in
      record {
        there = lands.1;
        kind = subst (λ k. is_down_entry (slice_index_or (lane_of (Pair_in steps own.pair) side queue).sent k GoesDown) ≡ down) lands.0 (ap is_down_entry of_entry.1 ∙ sym is.1);
      }

  agrees_next : (steps : List Step) (step : Step) → Agrees steps → Agrees (steps ++ step ∷ [])
  agrees_next steps step h =
      ap (λ log. flags_landed log own) (log_of-last plan memories steps step) ∙ landed-last own (log_of plan memories steps) (made_by plan (subject_of step) (Bytes_in steps (subject_of step)) (Pair_in steps (subject_of step)) step)
      ∙ ap (λ now. flags_next own now (made_by plan (subject_of step) (Bytes_in steps (subject_of step)) (Pair_in steps (subject_of step)) step)) h ∙ step_is
      ∙ ap (λ (ledger : Ledger). Had own (ledger own.pair)) (sym (ledger_of-last plan memories steps step))
    where
      Now : List Bool
      Now = Had own (Pair_in steps own.pair)

      Left : ℕ → PairPart
      Left k = left_by plan k (Bytes_in steps k) (Pair_in steps k) step

      Made : ℕ → Answered
      Made k = made_by plan k (Bytes_in steps k) (Pair_in steps k) step

      here : subject_of step ≡ own.pair → flags_next own (Had own (Pair_in steps own.pair)) (Made own.pair) ≡ Had own (Left own.pair)
      here e =
          flags_next_is plan own (reading_of (pair_plan plan own.pair) (Bytes_in steps own.pair) (Pair_in steps own.pair)) (Bytes_in steps own.pair) (Pair_in steps own.pair) (within_in steps) step e (next_in steps)

      step_is : flags_next own (Had own (Pair_in steps own.pair)) (Made (subject_of step)) ≡ Had own (if own.pair == subject_of step then Left (subject_of step) else Pair_in steps own.pair)
      step_is = elim (cases_eq own.pair (subject_of step)) [
        | inl e ↦
            subst (λ k. flags_next own (Had own (Pair_in steps own.pair)) (Made k) ≡ Had own (if own.pair == k then Left k else Pair_in steps own.pair)) e
            (subst (λ b. flags_next own (Had own (Pair_in steps own.pair)) (Made own.pair) ≡ Had own (if b then Left own.pair else Pair_in steps own.pair)) (sym (eq-eqb own.pair own.pair refl)) (here (sym e)))
        | inr ne ↦
            subst (λ b. flags_next own (Had own (Pair_in steps own.pair)) (Made (subject_of step)) ≡ Had own (if b then Left (subject_of step) else Pair_in steps own.pair)) (sym (ne_eqb own.pair (subject_of step) ne))
            (told-elsewhere own (Had own (Pair_in steps own.pair)) step (Made (subject_of step)).answer (λ e. ne (sym e)))
      ]

  flags_agree : (steps : List Step) → Agrees steps
  flags_agree = by_last Agrees (sym (ap flags_had (fresh-lane (pair_plan plan own.pair) own.from own.queue))) agrees_next

-- What a look is answered

look_found : (is : Answer → Bool) → is NotReady ≡ false → is Closed ≡ false → is OutOfTurn ≡ false → (joined shut idle : Bool) (old new : PairPart) (found : Answer)
    → is (decided old (refuse_if (not joined) NotReady (refuse_if shut Closed (refuse_if (not idle) OutOfTurn None))) found new).answer ≡ ((joined && (not shut && not (not idle))) && is found)
look_found is a b c false shut idle old new found = a
look_found is a b c true true idle old new found = b
look_found is a b c true false false old new found = c
look_found is a b c true false true old new found = refl

empty_found : (pair : PairPart) (side : Side) (queue : ℕ) (none : Bool) (entry : Entry) → is_empty_answer (look_at pair side queue (if none then NoEntry else found_entry entry)).answer ≡ none
empty_found pair side queue true entry = refl
empty_found pair side queue false (Carries bytes left) = refl
empty_found pair side queue false GoesDown = refl

down_found : (pair : PairPart) (side : Side) (queue : ℕ) (none : Bool) (entry : Entry) → is_peer_down (look_at pair side queue (if none then NoEntry else found_entry entry)).answer ≡ (not none && is_down_entry entry)
down_found pair side queue true entry = refl
down_found pair side queue false (Carries bytes left) = refl
down_found pair side queue false GoesDown = refl

-- what is so where the side may look
where_may : (joined shut idle : Bool) (x y : Bool) → (joined ≡ true → idle ≡ true → x ≡ y) → ((joined && (not shut && not (not idle))) && x) ≡ ((joined && (not shut && not (not idle))) && y)
where_may false shut idle x y h = refl
where_may true true idle x y h = refl
where_may true false false x y h = refl
where_may true false true x y h = h refl refl

module _ (plan : Plan) (memories : Memories) (steps : List Step) (p : ℕ) (side : Side) (queue : ℕ) (no_raw : (pair_plan plan p).raw ≡ false) where
  abbrev Pair : PairPart
  Pair = ledger_of plan memories steps p

  abbrev Lane : LanePart
  Lane = lane_to Pair side queue

  abbrev Log : List Answered
  Log = log_of plan memories steps

  abbrev Flags_seen : List Bool
  Flags_seen = flags_landed Log (lane_received p side queue)

  abbrev Knows : Driver
  Knows = driver_after plan Log (queue_named p side queue)

  agree : Flags_seen ≡ flags_had Lane
  agree = flags_agree plan memories (lane_received p side queue) no_raw steps

  known : Knows ≡ queue_of_ledger (queue_named p side queue) Pair
  known = drivers_know plan memories steps (queue_named p side queue)

  ahead_is : HasFlagsAhead queue (is_up (sight (other_side side) queue Pair).state) Lane.flagged (length Lane.sent) (sight (other_side side) queue Pair).sender.flight Lane.todo
  ahead_is = (flags_known plan memories steps (lane_received p side queue) no_raw).ahead

  counted : length (flags_had Lane) ≡ Lane.flagged
  counted = length-map (take Lane.flagged Lane.sent) is_down_entry ∙ length-take Lane.flagged Lane.sent (let w = ahead_is.within in omega arith)

  abbrev IsLast : Bool
  IsLast = Lane.flagged == Lane.got

  same_none : Lane.got ≡ Lane.cleared → IsLast ≡ has_none (flags_had Lane) (queue_of_ledger (queue_named p side queue) Pair)
  same_none all = ap (λ n. n == Lane.got) (sym counted) ∙ ap (λ n. length (flags_had Lane) == n) all

  same_down : Lane.got ≡ Lane.cleared → (not IsLast && is_down_entry (entry_in Lane Lane.got))
      ≡ (not (has_none (flags_had Lane) (queue_of_ledger (queue_named p side queue) Pair)) && slice_index_or (flags_had Lane) Lane.cleared false)
  same_down all = ap (λ b. not b && is_down_entry (entry_in Lane Lane.got)) (same_none all) ∙ elim (cases_Bool IsLast) [
    | inl last ↦ cut (has_none (flags_had Lane) (queue_of_ledger (queue_named p side queue) Pair)) (is_down_entry (entry_in Lane Lane.got)) (slice_index_or (flags_had Lane) Lane.cleared false) (sym (same_none all) ∙ last)
    | inr more ↦ ap (λ b. not (has_none (flags_had Lane) (queue_of_ledger (queue_named p side queue) Pair)) && b) (sym (ap (λ n. slice_index_or (flags_had Lane) n false) (sym all)
        ∙ map-take-index Lane.flagged Lane.got Lane.sent
        (let taken = (flags_known plan memories steps (lane_received p side queue) no_raw).taken in let w = taken.within in let ne = eqb-false Lane.flagged Lane.got more in grind (arith, ne))
        (let w = ahead_is.within in omega arith)))
  ]
    where
      cut : (b x y : Bool) → b ≡ true → (not b && x) ≡ (not b && y)
      cut true x y e = refl
      cut false x y e = absurd (false≢true e)

  abbrev Joined_now : Bool
  Joined_now = has_bit (side_of Pair side).joined queue

  abbrev Idle_now : Bool
  Idle_now = is_idle Lane.phase

  -- what is seen of the log, in place of what the ledger has
  seen : (f : List Bool → Driver → Bool) → f (flags_had Lane) (queue_of_ledger (queue_named p side queue) Pair) ≡ f Flags_seen Knows
  seen f = ap (λ flags. f flags (queue_of_ledger (queue_named p side queue) Pair)) (sym agree) ∙ ap (λ driver. f Flags_seen driver) (sym known)

  abbrev Look_answer : Answer
  Look_answer = (look_step (by_ledger (pair_plan plan p) Pair) Pair side queue).answer

  looked_empty : is_empty_answer Look_answer ≡ finds_nothing plan Log (Look p side queue)
  looked_empty =
      look_found is_empty_answer refl refl refl Joined_now (has_bit (side_of Pair side).closed queue) Idle_now Pair (look_at Pair side queue (found_in_ledger Lane)).after (look_at Pair side queue (found_in_ledger Lane)).answer
      ∙ where_may Joined_now (has_bit (side_of Pair side).closed queue) Idle_now (is_empty_answer (look_at Pair side queue (found_in_ledger Lane)).answer) (has_none (flags_had Lane) (queue_of_ledger (queue_named p side queue) Pair))
      (λ joined idle. empty_found Pair side queue IsLast (entry_in Lane Lane.got) ∙ same_none (cleared_all plan memories steps p side queue joined idle))
      ∙ seen (λ flags driver. may_look driver && has_none flags driver)

  looked_down : is_peer_down Look_answer ≡ finds_down plan Log (Look p side queue)
  looked_down =
      look_found is_peer_down refl refl refl Joined_now (has_bit (side_of Pair side).closed queue) Idle_now Pair (look_at Pair side queue (found_in_ledger Lane)).after (look_at Pair side queue (found_in_ledger Lane)).answer
      ∙ where_may Joined_now (has_bit (side_of Pair side).closed queue) Idle_now (is_peer_down (look_at Pair side queue (found_in_ledger Lane)).answer)
      (not (has_none (flags_had Lane) (queue_of_ledger (queue_named p side queue) Pair)) && slice_index_or (flags_had Lane) Lane.cleared false)
      (λ joined idle. down_found Pair side queue IsLast (entry_in Lane Lane.got) ∙ same_down (cleared_all plan memories steps p side queue joined idle))
      ∙ seen (λ flags driver. may_look driver && (not (has_none flags driver) && slice_index_or flags driver.cleared false))

-- The laws

-- what an ordinary pair reads is the ledger's
after_look : (plan : Plan) (memories : Memories) (steps : List Step) (p : ℕ) (side : Side) (queue : ℕ) → (pair_plan plan p).raw ≡ false
    → (look_step (by_ledger (pair_plan plan p) (ledger_of plan memories steps p)) (ledger_of plan memories steps p) side queue).answer ≡ (outcome_in plan (memories (log_of plan memories steps)) (ledger_of plan memories steps) (Look p side queue)).answer
after_look plan memories steps p side queue no_raw =
    let own = pair_plan plan p in
    let pair = ledger_of plan memories steps p in
    let bytes = memories (log_of plan memories steps) p in
    ap (λ (reading : Reading). (look_step reading pair side queue).answer) (sym (cond-false own.raw (by_bytes own bytes pair) (by_ledger own pair) no_raw))

empty_after : (plan : Plan) (memories : Memories) (steps : List Step) (step : Step) → IsOrdinaryPair plan (subject_of step)
    → is_empty_answer (outcome_in plan (memories (log_of plan memories steps)) (ledger_of plan memories steps) step).answer ≡ finds_nothing plan (log_of plan memories steps) step
empty_after plan memories steps (Look p side queue) ordinary = ap is_empty_answer (sym (after_look plan memories steps p side queue ordinary)) ∙ looked_empty plan memories steps p side queue ordinary
empty_after plan memories steps (Enable p side) ordinary = (neither_after plan memories steps (Enable p side) refl).0
empty_after plan memories steps (Train p) ordinary = (neither_after plan memories steps (Train p) refl).0
empty_after plan memories steps (Break p) ordinary = (neither_after plan memories steps (Break p) refl).0
empty_after plan memories steps (DropDone p) ordinary = (neither_after plan memories steps (DropDone p) refl).0
empty_after plan memories steps (Clean p side) ordinary = (neither_after plan memories steps (Clean p side) refl).0
empty_after plan memories steps (Offer p side) ordinary = (neither_after plan memories steps (Offer p side) refl).0
empty_after plan memories steps (Check p side) ordinary = (neither_after plan memories steps (Check p side) refl).0
empty_after plan memories steps (Ready p side queue) ordinary = (neither_after plan memories steps (Ready p side queue) refl).0
empty_after plan memories steps (Join p side queue) ordinary = (neither_after plan memories steps (Join p side queue) refl).0
empty_after plan memories steps (Begin p side queue frame) ordinary = (neither_after plan memories steps (Begin p side queue frame) refl).0
empty_after plan memories steps (QpDown p side queue) ordinary = (neither_after plan memories steps (QpDown p side queue) refl).0
empty_after plan memories steps (Xbegin p side queue dev dst kind payload) ordinary = (neither_after plan memories steps (Xbegin p side queue dev dst kind payload) refl).0
empty_after plan memories steps (Post p side queue) ordinary = (neither_after plan memories steps (Post p side queue) refl).0
empty_after plan memories steps (Land p side place) ordinary = (neither_after plan memories steps (Land p side place) refl).0
empty_after plan memories steps (Copy p side queue) ordinary = (neither_after plan memories steps (Copy p side queue) refl).0
empty_after plan memories steps (Clear p side queue) ordinary = (neither_after plan memories steps (Clear p side queue) refl).0
empty_after plan memories steps (Ack p side queue) ordinary = (neither_after plan memories steps (Ack p side queue) refl).0
empty_after plan memories steps (Wake p side queue dev) ordinary = (neither_after plan memories steps (Wake p side queue dev) refl).0
empty_after plan memories steps step ordinary = refl

down_after : (plan : Plan) (memories : Memories) (steps : List Step) (step : Step) → IsOrdinaryPair plan (subject_of step)
    → is_peer_down (outcome_in plan (memories (log_of plan memories steps)) (ledger_of plan memories steps) step).answer ≡ finds_down plan (log_of plan memories steps) step
down_after plan memories steps (Look p side queue) ordinary = ap is_peer_down (sym (after_look plan memories steps p side queue ordinary)) ∙ looked_down plan memories steps p side queue ordinary
down_after plan memories steps (Enable p side) ordinary = (neither_after plan memories steps (Enable p side) refl).1
down_after plan memories steps (Train p) ordinary = (neither_after plan memories steps (Train p) refl).1
down_after plan memories steps (Break p) ordinary = (neither_after plan memories steps (Break p) refl).1
down_after plan memories steps (DropDone p) ordinary = (neither_after plan memories steps (DropDone p) refl).1
down_after plan memories steps (Clean p side) ordinary = (neither_after plan memories steps (Clean p side) refl).1
down_after plan memories steps (Offer p side) ordinary = (neither_after plan memories steps (Offer p side) refl).1
down_after plan memories steps (Check p side) ordinary = (neither_after plan memories steps (Check p side) refl).1
down_after plan memories steps (Ready p side queue) ordinary = (neither_after plan memories steps (Ready p side queue) refl).1
down_after plan memories steps (Join p side queue) ordinary = (neither_after plan memories steps (Join p side queue) refl).1
down_after plan memories steps (Begin p side queue frame) ordinary = (neither_after plan memories steps (Begin p side queue frame) refl).1
down_after plan memories steps (QpDown p side queue) ordinary = (neither_after plan memories steps (QpDown p side queue) refl).1
down_after plan memories steps (Xbegin p side queue dev dst kind payload) ordinary = (neither_after plan memories steps (Xbegin p side queue dev dst kind payload) refl).1
down_after plan memories steps (Post p side queue) ordinary = (neither_after plan memories steps (Post p side queue) refl).1
down_after plan memories steps (Land p side place) ordinary = (neither_after plan memories steps (Land p side place) refl).1
down_after plan memories steps (Copy p side queue) ordinary = (neither_after plan memories steps (Copy p side queue) refl).1
down_after plan memories steps (Clear p side queue) ordinary = (neither_after plan memories steps (Clear p side queue) refl).1
down_after plan memories steps (Ack p side queue) ordinary = (neither_after plan memories steps (Ack p side queue) refl).1
down_after plan memories steps (Wake p side queue dev) ordinary = (neither_after plan memories steps (Wake p side queue dev) refl).1
down_after plan memories steps step ordinary = refl

-- On an ordinary pair a look that may be made is answered `empty` if and only if all entries flagged were cleared.
pub empty_where_nothing_landed : EmptyWhereNothingLanded
empty_where_nothing_landed plan memories steps step answer ordinary goes = ap is_empty_answer (answer_of plan memories steps step answer goes) ∙ empty_after plan memories steps step ordinary

-- On an ordinary pair a look that may be made is `peerdown` if and only if the next landed flags say link-down.
pub peer_down_where_down_landed : PeerDownWhereDownLanded
peer_down_where_down_landed plan memories steps step answer ordinary goes = ap is_peer_down (answer_of plan memories steps step answer goes) ∙ down_after plan memories steps step ordinary
