-- Flags and doorbells of a lane that are left, in flight and then to post: each flag is followed by its doorbell. A
-- receiver that saw nothing has nothing to look for, or its doorbell is pending or on its way.
use Rattle.std.proofs.Common.{◌≡◌, ℕ, zero, suc, ◌+◌, ◌==◌, Bool, true, false, Option, Some, None, List, [], ◌∷◌, ◌++◌, length, map, refl, sym, ap, ◌∙◌, inl, inr, ◌⊎◌, arith}
use Rattle.std.specs.Prelude.{if◌then◌else◌, remove}
use Rattle.std.specs.List.{filter_map, cons_option}
use Rattle.std.proofs.lemmas.Bool.{eq-eqb, ne_eqb, eqb-true, cases_eq, false≢true, true≢false, both_ways, cond-true, cond-false}
use Rattle.std.proofs.lemmas.List.{append-nil, length-append}
use Rattle.step_kinds.specs.Bits.{has_bit, with_bit, without_bits}
use Rattle.step_kinds.specs.declared.names.LaneName.{LaneName}
use Rattle.step_kinds.specs.declared.plan.Plan.{Plan}
use Rattle.step_kinds.specs.declared.steps.Label.{Label}
use Rattle.step_kinds.specs.declared.steps.Label.TheVariants.{Bell, Pad}
use Rattle.lane_model.specs.Lane.{Entry, GoesDown, bytes_of, count_from, chunks_in, writes_of}
use Rattle.lane_model.specs.declared.Field.TheVariants.{Chunk as PayloadChunk, Length, Version}
use Rattle.lane_model.specs.declared.Phase.{Phase}
use Rattle.lane_model.specs.declared.Phase.TheVariants.{Idle, Copying, Copied, Cleared}
use Rattle.lane_model.specs.declared.Write.{Write}
use Rattle.lane_model.specs.declared.Write.TheVariants.{Data, Flag as EntryFlag, Bell as QueueBell}
use Rattle.ledger_model.specs.Labels.{label_of, labels_of, write_of}
use Rattle.pair_model.specs.Link.{is_up, is_down}
use Rattle.ledger_model.specs.Log.{Answered}
use Rattle.ledger_model.specs.Receiving.{is_idle, is_copying, is_copied, is_cleared}
use Rattle.order_rules.specs.Order.{strict}
use Rattle.pair_model.specs.Orders.{kind_of, order_of}
use Rattle.ledger_laws.proofs.AtStart.{down-not_up}
use Rattle.ledger_laws.proofs.BitSets.{has-with_kept, has-with_same, stays_pending}
use Rattle.ledger_laws.proofs.InFlight.{filter_map-last, filter_map-remove, lands_first, posted_unread, posted_up, EmptyOf}
use Rattle.ledger_laws.proofs.Labels.{write_of-label, flag_strict, bell_strict, ReadsOneClass, writes_one_class}
use Rattle.std.proofs.lemmas.Option.{none-some}
use Rattle.pair_model.specs.Plans.{pair_plan}
use Rattle.step_kinds.specs.declared.names.Side.{Side}
use Rattle.step_kinds.specs.declared.plan.PairPlan.{PairPlan}
use Rattle.ledger_laws.proofs.Offers.{pad-write}
use Rattle.ledger_laws.proofs.walk.Sight.{Sight, Sender, Receiver, flight_with}
use Rattle.ledger_laws.proofs.walk.News.{News}
use Rattle.ledger_laws.proofs.walk.Turn.{Turn, Rests, FindsNone, Trains, Breaks, Drops, Forgets, Offers, Readies, Begins, Closes, Posts, Shuts, Says, LandsFlag, LandsField, LandsBell, LandsPad, LandsAside, Looks, CopiesEntry, CopiesLast, Clears, Acks, TakesBells, MayLand, PostsNext, Strays, picked, IsRaw}

-- The ticks of writes: true for the flags of an entry, false for its doorbell

abbrev pub tick : Option Write → Option Bool
tick (Some (EntryFlag n)) = Some true
tick (Some QueueBell) = Some false
tick write = None

abbrev pub tick_of : ℕ → Label → Option Bool
tick_of q label = tick (write_of q label)

abbrev pub ticks_of : ℕ → List Label → List Bool
ticks_of q labels = filter_map (tick_of q) labels

-- this many flags, each with its doorbell after it
abbrev pub rounds : ℕ → List Bool
rounds zero = []
rounds (suc n) = true ∷ false ∷ rounds n

-- the doorbell of a landed flag may stand in front
abbrev pub ringing_rounds : Bool → ℕ → List Bool
ringing_rounds ringing n = if ringing then false ∷ rounds n else rounds n

rounds-last : (n : ℕ) → rounds n ++ true ∷ false ∷ [] ≡ rounds (suc n)
rounds-last zero = refl
rounds-last (suc n) = ap (λ rest. true ∷ false ∷ rest) (rounds-last n)

ringing-last : (ringing : Bool) (n : ℕ) → ringing_rounds ringing n ++ true ∷ false ∷ [] ≡ ringing_rounds ringing (suc n)
ringing-last true n = ap (λ rest. false ∷ rest) (rounds-last n)
ringing-last false n = rounds-last n

-- an entry's writes are one round
labels_tick : (q : ℕ) (entry : Entry) (writes : List Write) → ticks_of q (map (label_of q entry) writes) ≡ filter_map (λ w. tick (Some w)) writes
labels_tick q entry [] = refl
labels_tick q entry (w ∷ writes) = (λ i. cons_option (tick (write_of-label q entry w i)) (labels_tick q entry writes i))

writes_tick : (n : ℕ) (parts : List ℕ) → filter_map (λ w. tick (Some w)) ((map (λ part. Data n (PayloadChunk part)) parts ++ Data n Length ∷ Data n Version ∷ []) ++ EntryFlag n ∷ QueueBell ∷ []) ≡ true ∷ false ∷ []
writes_tick n [] = refl
writes_tick n (part ∷ parts) = writes_tick n parts

entry_ticks : (q n : ℕ) (entry : Entry) → ticks_of q (labels_of q n entry) ≡ true ∷ false ∷ []
entry_ticks q n entry = labels_tick q entry (writes_of n entry) ∙ writes_tick n (count_from 0 (chunks_in (length (bytes_of entry))))

-- what is left of a lane: what is in flight, and then what is to post
abbrev pub left_of : ℕ → Sight → List Bool
left_of q s = ticks_of q s.sender.flight ++ ticks_of q s.lane.todo

-- Each entry without a landed flag has its flag and doorbell left, in order

pub record IsLined (ticks : List Bool) (flagged begun : ℕ) : Type 0 where
  pub ringing : Bool
  pub left : ℕ
  pub is : ticks ≡ ringing_rounds ringing left
  pub count : flagged + left ≡ begun

abbrev pub LinedOf : ℕ → Sight → Type 0
LinedOf q s = IsLined (left_of q s) s.lane.flagged (length s.lane.sent)

-- the same ticks
lined_by : (before after : List Bool) (flagged begun : ℕ) → after ≡ before → IsLined before flagged begun → IsLined after flagged begun
lined_by before after flagged begun e h = record { ringing = h.ringing; left = h.left; is = e ∙ h.is; count = h.count }

-- an entry is begun
ticks_begun : (q : ℕ) (s : Sight) (entry : Entry) → s.lane.todo ≡ []
    → ticks_of q s.sender.flight ++ ticks_of q (labels_of q (length s.lane.sent) entry) ≡ left_of q s ++ true ∷ false ∷ []
ticks_begun q s entry idle =
    ap (λ ticks. ticks_of q s.sender.flight ++ ticks) (entry_ticks q (length s.lane.sent) entry)
    ∙ ap (λ ticks. ticks ++ true ∷ false ∷ []) (sym (append-nil (ticks_of q s.sender.flight)) ∙ ap (λ labels. ticks_of q s.sender.flight ++ ticks_of q labels) (sym idle))

lined_begun : (q : ℕ) (s : Sight) (entry : Entry) → s.lane.todo ≡ [] → LinedOf q s
    → IsLined (ticks_of q s.sender.flight ++ ticks_of q (labels_of q (length s.lane.sent) entry)) s.lane.flagged (length (s.lane.sent ++ entry ∷ []))
lined_begun q s entry idle h = record {
  ringing = h.ringing;
  left = suc h.left;
  is = ticks_begun q s entry idle ∙ ap (λ ticks. ticks ++ true ∷ false ∷ []) h.is ∙ ringing-last h.ringing h.left;
  count = let a = h.count in let b = length-append s.lane.sent (entry ∷ []) in omega arith;
}

-- a write of the lane is posted
cons-through : (xs : List Bool) (o : Option Bool) (ys : List Bool) → (xs ++ cons_option o []) ++ ys ≡ xs ++ cons_option o ys
cons-through [] None ys = refl
cons-through [] (Some b) ys = refl
cons-through (x ∷ xs) o ys = ap (λ rest. x ∷ rest) (cons-through xs o ys)

ticks_posted : (q : ℕ) (s : Sight) (label : Label) (rest : List Label) → is_up s.state ≡ true → s.lane.todo ≡ label ∷ rest
    → ticks_of q (flight_with s.state s.sender.flight label) ++ ticks_of q rest ≡ left_of q s
ticks_posted q s label rest up next =
    ap (λ flight. ticks_of q flight ++ ticks_of q rest) (posted_up s.state s.sender.flight label up)
    ∙ ap (λ ticks. ticks ++ ticks_of q rest) (filter_map-last (tick_of q) s.sender.flight label)
    ∙ cons-through (ticks_of q s.sender.flight) (tick_of q label) (ticks_of q rest)
    ∙ ap (λ todo. ticks_of q s.sender.flight ++ ticks_of q todo) (sym next)

-- a write that is no tick is posted, or lands
ticks_said : (q : ℕ) (s : Sight) (label : Label) → write_of q label ≡ None → ticks_of q (flight_with s.state s.sender.flight label) ++ ticks_of q s.lane.todo ≡ left_of q s
ticks_said q s label foreign = ap (λ ticks. ticks ++ ticks_of q s.lane.todo) (posted_unread (tick_of q) s.state s.sender.flight label (ap tick foreign))

ticks_without : (q : ℕ) {own : PairPlan} {side : Side} (s : Sight) (place : ℕ) (label : Label) → MayLand own side s Sender place label → tick_of q label ≡ None
    → ticks_of q (remove s.sender.flight place) ++ ticks_of q s.lane.todo ≡ left_of q s
ticks_without q s place label may none = ap (λ ticks. ticks ++ ticks_of q s.lane.todo) (filter_map-remove (tick_of q) s.sender.flight place label may.there none)

-- a tick lands
ticks_one_class : (own : PairPlan) (side : Side) (q : ℕ) (label : Label) (write : Write) → write_of q label ≡ Some write → ReadsOneClass (tick_of q) own side label
ticks_one_class own side q label write is other y some = go (write_of q other) refl
  where
    go : (o : Option Write) → write_of q other ≡ o → (order_of own side other).class ≡ (order_of own side label).class
    go None e = absurd (none-some y (sym (ap tick e) ∙ some))
    go (Some w) e = writes_one_class own side q label write is other w e

ticks_first : (q : ℕ) (own : PairPlan) (side : Side) (s : Sight) (place : ℕ) (label : Label) (write : Write) (b : Bool) → MayLand own side s Sender place label → kind_of own.strict label ≡ strict
    → write_of q label ≡ Some write → tick (Some write) ≡ Some b → left_of q s ≡ b ∷ (ticks_of q (remove s.sender.flight place) ++ ticks_of q s.lane.todo)
ticks_first q own side s place label write b may is some ticks =
    ap (λ found. found ++ ticks_of q s.lane.todo)
    (lands_first (tick_of q) own side label is (ticks_one_class own side q label write some) s Sender place b may (ap tick some ∙ ticks))

flag_first : (ringing : Bool) (left : ℕ) (rest : List Bool) → true ∷ rest ≡ ringing_rounds ringing left → (m : ℕ) × (rest ≡ false ∷ rounds m) × (left ≡ suc m)
flag_first true left rest e = absurd (cc)
flag_first false zero rest e = absurd (cc)
flag_first false (suc m) rest e = (m, (cc), refl)

bell_first : (ringing : Bool) (left : ℕ) (rest : List Bool) → false ∷ rest ≡ ringing_rounds ringing left → rest ≡ rounds left
bell_first true left rest e = cc
bell_first false zero rest e = absurd (cc)
bell_first false (suc m) rest e = absurd (cc)

flag_lined : (before after : List Bool) (flagged begun : ℕ) → before ≡ true ∷ after → IsLined before flagged begun → ((rest : List Bool) × (after ≡ false ∷ rest)) × IsLined after (flagged + 1) begun
flag_lined before after flagged begun e h =
    let m = flag_first h.ringing h.left after (sym e ∙ h.is) in
    ((rounds m.0, m.1), record { ringing = true; left = m.0; is = m.1; count = let c = h.count in let l = m.2 in omega arith })

bell_lined : (before after : List Bool) (flagged begun : ℕ) → before ≡ false ∷ after → IsLined before flagged begun → IsLined after flagged begun
bell_lined before after flagged begun e h = record { ringing = false; left = h.left; is = bell_first h.ringing h.left after (sym e ∙ h.is); count = h.count }

-- the doorbell of this queue and of another one
own_bell : (q : ℕ) → tick_of q (Bell q) ≡ Some false
own_bell q = ap tick (cond-true (q == q) (Some QueueBell) None (eq-eqb q q refl))

other_bell : (q queue : ℕ) → (q ≡ queue → ⊥) → tick_of q (Bell queue) ≡ None
other_bell q queue ne = ap tick (cond-false (queue == q) (Some QueueBell) None (ne_eqb queue q (λ e. ne (sym e))))

bell_lands : (q queue : ℕ) {own : PairPlan} {side : Side} (s : Sight) (place : ℕ) → MayLand own side s Sender place (Bell queue) → (q ≡ queue) ⊎ (q ≡ queue → ⊥) → LinedOf q s
    → IsLined (ticks_of q (remove s.sender.flight place) ++ ticks_of q s.lane.todo) s.lane.flagged (length s.lane.sent)
bell_lands q queue {own} {side} s place may (inl e) h =
    bell_lined (left_of q s) _ _ _ (ticks_first q own side s place (Bell queue) QueueBell false may (bell_strict own.strict queue) (cond-true (queue == q) (Some QueueBell) None (eq-eqb queue q (sym e))) refl) h
bell_lands q queue s place may (inr ne) h = lined_by (left_of q s) _ _ _ (ticks_without q s place (Bell queue) may (other_bell q queue ne)) h

-- nothing of a session that is over
over : (s : Sight) {X : Type 0} → is_down s.state ≡ true → is_up s.state ≡ true → X
over s down up = absurd (both_ways (is_up s.state) (down-not_up s.state down) up)

-- While an ordinary pair's link is up each turn keeps flags and doorbell left to land for each entry without flags.
pub lined_kept : (plan : Plan) (lane : LaneName) (s : Sight) (made : Answered) (news : News) (t : Sight) → IsRaw plan lane ≡ false → Turn plan lane s made news t → EmptyOf s
    → (is_up s.state ≡ true → LinedOf lane.queue s) → is_up t.state ≡ true → LinedOf lane.queue t
lined_kept plan lane s made news t no_raw (Trains may) empty h up = record { ringing = false; left = 0; is = ap (λ flight. ticks_of lane.queue flight ++ []) (empty may.down).0; count = refl }
lined_kept plan lane s made news t no_raw (Breaks may) empty h up = absurd (false≢true up)
lined_kept plan lane s made news t no_raw (Drops may) empty h up = absurd (false≢true up)
lined_kept plan lane s made news t no_raw (Forgets e may) empty h up = over s may.down up
lined_kept plan lane s made news t no_raw (Offers Sender label may) empty h up = lined_by _ _ _ _ (ticks_said lane.queue s label (pad-write lane.queue label may.a_pad)) (h up)
lined_kept plan lane s made news t no_raw (Readies Sender queue may) empty h up = lined_by _ _ _ _ (ticks_said lane.queue s _ refl) (h up)
lined_kept plan lane s made news t no_raw (Begins bytes first others may cut) empty h up = lined_begun lane.queue s first may.not_busy (h up)
lined_kept plan lane s made news t no_raw (Closes may) empty h up = lined_begun lane.queue s GoesDown may.not_busy (h up)
lined_kept plan lane s made news t no_raw (Posts label rest may) empty h up = lined_by _ _ _ _ (ticks_posted lane.queue s label rest up may.next) (h up)
lined_kept plan lane s made news t no_raw (PostsNext entry others label rest may) empty h up =
    lined_by _ _ _ _ (ticks_posted lane.queue (record s { lane = picked lane.queue s.lane entry others }) label rest up may.next) (lined_begun lane.queue s entry may.idle (h up))
lined_kept plan lane s made news t no_raw (Strays after may) empty h up = absurd (both_ways (IsRaw plan lane) no_raw may.raw_pair)
lined_kept plan lane s made news t no_raw (Says Sender label may) empty h up = lined_by _ _ _ _ (ticks_said lane.queue s label may.foreign) (h up)
lined_kept plan lane s made news t no_raw (LandsFlag place label n may) empty h up =
    (flag_lined _ _ _ _ (ticks_first lane.queue (pair_plan plan lane.pair) lane.from s place label (EntryFlag n) true may.land (flag_strict lane.queue (pair_plan plan lane.pair).strict label n may.is) may.is refl) (h up)).1
lined_kept plan lane s made news t no_raw (LandsField place label n field may) empty h up = lined_by _ _ _ _ (ticks_without lane.queue s place label may.land (ap tick may.is)) (h up)
lined_kept plan lane s made news t no_raw (LandsBell Sender place queue may) empty h up = bell_lands lane.queue queue s place may (cases_eq lane.queue queue) (h up)
lined_kept plan lane s made news t no_raw (LandsPad Sender place i value may) empty h up = lined_by _ _ _ _ (ticks_without lane.queue s place (Pad i value) may refl) (h up)
lined_kept plan lane s made news t no_raw (LandsAside Sender place label may) empty h up = lined_by _ _ _ _ (ticks_without lane.queue s place label may.land (ap tick may.foreign)) (h up)
lined_kept plan lane s made news t no_raw turn empty h up = h up

-- A receiver that saw nothing

pub record IsWatched (ticks : List Bool) (pending : Bool) (flagged got : ℕ) (phase : Phase) : Type 0 where
  pub idle : is_idle phase ≡ true
  pub why : (got ≡ flagged) ⊎ ((pending ≡ true) ⊎ ((rest : List Bool) × (ticks ≡ false ∷ rest)))

abbrev pub WatchedOf : ℕ → Sight → Type 0
WatchedOf q s = IsWatched (left_of q s) (has_bit s.receiver.pending q) s.lane.flagged s.lane.got s.lane.phase

-- the same ticks, or more after them, and no doorbell less
watched_by : (before after : List Bool) (pending still : Bool) (flagged got : ℕ) (phase : Phase) → ((rest : List Bool) → before ≡ false ∷ rest → (more : List Bool) × (after ≡ false ∷ more))
    → (pending ≡ true → still ≡ true) → IsWatched before pending flagged got phase → IsWatched after still flagged got phase
watched_by before after pending still flagged got phase ticks bells h = record {
  idle = h.idle;
  why = elim h.why [
    | inl e ↦ inl e
    | inr more ↦ elim more [ inl p ↦ inr (inl (bells p)) | inr w ↦ inr (inr (ticks w.0 w.1)) ]
  ];
}

watched_alike : {before after : List Bool} {pending : Bool} {flagged got : ℕ} {phase : Phase} → after ≡ before → IsWatched before pending flagged got phase → IsWatched after pending flagged got phase
watched_alike {before} {after} {pending} e h = watched_by before after pending pending _ _ _ (λ rest is. (rest, e ∙ is)) (λ p. p) h

watched_begun : (q : ℕ) (s : Sight) (entry : Entry) → s.lane.todo ≡ [] → WatchedOf q s
    → IsWatched (ticks_of q s.sender.flight ++ ticks_of q (labels_of q (length s.lane.sent) entry)) (has_bit s.receiver.pending q) s.lane.flagged s.lane.got s.lane.phase
watched_begun q s entry idle h =
    watched_by (left_of q s) _ _ _ _ _ _ (λ rest is. (rest ++ true ∷ false ∷ [], ticks_begun q s entry idle ∙ ap (λ ticks. ticks ++ true ∷ false ∷ []) is)) (λ p. p) h

-- an idle receiver isn't elsewhere
not_idle : (phase : Phase) (test : Phase → Bool) → test Idle ≡ false → is_idle phase ≡ true → test phase ≡ true → ⊥
not_idle Idle test elsewhere idle is = both_ways (test Idle) elsewhere is
not_idle Copying test elsewhere idle is = false≢true idle
not_idle Copied test elsewhere idle is = false≢true idle
not_idle Cleared test elsewhere idle is = false≢true idle

-- what a look leaves of what was seen
still_saw : (looked saw : Bool) → (if looked then false else saw) ≡ true → saw ≡ true
still_saw true saw e = absurd (false≢true e)
still_saw false saw e = e

watched_rung : (q queue : ℕ) {own : PairPlan} {side : Side} (s : Sight) (place : ℕ) → MayLand own side s Sender place (Bell queue) → (q ≡ queue) ⊎ (q ≡ queue → ⊥) → WatchedOf q s
    → IsWatched (ticks_of q (remove s.sender.flight place) ++ ticks_of q s.lane.todo) (has_bit (with_bit s.receiver.pending queue) q) s.lane.flagged s.lane.got s.lane.phase
watched_rung q queue s place may (inl e) h = record { idle = h.idle; why = inr (inl (ap (λ k. has_bit (with_bit s.receiver.pending k) q) (sym e) ∙ has-with_same s.receiver.pending q)) }
watched_rung q queue s place may (inr ne) h =
    watched_by (left_of q s) _ _ _ _ _ _ (λ rest is. (rest, ticks_without q s place (Bell queue) may (other_bell q queue ne) ∙ is)) (has-with_kept s.receiver.pending q queue) h

-- Turns of a session keep a receiver that saw nothing idle, with none to take or a doorbell pending or next to land.
pub watched_kept : (plan : Plan) (lane : LaneName) (s : Sight) (made : Answered) (news : News) (t : Sight) → IsRaw plan lane ≡ false → Turn plan lane s made news t → (news.starts ≡ false) → (saw : Bool)
    → (is_up s.state ≡ true → LinedOf lane.queue s × (saw ≡ true → WatchedOf lane.queue s)) → news.sees saw ≡ true → is_up t.state ≡ true → WatchedOf lane.queue t
watched_kept plan lane s made news t no_raw (Rests looked) no_start saw h sees up = (h up).1 (still_saw looked saw sees)
watched_kept plan lane s made news t no_raw (FindsNone may) no_start saw h sees up = record { idle = may.idle; why = inl (sym (eqb-true s.lane.flagged s.lane.got (may.none no_raw))) }
watched_kept plan lane s made news t no_raw (Trains may) no_start saw h sees up = absurd (true≢false no_start)
watched_kept plan lane s made news t no_raw (Breaks may) no_start saw h sees up = absurd (false≢true up)
watched_kept plan lane s made news t no_raw (Drops may) no_start saw h sees up = absurd (false≢true up)
watched_kept plan lane s made news t no_raw (Forgets e may) no_start saw h sees up = over s may.down up
watched_kept plan lane s made news t no_raw (Offers Sender label may) no_start saw h sees up = watched_alike (ticks_said lane.queue s label (pad-write lane.queue label may.a_pad)) ((h up).1 sees)
watched_kept plan lane s made news t no_raw (Readies Sender queue may) no_start saw h sees up = watched_alike (ticks_said lane.queue s _ refl) ((h up).1 sees)
watched_kept plan lane s made news t no_raw (Begins bytes first others may cut) no_start saw h sees up = watched_begun lane.queue s first may.not_busy ((h up).1 sees)
watched_kept plan lane s made news t no_raw (Closes may) no_start saw h sees up = watched_begun lane.queue s GoesDown may.not_busy ((h up).1 sees)
watched_kept plan lane s made news t no_raw (Posts label rest may) no_start saw h sees up = watched_alike (ticks_posted lane.queue s label rest up may.next) ((h up).1 sees)
watched_kept plan lane s made news t no_raw (PostsNext entry others label rest may) no_start saw h sees up =
    watched_alike (ticks_posted lane.queue (record s { lane = picked lane.queue s.lane entry others }) label rest up may.next) (watched_begun lane.queue s entry may.idle ((h up).1 sees))
watched_kept plan lane s made news t no_raw (Strays after may) no_start saw h sees up = absurd (both_ways (IsRaw plan lane) no_raw may.raw_pair)
watched_kept plan lane s made news t no_raw (Shuts e queue looked) no_start saw h sees up = (h up).1 (still_saw looked saw sees)
watched_kept plan lane s made news t no_raw (Says Sender label may) no_start saw h sees up = watched_alike (ticks_said lane.queue s label may.foreign) ((h up).1 sees)
watched_kept plan lane s made news t no_raw (LandsFlag place label n may) no_start saw h sees up =
    let now = h up in
    record {
      idle = (now.1 sees).idle;
      why = inr (inr (flag_lined _ _ _ _ (ticks_first lane.queue (pair_plan plan lane.pair) lane.from s place label (EntryFlag n) true may.land (flag_strict lane.queue (pair_plan plan lane.pair).strict label n may.is) may.is refl) now.0).0);
    }
watched_kept plan lane s made news t no_raw (LandsField place label n field may) no_start saw h sees up = watched_alike (ticks_without lane.queue s place label may.land (ap tick may.is)) ((h up).1 sees)
watched_kept plan lane s made news t no_raw (LandsBell Sender place queue may) no_start saw h sees up = watched_rung lane.queue queue s place may (cases_eq lane.queue queue) ((h up).1 sees)
watched_kept plan lane s made news t no_raw (LandsPad Sender place i value may) no_start saw h sees up = watched_alike (ticks_without lane.queue s place (Pad i value) may refl) ((h up).1 sees)
watched_kept plan lane s made news t no_raw (LandsAside Sender place label may) no_start saw h sees up = watched_alike (ticks_without lane.queue s place label may.land (ap tick may.foreign)) ((h up).1 sees)
watched_kept plan lane s made news t no_raw (Looks len left may) no_start saw h sees up = absurd (false≢true sees)
watched_kept plan lane s made news t no_raw (CopiesEntry bytes may) no_start saw h sees up = absurd (not_idle s.lane.phase is_copying refl ((h up).1 sees).idle may.copy.turn)
watched_kept plan lane s made news t no_raw (CopiesLast bytes may) no_start saw h sees up = absurd (not_idle s.lane.phase is_copying refl ((h up).1 sees).idle may.copy.turn)
watched_kept plan lane s made news t no_raw (Clears may) no_start saw h sees up = absurd (not_idle s.lane.phase is_copied refl ((h up).1 sees).idle may.turn)
watched_kept plan lane s made news t no_raw (Acks may) no_start saw h sees up = absurd (not_idle s.lane.phase is_cleared refl ((h up).1 sees).idle may.turn)
watched_kept plan lane s made news t no_raw (TakesBells Receiver) no_start saw h sees up =
    let still = still_saw (has_bit (without_bits s.receiver.pending s.receiver.masked) lane.queue) saw sees in
    watched_by (left_of lane.queue s) _ _ _ _ _ _ (λ rest is. (rest, is))
    (λ pending. stays_pending s.receiver.pending s.receiver.masked lane.queue pending (not_taken _ saw sees)) ((h up).1 still)
  where
    not_taken : (b saw : Bool) → (if b then false else saw) ≡ true → b ≡ false
    not_taken true saw e = absurd (false≢true e)
    not_taken false saw e = refl
watched_kept plan lane s made news t no_raw turn no_start saw h sees up = (h up).1 sees

-- If nothing is left, all entries have their flags, and a receiver that saw so took them
pub nothing_left : (q : ℕ) (s : Sight) → LinedOf q s → WatchedOf q s → s.sender.flight ≡ [] → s.lane.todo ≡ [] → has_bit s.receiver.pending q ≡ false
    → (s.lane.got ≡ s.lane.flagged) × (s.lane.flagged ≡ length s.lane.sent)
nothing_left q s lined watched empty idle quiet = (got watched.why, flagged lined.ringing lined.left (sym lined.is ∙ none) lined.count)
  where
    none : left_of q s ≡ []
    none = ap (λ flight. ticks_of q flight ++ ticks_of q s.lane.todo) empty ∙ ap (ticks_of q) idle

    got : (s.lane.got ≡ s.lane.flagged) ⊎ ((has_bit s.receiver.pending q ≡ true) ⊎ ((rest : List Bool) × (left_of q s ≡ false ∷ rest))) → s.lane.got ≡ s.lane.flagged
    got (inl e) = e
    got (inr (inl p)) = absurd (both_ways (has_bit s.receiver.pending q) quiet p)
    got (inr (inr w)) = absurd (let e = sym none ∙ w.1 in cc)

    flagged : (ringing : Bool) (left : ℕ) → ringing_rounds ringing left ≡ [] → s.lane.flagged + left ≡ length s.lane.sent → s.lane.flagged ≡ length s.lane.sent
    flagged true left e count = absurd (cc)
    flagged false zero e count = omega arith
    flagged false (suc left) e count = absurd (cc)
