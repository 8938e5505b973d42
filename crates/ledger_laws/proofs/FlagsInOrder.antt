-- The flags of a lane land in the order of its entries: those in flight are of the first entries that have none landed.
use Rattle.std.proofs.Common.{◌≡◌, ℕ, zero, suc, ◌+◌, ◌<◌, ◌≤◌, ◌==◌, Bool, true, false, Option, Some, None, List, [], ◌∷◌, ◌++◌, length, map, refl, sym, ap, ◌∙◌, subst, inl, inr, arith}
use Rattle.std.specs.Prelude.{if◌then◌else◌, remove}
use Rattle.std.specs.List.{filter_map, cons_option}
use Rattle.std.proofs.lemmas.Bool.{both_ways, cases_Bool, eqb-false}
use Rattle.std.proofs.lemmas.List.{append-nil, length-append}
use Rattle.std.proofs.lemmas.Option.{none-some}
use Rattle.step_kinds.specs.declared.names.LaneName.{LaneName}
use Rattle.step_kinds.specs.declared.names.Side.{Side}
use Rattle.step_kinds.specs.declared.plan.PairPlan.{PairPlan}
use Rattle.step_kinds.specs.declared.plan.Plan.{Plan}
use Rattle.step_kinds.specs.Sides.{other_side}
use Rattle.step_kinds.specs.declared.steps.Step.{Step}
use Rattle.step_kinds.specs.declared.steps.Label.{Label}
use Rattle.step_kinds.specs.declared.steps.Label.TheVariants.{Bell, Pad}
use Rattle.lane_model.specs.Lane.{Entry, GoesDown, bytes_of, chunks_in, count_from, writes_of}
use Rattle.lane_model.specs.declared.Field.TheVariants.{Chunk as PayloadChunk, Length, Version}
use Rattle.lane_model.specs.declared.Write.{Write}
use Rattle.lane_model.specs.declared.Write.TheVariants.{Data, Flag as EntryFlag, Bell as QueueBell}
use Rattle.ledger_model.specs.Labels.{label_of, labels_of, write_of}
use Rattle.ledger_model.specs.Ledger.{LanePart}
use Rattle.ledger_model.specs.Log.{Answered, Memories, ledger_of}
use Rattle.ledger_model.specs.Next.{fresh_pair}
use Rattle.ledger_model.specs.Receiving.{is_copying}
use Rattle.lane_model.specs.declared.Phase.{Phase}
use Rattle.pair_model.specs.Link.{is_up}
use Rattle.pair_model.specs.Orders.{order_of}
use Rattle.pair_model.specs.Plans.{pair_plan}
use Rattle.ledger_laws.proofs.AtStart.{down-not_up, fresh-flight, fresh-lane}
use Rattle.ledger_laws.proofs.InFlight.{filter_map-last, filter_map-remove, lands_first, posted_unread, posted_up, posted_lost, EmptyOf, empty_kept}
use Rattle.ledger_laws.proofs.Labels.{write_of-label, flag_strict, ReadsOneClass, writes_one_class}
use Rattle.ledger_laws.proofs.Offers.{pad-write}
use Rattle.ledger_laws.proofs.walk.Logs.{HoldsAlways, always_after}
use Rattle.ledger_laws.proofs.walk.Sight.{Sight, Sender, Receiver, flight_with, sight}
use Rattle.ledger_laws.proofs.walk.News.{News}
use Rattle.ledger_laws.proofs.walk.Turn.{Turn, Trains, Breaks, Drops, Forgets, Offers, Readies, Begins, Closes, Posts, Says, LandsFlag, LandsField, LandsBell, LandsPad, LandsAside, Looks, CopiesEntry, CopiesLast, Clears, Acks, MayLand, PostsNext, Strays, IsRaw}

-- The numbers of the entries whose flags are among labels

abbrev flag_number : Option Write → Option ℕ
flag_number (Some (EntryFlag n)) = Some n
flag_number write = None

abbrev pub flag_of : ℕ → Label → Option ℕ
flag_of q label = flag_number (write_of q label)

abbrev pub flags_of : ℕ → List Label → List ℕ
flags_of q labels = filter_map (flag_of q) labels

-- an entry's writes have one flag
labels_flag : (q : ℕ) (entry : Entry) (writes : List Write) → flags_of q (map (label_of q entry) writes) ≡ filter_map (λ w. flag_number (Some w)) writes
labels_flag q entry [] = refl
labels_flag q entry (w ∷ writes) = (λ i. cons_option (flag_number (write_of-label q entry w i)) (labels_flag q entry writes i))

writes_flag : (n : ℕ) (parts : List ℕ) → filter_map (λ w. flag_number (Some w)) ((map (λ part. Data n (PayloadChunk part)) parts ++ Data n Length ∷ Data n Version ∷ []) ++ EntryFlag n ∷ QueueBell ∷ []) ≡ n ∷ []
writes_flag n [] = refl
writes_flag n (part ∷ parts) = writes_flag n parts

entry_flag : (q n : ℕ) (entry : Entry) → flags_of q (labels_of q n entry) ≡ n ∷ []
entry_flag q n entry = labels_flag q entry (writes_of n entry) ∙ writes_flag n (count_from 0 (chunks_in (length (bytes_of entry))))

-- numbers in a row
counts-push : (from many next : ℕ) → from + many ≡ next → count_from from many ++ next ∷ [] ≡ count_from from (suc many)
counts-push from zero next e = ap (λ n. n ∷ []) (sym e ∙ omega arith)
counts-push from (suc many) next e = ap (λ rest. from ∷ rest) (counts-push (suc from) many next (omega arith))

-- the front of a row is one
record IsRow (from : ℕ) (xs : List ℕ) (most : ℕ) : Type 0 where
  many : ℕ
  same : xs ≡ count_from from many
  within : many ≤ most

front_of_row : (from : ℕ) (xs ys : List ℕ) (most : ℕ) → xs ++ ys ≡ count_from from most → IsRow from xs most
front_of_row from [] ys most e = record { many = 0; same = refl; within = omega arith }
front_of_row from (x ∷ xs) ys zero e = absurd (cc)
front_of_row from (x ∷ xs) ys (suc most) e =
    let first : x ≡ from = cc in
    let rest : xs ++ ys ≡ count_from (suc from) most = cc in
    let row = front_of_row (suc from) xs ys most rest in
    record { many = suc row.many; same = (λ i. first i ∷ row.same i); within = let w = row.within in omega arith }

-- What is on its way, and while the link is up what is left to post besides

pub record HasFlagsAhead (q : ℕ) (up : Bool) (flagged begun : ℕ) (flight todo : List Label) : Type 0 where
  pub waiting : ℕ
  pub flags : flags_of q flight ≡ count_from flagged waiting
  pub within : flagged + waiting ≤ begun
  pub all_up : up ≡ true → (left : ℕ) × ((flags_of q flight ++ flags_of q todo ≡ count_from flagged left) × (flagged + left ≡ begun))

abbrev pub AheadOf : ℕ → Sight → Type 0
AheadOf q s = HasFlagsAhead q (is_up s.state) s.lane.flagged (length s.lane.sent) s.sender.flight s.lane.todo

-- while the link is up the second part says it all
ahead_up : (q : ℕ) (up : Bool) (flagged begun : ℕ) (flight todo : List Label) (left : ℕ) → flags_of q flight ++ flags_of q todo ≡ count_from flagged left → flagged + left ≡ begun
    → HasFlagsAhead q up flagged begun flight todo
ahead_up q up flagged begun flight todo left all count =
    let row = front_of_row flagged (flags_of q flight) (flags_of q todo) left all in
    record { waiting = row.many; flags = row.same; within = let w = row.within in omega arith; all_up = λ _. (left, (all, count)) }

ahead_down : (q : ℕ) (up : Bool) (flagged begun : ℕ) (flight todo : List Label) (waiting : ℕ) → up ≡ false → flags_of q flight ≡ count_from flagged waiting → flagged + waiting ≤ begun
    → HasFlagsAhead q up flagged begun flight todo
ahead_down q up flagged begun flight todo waiting down flags within = record { waiting = waiting; flags = flags; within = within; all_up = λ is. absurd (both_ways up down is) }

-- other writes in flight with the same flags
ahead_alike : (q : ℕ) (up : Bool) (flagged begun : ℕ) (flight after todo : List Label) → flags_of q after ≡ flags_of q flight → HasFlagsAhead q up flagged begun flight todo → HasFlagsAhead q up flagged begun after todo
ahead_alike q up flagged begun flight after todo same h = record {
  waiting = h.waiting;
  flags = same ∙ h.flags;
  within = h.within;
  all_up = λ is. let all = h.all_up is in (all.0, (ap (λ flags. flags ++ flags_of q todo) same ∙ all.1.0, all.1.1));
}

-- an entry is begun where nothing is left to post
ahead_begun : (q : ℕ) (up : Bool) (flagged : ℕ) (sent : List Entry) (flight todo : List Label) (entry : Entry) → todo ≡ [] → HasFlagsAhead q up flagged (length sent) flight todo
    → HasFlagsAhead q up flagged (length (sent ++ entry ∷ [])) flight (labels_of q (length sent) entry)
ahead_begun q up flagged sent flight todo entry idle h =
    let longer : length (sent ++ entry ∷ []) ≡ length sent + 1 = length-append sent (entry ∷ []) in
    record {
      waiting = h.waiting;
      flags = h.flags;
      within = let w = h.within in omega arith;
      all_up = λ is.
          let all = h.all_up is in (
            suc all.0,
            (
              ap (λ flags. flags_of q flight ++ flags) (entry_flag q (length sent) entry)
                  ∙ ap (λ flags. flags ++ length sent ∷ []) (sym (append-nil (flags_of q flight)) ∙ ap (λ labels. flags_of q flight ++ flags_of q labels) (sym idle) ∙ all.1.0)
                  ∙ counts-push flagged all.0 (length sent) all.1.1,
              let c = all.1.1 in omega arith,
            ),
          );
    }

through : (xs : List ℕ) (o : Option ℕ) (ys : List ℕ) → (xs ++ cons_option o []) ++ ys ≡ xs ++ cons_option o ys
through [] None ys = refl
through [] (Some n) ys = refl
through (x ∷ xs) o ys = ap (λ rest. x ∷ rest) (through xs o ys)

-- the next write is posted
ahead_posted : (q flagged begun : ℕ) (s : Sight) (label : Label) (rest todo : List Label) → todo ≡ label ∷ rest → HasFlagsAhead q (is_up s.state) flagged begun s.sender.flight todo
    → HasFlagsAhead q (is_up s.state) flagged begun (flight_with s.state s.sender.flight label) rest
ahead_posted q flagged begun s label rest todo next h = elim (cases_Bool (is_up s.state)) [
  | inl up ↦
      let all = h.all_up up in
      ahead_up q (is_up s.state) flagged begun (flight_with s.state s.sender.flight label) rest all.0
      (ap (λ flight. flags_of q flight ++ flags_of q rest) (posted_up s.state s.sender.flight label up)
      ∙ ap (λ flags. flags ++ flags_of q rest) (filter_map-last (flag_of q) s.sender.flight label)
      ∙ through (flags_of q s.sender.flight) (flag_of q label) (flags_of q rest)
      ∙ ap (λ labels. flags_of q s.sender.flight ++ flags_of q labels) (sym next) ∙ all.1.0) all.1.1
  | inr down ↦
      ahead_down q (is_up s.state) flagged begun (flight_with s.state s.sender.flight label) rest h.waiting down
      (ap (flags_of q) (posted_lost s.state s.sender.flight label down) ∙ h.flags) h.within
]

-- the flags that land are those of the first entry that has none
record LandsNext (q : ℕ) (up : Bool) (flagged begun n : ℕ) (after todo : List Label) : Type 0 where
  number : n ≡ flagged
  there : flagged < begun
  ahead : HasFlagsAhead q up (flagged + 1) begun after todo

first_of_row : (from many n : ℕ) (rest : List ℕ) → n ∷ rest ≡ count_from from many → (more : ℕ) × ((many ≡ suc more) × ((n ≡ from) × (rest ≡ count_from (from + 1) more)))
first_of_row from zero n rest e = absurd (cc)
first_of_row from (suc many) n rest e =
    let first : n ≡ from = cc in
    let others : rest ≡ count_from (suc from) many = cc in
    (many, (refl, (first, others ∙ ap (λ k. count_from k many) (omega arith))))

lands_next : (q : ℕ) (up : Bool) (flagged begun n : ℕ) (flight after todo : List Label) → flags_of q flight ≡ n ∷ flags_of q after → HasFlagsAhead q up flagged begun flight todo → LandsNext q up flagged begun n after todo
lands_next q up flagged begun n flight after todo head h =
    let row = first_of_row flagged h.waiting n (flags_of q after) (sym head ∙ h.flags) in
    let w = h.within in
    let more = row.1.0 in
    record {
      number = row.1.1.0;
      there = omega arith;
      ahead = record {
        waiting = row.0;
        flags = row.1.1.1;
        within = omega arith;
        all_up = λ is.
            let all = h.all_up is in
            let both = first_of_row flagged all.0 n (flags_of q after ++ flags_of q todo) (sym (ap (λ flags. flags ++ flags_of q todo) head) ∙ all.1.0) in
            let c = all.1.1 in
            let one = both.1.0 in
            (both.0, (both.1.1.1, omega arith));
      };
    }

flags_one_class : (own : PairPlan) (side : Side) (q : ℕ) (label : Label) (write : Write) → write_of q label ≡ Some write → ReadsOneClass (flag_of q) own side label
flags_one_class own side q label write is other y some = go (write_of q other) refl
  where
    go : (o : Option Write) → write_of q other ≡ o → (order_of own side other).class ≡ (order_of own side label).class
    go None e = absurd (none-some y (sym (ap flag_number e) ∙ some))
    go (Some w) e = writes_one_class own side q label write is other w e

-- a flag that may land stands first of its lane's
pub flags_first : (q : ℕ) (own : PairPlan) (side : Side) (s : Sight) (place : ℕ) (label : Label) (n : ℕ) → MayLand own side s Sender place label → write_of q label ≡ Some (EntryFlag n)
    → flags_of q s.sender.flight ≡ n ∷ flags_of q (remove s.sender.flight place)
flags_first q own side s place label n may is =
    lands_first (flag_of q) own side label (flag_strict q own.strict label n is) (flags_one_class own side q label (EntryFlag n) is) s Sender place n may (ap flag_number is)

ahead_kept : (plan : Plan) (lane : LaneName) (s : Sight) (made : Answered) (news : News) (t : Sight) → IsRaw plan lane ≡ false → Turn plan lane s made news t → EmptyOf s → AheadOf lane.queue s → AheadOf lane.queue t
ahead_kept plan lane s made news t no_raw (Trains may) empty h = ahead_up _ _ _ _ _ _ 0 (ap (λ flight. flags_of lane.queue flight ++ []) (empty may.down).0) refl
ahead_kept plan lane s made news t no_raw (Breaks may) empty h = ahead_down _ _ _ _ _ _ h.waiting refl h.flags h.within
ahead_kept plan lane s made news t no_raw (Drops may) empty h = ahead_down _ _ _ _ _ _ 0 refl refl (let w = h.within in omega arith)
ahead_kept plan lane s made news t no_raw (Forgets Sender may) empty h = ahead_down _ _ _ _ _ _ h.waiting (down-not_up s.state may.down) h.flags h.within
ahead_kept plan lane s made news t no_raw (Offers Sender label may) empty h = ahead_alike _ _ _ _ _ _ _ (posted_unread (flag_of lane.queue) s.state s.sender.flight label (ap flag_number (pad-write lane.queue label may.a_pad))) h
ahead_kept plan lane s made news t no_raw (Readies Sender queue may) empty h = ahead_alike _ _ _ _ _ _ _ (posted_unread (flag_of lane.queue) s.state s.sender.flight _ refl) h
ahead_kept plan lane s made news t no_raw (Begins bytes first others may cut) empty h = ahead_begun _ _ _ s.lane.sent _ s.lane.todo first may.not_busy h
ahead_kept plan lane s made news t no_raw (Closes may) empty h = ahead_begun _ _ _ s.lane.sent _ s.lane.todo GoesDown may.not_busy h
ahead_kept plan lane s made news t no_raw (Posts label rest may) empty h = ahead_posted _ _ _ s label rest s.lane.todo may.next h
ahead_kept plan lane s made news t no_raw (PostsNext entry others label rest may) empty h =
    ahead_posted _ _ _ s label rest (labels_of lane.queue (length s.lane.sent) entry) may.next (ahead_begun _ _ _ s.lane.sent _ s.lane.todo entry may.idle h)
ahead_kept plan lane s made news t no_raw (Strays after may) empty h = absurd (both_ways (IsRaw plan lane) no_raw may.raw_pair)
ahead_kept plan lane s made news t no_raw (Says Sender label may) empty h = ahead_alike _ _ _ _ _ _ _ (posted_unread (flag_of lane.queue) s.state s.sender.flight label (ap flag_number may.foreign)) h
ahead_kept plan lane s made news t no_raw (LandsFlag place label n may) empty h =
    (lands_next lane.queue _ _ _ n s.sender.flight (remove s.sender.flight place) s.lane.todo (flags_first lane.queue (pair_plan plan lane.pair) lane.from s place label n may.land may.is) h).ahead
ahead_kept plan lane s made news t no_raw (LandsField place label n field may) empty h =
    ahead_alike _ _ _ _ _ _ _ (filter_map-remove (flag_of lane.queue) s.sender.flight place label may.land.there (ap flag_number may.is)) h
ahead_kept plan lane s made news t no_raw (LandsBell Sender place queue may) empty h =
    ahead_alike _ _ _ _ _ _ _ (filter_map-remove (flag_of lane.queue) s.sender.flight place (Bell queue) may.there (bell_unread lane.queue queue)) h
  where
    bell_unread : (q queue : ℕ) → flag_of q (Bell queue) ≡ None
    bell_unread q queue = go (queue == q)
      where
        go : (b : Bool) → flag_number (if b then Some QueueBell else None) ≡ None
        go true = refl
        go false = refl
ahead_kept plan lane s made news t no_raw (LandsPad Sender place i value may) empty h = ahead_alike _ _ _ _ _ _ _ (filter_map-remove (flag_of lane.queue) s.sender.flight place (Pad i value) may.there refl) h
ahead_kept plan lane s made news t no_raw (LandsAside Sender place label may) empty h =
    ahead_alike _ _ _ _ _ _ _ (filter_map-remove (flag_of lane.queue) s.sender.flight place label may.land.there (ap flag_number may.foreign)) h
ahead_kept plan lane s made news t no_raw turn empty h = h

-- A receiver takes no more than was flagged

pub record TakesFlagged (flagged got : ℕ) (phase : Phase) : Type 0 where
  pub within : got ≤ flagged
  pub copying : is_copying phase ≡ true → got < flagged

abbrev pub TakenOf : Sight → Type 0
TakenOf s = TakesFlagged s.lane.flagged s.lane.got s.lane.phase

not_idle : (phase : Phase) → is_copying phase ≡ false → {flagged got : ℕ} → got ≤ flagged → TakesFlagged flagged got phase
not_idle phase none within = record { within = within; copying = λ copies. absurd (both_ways (is_copying phase) none copies) }

taken_kept : (plan : Plan) (lane : LaneName) (s : Sight) (made : Answered) (news : News) (t : Sight) → IsRaw plan lane ≡ false → Turn plan lane s made news t → TakenOf s → TakenOf t
taken_kept plan lane s made news t no_raw (Trains may) h = not_idle _ refl (omega arith)
taken_kept plan lane s made news t no_raw (Forgets Receiver may) h = not_idle _ refl h.within
taken_kept plan lane s made news t no_raw (Strays after may) h = absurd (both_ways (IsRaw plan lane) no_raw may.raw_pair)
taken_kept plan lane s made news t no_raw (LandsFlag place label n may) h = record { within = let w = h.within in omega arith; copying = λ copies. let c = h.copying copies in omega arith }
taken_kept plan lane s made news t no_raw (Looks len left may) h =
    record { within = h.within; copying = λ _. let w = h.within in let ne = eqb-false s.lane.flagged s.lane.got (may.found no_raw).some in grind (arith, ne) }
taken_kept plan lane s made news t no_raw (CopiesEntry bytes may) h = not_idle _ refl (let c = h.copying may.copy.turn in omega arith)
taken_kept plan lane s made news t no_raw (CopiesLast bytes may) h = not_idle _ refl (let c = h.copying may.copy.turn in omega arith)
taken_kept plan lane s made news t no_raw (Clears may) h = not_idle _ refl h.within
taken_kept plan lane s made news t no_raw (Acks may) h = not_idle _ refl h.within
taken_kept plan lane s made news t no_raw turn h = h

-- After every log

pub record FlagsKnown (q : ℕ) (s : Sight) : Type 0 where
  pub empty : EmptyOf s
  pub ahead : AheadOf q s
  pub taken : TakenOf s

flags_run : (plan : Plan) (lane : LaneName) → IsRaw plan lane ≡ false → HoldsAlways plan lane (λ log s. FlagsKnown lane.queue s)
flags_run plan lane no_raw = record {
  fresh =
      let own = pair_plan plan lane.pair in
      subst (λ (l : LanePart). FlagsKnown lane.queue (record (sight lane.from lane.queue (fresh_pair own)) { lane = l })) (sym (fresh-lane own lane.from lane.queue))
      (record {
        empty = λ down. (fresh-flight own lane.from, fresh-flight own (other_side lane.from));
        ahead = ahead_up _ _ _ _ _ _ 0 (ap (λ flight. flags_of lane.queue flight ++ []) (fresh-flight own lane.from)) refl;
        taken = not_idle _ refl (omega arith);
      });
  turns = λ log s made news t tells turn h. record {
    empty = empty_kept plan lane s made news t turn h.empty;
    ahead = ahead_kept plan lane s made news t no_raw turn h.empty h.ahead;
    taken = taken_kept plan lane s made news t no_raw turn h.taken;
  };
}

-- On an ordinary pair flags in flight are those of the first entries that have none landed, which aren't taken.
pub flags_known : (plan : Plan) (memories : Memories) (steps : List Step) (lane : LaneName) → IsRaw plan lane ≡ false → FlagsKnown lane.queue (sight lane.from lane.queue (ledger_of plan memories steps lane.pair))
flags_known plan memories steps lane no_raw = always_after plan lane _ (flags_run plan lane no_raw) memories steps

-- the flags of a lane that land are those of the entry that is next
pub landing_flag : (plan : Plan) (memories : Memories) (steps : List Step) (lane : LaneName) → IsRaw plan lane ≡ false → (place : ℕ) (label : Label) (n : ℕ)
    → let s = sight lane.from lane.queue (ledger_of plan memories steps lane.pair) in
    MayLand (pair_plan plan lane.pair) lane.from s Sender place label → write_of lane.queue label ≡ Some (EntryFlag n) → (n ≡ s.lane.flagged) × (s.lane.flagged < length s.lane.sent)
landing_flag plan memories steps lane no_raw place label n may is =
    let s = sight lane.from lane.queue (ledger_of plan memories steps lane.pair) in
    let next = lands_next lane.queue (is_up s.state) s.lane.flagged (length s.lane.sent) n s.sender.flight (remove s.sender.flight place) s.lane.todo
    (flags_first lane.queue (pair_plan plan lane.pair) lane.from s place label n may is) (flags_known plan memories steps lane no_raw).ahead in
    (next.number, next.there)
