-- Each label in flight or left to post is of an entry that was begun.
use Rattle.std.proofs.Common.{◌≡◌, ℕ, zero, suc, ◌+◌, ◌<◌, ◌≤◌, ◌==◌, Bool, true, false, Some, None, List, [], ◌∷◌, ◌++◌, length, map, refl, sym, ◌∙◌, subst, arith}
use Rattle.std.specs.Prelude.{◌≢◌, if◌then◌else◌, remove, slice_get}
use Rattle.std.specs.List.{AllByRecursion}
use Rattle.std.proofs.lemmas.Bool.{false≢true, both_ways, eq-eqb, cond-true}
use Rattle.std.proofs.lemmas.List.{length-append, get_or_push, get_or_append_left}
use Rattle.std.proofs.lemmas.Option.{none-some, same_Some}
use Rattle.step_kinds.specs.Sides.{other_side}
use Rattle.step_kinds.specs.declared.names.LaneName.{LaneName}
use Rattle.step_kinds.specs.declared.names.Side.{Side}
use Rattle.step_kinds.specs.declared.names.Side.TheVariants.{A, B}
use Rattle.step_kinds.specs.declared.plan.Plan.{Plan}
use Rattle.step_kinds.specs.declared.steps.Label.{Label}
use Rattle.step_kinds.specs.declared.steps.Label.TheVariants.{Chunk, Len, Ver, Flag, Down, Bell, Index, Pad}
use Rattle.lane_model.specs.Lane.{Entry, Carries, GoesDown, bytes_of, chunks_in, count_from}
use Rattle.lane_model.specs.Law.{entry_among}
use Rattle.lane_model.specs.declared.Field.TheVariants.{Chunk as PayloadChunk, Length, Version}
use Rattle.lane_model.specs.declared.Write.{Write}
use Rattle.lane_model.specs.declared.Write.TheVariants.{Data, Flag as EntryFlag, Bell as QueueBell}
use Rattle.ledger_model.specs.Labels.{label_of, labels_of, write_of, label_index_of}
use Rattle.ledger_model.specs.Ledger.{LanePart, PairPart, side_of, lane_of}
use Rattle.ledger_model.specs.Log.{Answered, ledger_of}
use Rattle.ledger_model.specs.Next.{fresh_pair}
use Rattle.pair_model.specs.Link.{is_up}
use Rattle.pair_model.specs.Plans.{pair_plan}
use Rattle.pair_model.specs.declared.LinkState.{LinkState}
use Rattle.ledger_laws.specs.States.{IsOfEntry, IsOfLane, IsOnQueue, LabelsAreOfEntries}
use Rattle.ledger_laws.proofs.AtStart.{fresh-lane, fresh-flight}
use Rattle.ledger_laws.proofs.EntriesFit.{all_push}
use Rattle.ledger_laws.proofs.FreshLanes.{own_index}
use Rattle.ledger_laws.proofs.InFlight.{EmptyOf, empty_kept}
use Rattle.ledger_laws.proofs.walk.Logs.{HoldsAlways, always_after}
use Rattle.ledger_laws.proofs.walk.News.{News}
use Rattle.ledger_laws.proofs.walk.Sight.{Sight, Sender, Receiver, flight_with, sight}
use Rattle.ledger_laws.proofs.walk.Turn.{Turn, Trains, Drops, Forgets, Offers, Readies, Begins, Closes, Posts, PostsNext, Strays, Says, LandsFlag, LandsField, LandsIndex, LandsBell, LandsPad, LandsAside, Acks, IsRaw, is_pad}

-- Lists of labels

all_weaker : {P Q : Label → Type 0} → ((label : Label) → P label → Q label) → (labels : List Label) → AllByRecursion P labels → AllByRecursion Q labels
all_weaker weaker [] all = tt
all_weaker weaker (label ∷ labels) all = (weaker label all.0, all_weaker weaker labels all.1)

-- What holds of all labels of a list holds of all that are left where one is removed.
pub all_remove : (P : Label → Type 0) (labels : List Label) (place : ℕ) → AllByRecursion P labels → AllByRecursion P (remove labels place)
all_remove P [] zero all = tt
all_remove P [] (suc place) all = tt
all_remove P (label ∷ labels) zero all = all.1
all_remove P (label ∷ labels) (suc place) all = (all.0, all_remove P labels place all.1)

all_posted : (P : Label → Type 0) (state : LinkState) (flight : List Label) (label : Label) → P label → AllByRecursion P flight → AllByRecursion P (flight_with state flight label)
all_posted P state flight label own all = go (is_up state)
  where
    go : (up : Bool) → AllByRecursion P (if up then flight ++ label ∷ [] else flight)
    go true = all_push P flight label all own
    go false = all

-- What holds of all labels of a list holds of the one at each place.
pub all_get : (P : Label → Type 0) (labels : List Label) (place : ℕ) (label : Label) → AllByRecursion P labels → slice_get labels place ≡ Some label → P label
all_get P [] place label all at = absurd (none-some label at)
all_get P (first ∷ labels) zero label all at = subst P (same_Some first label at) all.0
all_get P (first ∷ labels) (suc place) label all at = all_get P labels place label all.1 at

all_from_get : (P : Label → Type 0) (labels : List Label) → ((place : ℕ) (label : Label) → slice_get labels place ≡ Some label → P label) → AllByRecursion P labels
all_from_get P [] each = tt
all_from_get P (label ∷ labels) each = (each 0 label refl, all_from_get P labels (λ place. each (suc place)))

all_mapped : {X Y : Type 0} (P : Y → Type 0) (f : X → Y) (xs ys : List X) → AllByRecursion P (map f xs) → AllByRecursion P (map f ys) → AllByRecursion P (map f (xs ++ ys))
all_mapped P f [] ys first second = second
all_mapped P f (x ∷ xs) ys first second = (first.0, all_mapped P f xs ys first.1 second)

-- A label of a lane

on_queue-read : (q : ℕ) (label : Label) → IsOnQueue q label → write_of q label ≡ None → ⊥
on_queue-read q (Chunk p n part) on none = none-some _ (sym none ∙ cond-true (p == q) _ None (eq-eqb p q on))
on_queue-read q (Len p n) on none = none-some _ (sym none ∙ cond-true (p == q) _ None (eq-eqb p q on))
on_queue-read q (Ver p n) on none = none-some _ (sym none ∙ cond-true (p == q) _ None (eq-eqb p q on))
on_queue-read q (Flag p n) on none = none-some _ (sym none ∙ cond-true (p == q) _ None (eq-eqb p q on))
on_queue-read q (Down p n) on none = none-some _ (sym none ∙ cond-true (p == q) _ None (eq-eqb p q on))
on_queue-read q (Bell p) on none = none-some _ (sym none ∙ cond-true (p == q) _ None (eq-eqb p q on))
on_queue-read q label on none = on

-- a label of this lane is of one of these entries
abbrev IsOwn : ℕ → List Entry → Label → Type 0
IsOwn q sent label = IsOnQueue q label → IsOfEntry sent label

abbrev IsToPost : ℕ → List Entry → Label → Type 0
IsToPost q sent label = IsOnQueue q label × IsOfEntry sent label

-- an index write of this lane is of one of this many entries
abbrev IsGiven : ℕ → ℕ → Label → Type 0
IsGiven q acked label = (n : ℕ) → label_index_of q label ≡ Some n → n < acked

foreign_own : (q : ℕ) (sent : List Entry) (label : Label) → write_of q label ≡ None → IsOwn q sent label
foreign_own q sent label none on = absurd (on_queue-read q label on none)

foreign_given : (q acked : ℕ) (label : Label) → label_index_of q label ≡ None → IsGiven q acked label
foreign_given q acked label none n some = absurd (none-some n (sym none ∙ some))

pad_own : (q : ℕ) (sent : List Entry) (label : Label) → is_pad label ≡ true → IsOwn q sent label
pad_own q sent (Pad i value) is on = absurd on
pad_own q sent label is on = absurd (false≢true is)

pad_given : (q acked : ℕ) (label : Label) → is_pad label ≡ true → IsGiven q acked label
pad_given q acked (Pad i value) is n some = absurd (none-some n some)
pad_given q acked label is n some = absurd (false≢true is)

-- with one entry more
within_more : (sent : List Entry) (entry : Entry) (n : ℕ) → n < length sent → n < length (sent ++ entry ∷ [])
within_more sent entry n below = let more = length-append sent (entry ∷ []) in omega arith

same_entry : (sent : List Entry) (entry : Entry) (n : ℕ) → n < length sent → entry_among sent n ≡ entry_among (sent ++ entry ∷ []) n
same_entry sent entry n below = sym (get_or_append_left sent (entry ∷ []) GoesDown n below)

of_more : (sent : List Entry) (entry : Entry) (label : Label) → IsOfEntry sent label → IsOfEntry (sent ++ entry ∷ []) label
of_more sent entry (Chunk q n part) h = (within_more sent entry n h.0, subst (λ e. part < chunks_in (length (bytes_of e))) (same_entry sent entry n h.0) h.1)
of_more sent entry (Len q n) h = within_more sent entry n h
of_more sent entry (Ver q n) h = within_more sent entry n h
of_more sent entry (Flag q n) h = (within_more sent entry n h.0, subst (λ e. e ≢ GoesDown) (same_entry sent entry n h.0) h.1)
of_more sent entry (Down q n) h = (within_more sent entry n h.0, subst (λ e. e ≡ GoesDown) (same_entry sent entry n h.0) h.1)
of_more sent entry label h = tt

own_more : (q : ℕ) (sent : List Entry) (entry : Entry) (flight : List Label) → AllByRecursion (IsOwn q sent) flight → AllByRecursion (IsOwn q (sent ++ entry ∷ [])) flight
own_more q sent entry flight all = all_weaker (λ label own on. of_more sent entry label (own on)) flight all

given_more : (q acked : ℕ) (flight : List Label) → AllByRecursion (IsGiven q acked) flight → AllByRecursion (IsGiven q (acked + 1)) flight
given_more q acked flight all = all_weaker (λ label given n some. let below = given n some in omega arith) flight all

-- the labels of the entry that is begun
module _ (q : ℕ) (sent : List Entry) (entry : Entry) where
  abbrev Now : List Entry
  Now = sent ++ entry ∷ []

  here : length sent < length Now
  here = let more = length-append sent (entry ∷ []) in omega arith

  it : entry ≡ entry_among Now (length sent)
  it = sym (get_or_push sent entry GoesDown (length sent) refl)

  chunks_to_post : (from more : ℕ) → from + more ≤ chunks_in (length (bytes_of entry))
      → AllByRecursion (IsToPost q Now) (map (label_of q entry) (map (λ part. Data (length sent) (PayloadChunk part)) (count_from from more)))
  chunks_to_post from zero within = tt
  chunks_to_post from (suc more) within = (
    (refl, (here, subst (λ e. from < chunks_in (length (bytes_of e))) it (omega arith))),
    chunks_to_post (suc from) more (omega arith),
  )

  end_to_post : (e : Entry) → e ≡ entry → AllByRecursion (IsToPost q Now) (map (label_of q e) (EntryFlag (length sent) ∷ QueueBell ∷ []))
  end_to_post (Carries bytes left) same = ((refl, (here, λ down. cc (same ∙ it ∙ down))), ((refl, tt), tt))
  end_to_post GoesDown same = ((refl, (here, sym (same ∙ it))), ((refl, tt), tt))

  to_post : AllByRecursion (IsToPost q Now) (labels_of q (length sent) entry)
  to_post =
      let chunks : List Write = map (λ part. Data (length sent) (PayloadChunk part)) (count_from 0 (chunks_in (length (bytes_of entry)))) in
      all_mapped (IsToPost q Now) (label_of q entry) (chunks ++ Data (length sent) Length ∷ Data (length sent) Version ∷ []) (EntryFlag (length sent) ∷ QueueBell ∷ [])
      (all_mapped (IsToPost q Now) (label_of q entry) chunks (Data (length sent) Length ∷ Data (length sent) Version ∷ [])
      (chunks_to_post 0 (chunks_in (length (bytes_of entry))) (omega arith)) ((refl, here), ((refl, here), tt)))
      (end_to_post entry refl)

-- What holds of a lane's labels

pub record LabelsBy (q : ℕ) (sent : List Entry) (todo : List Label) (acked : ℕ) (out back : List Label) : Type 0 where
  pub own : AllByRecursion (IsOwn q sent) out
  pub next : AllByRecursion (IsToPost q sent) todo
  pub given : AllByRecursion (IsGiven q acked) back

abbrev pub LabelsOf : ℕ → Sight → Type 0
LabelsOf q s = LabelsBy q s.lane.sent s.lane.todo s.lane.acked s.sender.flight s.receiver.flight

labels_none : (q : ℕ) (sent : List Entry) (acked : ℕ) (out back : List Label) → out ≡ [] → back ≡ [] → LabelsBy q sent [] acked out back
labels_none q sent acked out back none none_back =
    record { own = subst (AllByRecursion (IsOwn q sent)) (sym none) tt; next = tt; given = subst (AllByRecursion (IsGiven q acked)) (sym none_back) tt }

module _ {q : ℕ} {sent : List Entry} {todo : List Label} {acked : ℕ} {out back : List Label} where
  with_own : (after : List Label) → AllByRecursion (IsOwn q sent) after → LabelsBy q sent todo acked out back → LabelsBy q sent todo acked after back
  with_own after all h = record { own = all; next = h.next; given = h.given }

  with_given : (after : List Label) → AllByRecursion (IsGiven q acked) after → LabelsBy q sent todo acked out back → LabelsBy q sent todo acked out after
  with_given after all h = record { own = h.own; next = h.next; given = all }

  without_own : (place : ℕ) → LabelsBy q sent todo acked out back → LabelsBy q sent todo acked (remove out place) back
  without_own place h = with_own (remove out place) (all_remove (IsOwn q sent) out place h.own) h

  without_given : (place : ℕ) → LabelsBy q sent todo acked out back → LabelsBy q sent todo acked out (remove back place)
  without_given place h = with_given (remove back place) (all_remove (IsGiven q acked) back place h.given) h

  labels_begun : (entry : Entry) → LabelsBy q sent todo acked out back → LabelsBy q (sent ++ entry ∷ []) (labels_of q (length sent) entry) acked out back
  labels_begun entry h = record { own = own_more q sent entry out h.own; next = to_post q sent entry; given = h.given }

  labels_posted : (state : LinkState) (label : Label) (rest : List Label) → todo ≡ label ∷ rest → LabelsBy q sent todo acked out back
      → LabelsBy q sent rest acked (flight_with state out label) back
  labels_posted state label rest first h =
      let all = subst (AllByRecursion (IsToPost q sent)) first h.next in
      record { own = all_posted (IsOwn q sent) state out label (λ on. all.0.1) h.own; next = all.1; given = h.given }

labels_kept : (plan : Plan) (lane : LaneName) (s : Sight) (made : Answered) (news : News) (t : Sight) → IsRaw plan lane ≡ false → Turn plan lane s made news t → EmptyOf s
    → LabelsOf lane.queue s → LabelsOf lane.queue t
labels_kept plan lane s made news t no_raw (Trains may) empty h = labels_none _ _ _ _ _ (empty may.down).0 (empty may.down).1
labels_kept plan lane s made news t no_raw (Drops may) empty h = record { own = tt; next = h.next; given = tt }
labels_kept plan lane s made news t no_raw (Forgets Sender may) empty h = record { own = h.own; next = tt; given = h.given }
labels_kept plan lane s made news t no_raw (Forgets Receiver may) empty h = h
labels_kept plan lane s made news t no_raw (Offers Sender label may) empty h = with_own _ (all_posted _ s.state s.sender.flight label (pad_own lane.queue s.lane.sent label may.a_pad) h.own) h
labels_kept plan lane s made news t no_raw (Offers Receiver label may) empty h =
    with_given _ (all_posted _ s.state s.receiver.flight label (pad_given lane.queue s.lane.acked label may.a_pad) h.given) h
labels_kept plan lane s made news t no_raw (Readies Sender queue may) empty h = with_own _ (all_posted _ s.state s.sender.flight _ (λ on. absurd on) h.own) h
labels_kept plan lane s made news t no_raw (Readies Receiver queue may) empty h =
    with_given _ (all_posted _ s.state s.receiver.flight _ (λ n some. absurd (none-some n some)) h.given) h
labels_kept plan lane s made news t no_raw (Begins bytes first others may cut) empty h = labels_begun first h
labels_kept plan lane s made news t no_raw (Closes may) empty h = labels_begun GoesDown h
labels_kept plan lane s made news t no_raw (Posts label rest may) empty h = labels_posted s.state label rest may.next h
labels_kept plan lane s made news t no_raw (PostsNext entry others label rest may) empty h = labels_posted s.state label rest may.next (labels_begun entry h)
labels_kept plan lane s made news t no_raw (Strays after may) empty h = absurd (both_ways (IsRaw plan lane) no_raw may.raw_pair)
labels_kept plan lane s made news t no_raw (Says Sender label may) empty h =
    with_own _ (all_posted _ s.state s.sender.flight label (foreign_own lane.queue s.lane.sent label may.foreign) h.own) h
labels_kept plan lane s made news t no_raw (Says Receiver label may) empty h =
    with_given _ (all_posted _ s.state s.receiver.flight label (foreign_given lane.queue s.lane.acked label may.foreign) h.given) h
labels_kept plan lane s made news t no_raw (LandsFlag place label n may) empty h = without_own place h
labels_kept plan lane s made news t no_raw (LandsField place label n field may) empty h = without_own place h
labels_kept plan lane s made news t no_raw (LandsIndex place n may) empty h = without_given place h
labels_kept plan lane s made news t no_raw (LandsBell Sender place queue may) empty h = without_own place h
labels_kept plan lane s made news t no_raw (LandsBell Receiver place queue may) empty h = without_given place h
labels_kept plan lane s made news t no_raw (LandsPad Sender place i value may) empty h = without_own place h
labels_kept plan lane s made news t no_raw (LandsPad Receiver place i value may) empty h = without_given place h
labels_kept plan lane s made news t no_raw (LandsAside Sender place label may) empty h = without_own place h
labels_kept plan lane s made news t no_raw (LandsAside Receiver place label may) empty h = without_given place h
labels_kept plan lane s made news t no_raw (Acks may) empty h = record {
  own = h.own;
  next = h.next;
  given = all_posted _ s.state s.receiver.flight (Index lane.queue s.lane.acked) own (given_more lane.queue s.lane.acked s.receiver.flight h.given);
}
  where
    own : IsGiven lane.queue (s.lane.acked + 1) (Index lane.queue s.lane.acked)
    own n some = let same : s.lane.acked ≡ n = same_Some s.lane.acked n (sym (own_index lane.queue s.lane.acked) ∙ some) in omega arith
labels_kept plan lane s made news t no_raw turn empty h = h

record LabelsKnown (q : ℕ) (s : Sight) : Type 0 where
  empty : EmptyOf s
  labels : LabelsOf q s

labels_run : (plan : Plan) (lane : LaneName) → IsRaw plan lane ≡ false → HoldsAlways plan lane (λ log s. LabelsKnown lane.queue s)
labels_run plan lane no_raw =
    let own = pair_plan plan lane.pair in
    let out = fresh-flight own lane.from in
    let back = fresh-flight own (other_side lane.from) in record {
      fresh = record {
        empty = λ down. (out, back);
        labels = subst (λ (l : LanePart). LabelsBy lane.queue l.sent l.todo l.acked (sight lane.from lane.queue (fresh_pair own)).sender.flight (sight lane.from lane.queue (fresh_pair own)).receiver.flight)
            (sym (fresh-lane own lane.from lane.queue)) (labels_none _ _ _ _ _ out back);
      };
      turns = λ log s made news t tells turn h. record {
        empty = empty_kept plan lane s made news t turn h.empty;
        labels = labels_kept plan lane s made news t no_raw turn h.empty h.labels;
      };
    }

-- The law

-- On an ordinary pair labels in flight or to post are of entries begun, and index writes of those acknowledged.
pub labels_are_of_entries : LabelsAreOfEntries
labels_are_of_entries plan memories steps pair side no_raw = record {
  in_flight = all_from_get (IsOfLane now side) (side_of now side).flight (each side);
  to_post = λ queue. (known side queue).labels.next;
}
  where
    now : PairPart
    now = ledger_of plan memories steps pair

    known : (from : Side) (queue : ℕ) → LabelsKnown queue (sight from queue (ledger_of plan memories steps pair))
    known from queue =
        let lane : LaneName = record { pair = pair; from = from; queue = queue } in
        always_after plan lane (λ log s. LabelsKnown queue s) (labels_run plan lane no_raw) memories steps

    own : (from : Side) (queue place : ℕ) (label : Label) → slice_get (side_of now from).flight place ≡ Some label → IsOnQueue queue label → IsOfEntry (lane_of now from queue).sent label
    own from queue place label at = all_get (IsOwn queue (lane_of now from queue).sent) (side_of now from).flight place label (known from queue).labels.own at

    given : (from : Side) (queue place n : ℕ) → slice_get (side_of now from).flight place ≡ Some (Index queue n) → n < (lane_of now (other_side from) queue).acked
    given A queue place n at = all_get (IsGiven queue (lane_of now B queue).acked) (side_of now A).flight place (Index queue n) (known B queue).labels.given at n (own_index queue n)
    given B queue place n at = all_get (IsGiven queue (lane_of now A queue).acked) (side_of now B).flight place (Index queue n) (known A queue).labels.given at n (own_index queue n)

    each : (from : Side) (place : ℕ) (label : Label) → slice_get (side_of now from).flight place ≡ Some label → IsOfLane now from label
    each from place (Chunk q n part) at = own from q place (Chunk q n part) at refl
    each from place (Len q n) at = own from q place (Len q n) at refl
    each from place (Ver q n) at = own from q place (Ver q n) at refl
    each from place (Flag q n) at = own from q place (Flag q n) at refl
    each from place (Down q n) at = own from q place (Down q n) at refl
    each from place (Index q n) at = given from q place n at
    each from place label at = tt
