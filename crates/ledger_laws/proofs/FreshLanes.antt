-- A lane is fresh, with none of its writes in flight, until both sides are up: without that, no queue is joined.
use Rattle.std.proofs.Common.{◌≡◌, ℕ, ◌==◌, ◌&&◌, Bool, true, false, Some, None, List, [], ◌∷◌, refl, ap, ◌∙◌, inl, inr, ◌⊎◌}
use Rattle.std.specs.Prelude.{if◌then◌else◌, remove}
use Rattle.std.proofs.lemmas.Bool.{both_ways, cases_Bool, eq-eqb, cond-true, cond-false}
use Rattle.step_kinds.specs.Bits.{has_bit, with_bit}
use Rattle.step_kinds.specs.Sides.{other_side}
use Rattle.step_kinds.specs.declared.names.LaneName.{LaneName}
use Rattle.step_kinds.specs.declared.names.Side.{Side}
use Rattle.step_kinds.specs.declared.names.Side.TheVariants.{A, B}
use Rattle.step_kinds.specs.declared.plan.PairPlan.{PairPlan}
use Rattle.step_kinds.specs.declared.plan.Plan.{Plan}
use Rattle.step_kinds.specs.declared.steps.Label.{Label}
use Rattle.step_kinds.specs.declared.steps.Label.TheVariants.{Bell, Index, Pad}
use Rattle.lane_model.specs.declared.Phase.{Phase}
use Rattle.lane_model.specs.declared.Phase.TheVariants.{Idle}
use Rattle.lane_model.specs.declared.Write.{Write}
use Rattle.lane_model.specs.declared.Write.TheVariants.{Data, Flag as EntryFlag, Bell as QueueBell}
use Rattle.ledger_model.specs.Labels.{write_of, label_index_of, writes_among, indexes_among}
use Rattle.ledger_model.specs.Ledger.{LanePart, PairPart, side_of}
use Rattle.ledger_model.specs.LinkSteps.{fresh_lane}
use Rattle.ledger_model.specs.Log.{Answered, ledger_of}
use Rattle.ledger_model.specs.Next.{fresh_pair, agreed_side, idle_side}
use Rattle.ledger_model.specs.Receiving.{is_copying, is_copied, is_cleared}
use Rattle.pair_model.specs.Both.{at_side, both_of}
use Rattle.pair_model.specs.Link.{is_down, fresh_link}
use Rattle.pair_model.specs.Pads.{links_pad}
use Rattle.pair_model.specs.Plans.{pair_plan}
use Rattle.pair_model.specs.declared.LinkState.{LinkState}
use Rattle.pair_model.specs.declared.LinkState.TheVariants.{Down}
use Rattle.ledger_laws.specs.Laws.{IsOrdinaryOn}
use Rattle.ledger_laws.specs.States.{HasNotComeUp, NoEntryBeforeBothUp}
use Rattle.ledger_laws.proofs.AtStart.{up-not_down, fresh-flight}
use Rattle.ledger_laws.proofs.BitSets.{no_bit}
use Rattle.ledger_laws.proofs.CleanSides.{SettledOf, settled_up, settled_new, settled_kept}
use Rattle.ledger_laws.proofs.InFlight.{filter_map-remove, some_read, posted_unread, EmptyOf, empty_kept}
use Rattle.ledger_laws.proofs.JoinedSides.{LiveOf, JoinsOf, closing-not_down, live_up, facts_up, facts_idle, joins_kept}
use Rattle.ledger_laws.proofs.Offers.{pad-write, pad-index}
use Rattle.ledger_laws.proofs.walk.Logs.{HoldsOn, holds_after}
use Rattle.ledger_laws.proofs.walk.News.{News}
use Rattle.ledger_laws.proofs.walk.Sight.{Sight, Sender, Receiver, flight_with, sight}
use Rattle.ledger_laws.proofs.walk.Turn.{Turn, MayLand, Trains, Breaks, Drops, Forgets, Offers, Checks, Readies, Begins, Closes, Posts, PostsNext, Strays, Says, LandsFlag, LandsField, LandsIndex, LandsBell, LandsPad, LandsAside, Looks, CopiesPart, CopiesEntry, CopiesLast, Clears, Acks, IsRaw, forgotten_lane}

-- The two sides

abbrev pub OneDown : Bool → Bool → Type 0
OneDown sender receiver = (sender ≡ false) ⊎ (receiver ≡ false)

-- where both sides are up, not one is down, and the other way round
pub not_one_down : {sender receiver : Bool} → (sender ≡ true) × (receiver ≡ true) → OneDown sender receiver → ⊥
not_one_down {sender} {receiver} both (inl down) = both_ways sender down both.0
not_one_down {sender} {receiver} both (inr down) = both_ways receiver down both.1

-- If it is not so that one of two sides is down, both are up.
pub both_up : (sender receiver : Bool) → (OneDown sender receiver → ⊥) → (sender ≡ true) × (receiver ≡ true)
both_up sender receiver none = (
  elim (cases_Bool sender) [ inl up ↦ up | inr down ↦ absurd (none (inl down)) ],
  elim (cases_Bool receiver) [ inl up ↦ up | inr down ↦ absurd (none (inr down)) ],
)

-- a queue that is joined in a session joins sides that are up
pub joined_up : (s : Sight) (q : ℕ) → has_bit s.sender.joined q ≡ true → JoinsOf s → (s.sender.up ≡ true) × (s.receiver.up ≡ true)
joined_up s q joined joins = elim joins.0.joined_once_both [ inl none ↦ absurd (no_bit s.sender.joined q none joined) | inr both ↦ both ]

-- a side that isn't up in a session that it hasn't forgotten
pub record IsLate (state : LinkState) (clean up : Bool) : Type 0 where
  pub not_forgotten : (is_down state && clean) ≡ false
  pub not_up : up ≡ false

abbrev pub OneLate : LinkState → Bool → Bool → Bool → Bool → Type 0
OneLate state clean peer_clean up peer_up = IsLate state clean up ⊎ IsLate state peer_clean peer_up

abbrev pub LateOf : Sight → Type 0
LateOf s = OneLate s.state s.sender.clean s.receiver.clean s.sender.up s.receiver.up

-- While the link isn't down, a side that isn't up has not come up in a session that it hasn't forgotten.
pub late_up : (state : LinkState) {clean up : Bool} → is_down state ≡ false → up ≡ false → IsLate state clean up
late_up state {clean} above not_up = record { not_forgotten = ap (λ b. b && clean) above; not_up = not_up }

-- While the link isn't down and not both sides are up, one has not come up in a session that it hasn't forgotten.
pub one_late : (state : LinkState) {clean peer_clean up peer_up : Bool} → is_down state ≡ false → OneDown up peer_up → OneLate state clean peer_clean up peer_up
one_late state above (inl down) = inl (late_up state above down)
one_late state above (inr down) = inr (late_up state above down)

one_down : {state : LinkState} {clean peer_clean up peer_up : Bool} → OneLate state clean peer_clean up peer_up → OneDown up peer_up
one_down (inl late) = inl late.not_up
one_down (inr late) = inr late.not_up

-- a side that has just forgotten its session isn't late
not_late : (state : LinkState) {up : Bool} → is_down state ≡ true → IsLate state true up → ⊥
not_late state down late = both_ways (is_down state && true) late.not_forgotten (ap (λ b. b && true) down)

-- A lane in which nothing was begun, with none of its writes in flight

pub record IsFreshLane (writes : List Write) (indexes : List ℕ) (lane : LanePart) : Type 0 where
  pub fresh : lane ≡ fresh_lane
  pub no_writes : writes ≡ []
  pub no_indexes : indexes ≡ []

abbrev pub FreshBy : ℕ → Type 0 → List Label → List Label → LanePart → Type 0
FreshBy q Late out back lane = Late → IsFreshLane (writes_among q out) (indexes_among q back) lane

abbrev pub FreshOf : ℕ → Sight → Type 0
FreshOf q s = FreshBy q (LateOf s) s.sender.flight s.receiver.flight s.lane

module _ (q : ℕ) (s : Sight) where
  -- lists in flight that show the same of the lane
  out_alike : (out : List Label) → writes_among q out ≡ writes_among q s.sender.flight → FreshOf q s → FreshBy q (LateOf s) out s.receiver.flight s.lane
  out_alike out same h one = let before = h one in record { fresh = before.fresh; no_writes = same ∙ before.no_writes; no_indexes = before.no_indexes }

  back_alike : (back : List Label) → indexes_among q back ≡ indexes_among q s.receiver.flight → FreshOf q s → FreshBy q (LateOf s) s.sender.flight back s.lane
  back_alike back same h one = let before = h one in record { fresh = before.fresh; no_writes = before.no_writes; no_indexes = same ∙ before.no_indexes }

  out_posted : (label : Label) → write_of q label ≡ None → FreshOf q s → FreshBy q (LateOf s) (flight_with s.state s.sender.flight label) s.receiver.flight s.lane
  out_posted label none = out_alike (flight_with s.state s.sender.flight label) (posted_unread (write_of q) s.state s.sender.flight label none)

  back_posted : (label : Label) → label_index_of q label ≡ None → FreshOf q s → FreshBy q (LateOf s) s.sender.flight (flight_with s.state s.receiver.flight label) s.lane
  back_posted label none = back_alike (flight_with s.state s.receiver.flight label) (posted_unread (label_index_of q) s.state s.receiver.flight label none)

  module _ {own : PairPlan} {side : Side} (place : ℕ) (label : Label) where
    out_without : MayLand own side s Sender place label → write_of q label ≡ None → FreshOf q s → FreshBy q (LateOf s) (remove s.sender.flight place) s.receiver.flight s.lane
    out_without may none = out_alike (remove s.sender.flight place) (filter_map-remove (write_of q) s.sender.flight place label may.there none)

    back_without : MayLand own side s Receiver place label → label_index_of q label ≡ None → FreshOf q s → FreshBy q (LateOf s) s.sender.flight (remove s.receiver.flight place) s.lane
    back_without may none = back_alike (remove s.receiver.flight place) (filter_map-remove (label_index_of q) s.receiver.flight place label may.there none)

    -- a fresh lane has no write in flight, and no index write
    pub no_write : (write : Write) → MayLand own side s Sender place label → write_of q label ≡ Some write → FreshOf q s → LateOf s → ⊥
    no_write write may is h one = some_read (write_of q) s.sender.flight place label write may.there is (h one).no_writes

    pub no_index : (n : ℕ) → MayLand own side s Receiver place label → label_index_of q label ≡ Some n → FreshOf q s → LateOf s → ⊥
    no_index n may is h one = some_read (label_index_of q) s.receiver.flight place label n may.there is (h one).no_indexes

  -- it has nothing to post, and its receiver is idle
  pub no_todo : (label : Label) (rest : List Label) → s.lane.todo ≡ label ∷ rest → FreshOf q s → LateOf s → ⊥
  no_todo label rest next h one = let none : s.lane.todo ≡ [] = ap (λ (l : LanePart). l.todo) (h one).fresh in cc (none, next)

  pub not_in_phase : (test : Phase → Bool) → test Idle ≡ false → test s.lane.phase ≡ true → FreshOf q s → LateOf s → ⊥
  not_in_phase test elsewhere turn h one = both_ways (test s.lane.phase) (ap (λ (l : LanePart). test l.phase) (h one).fresh ∙ elsewhere) turn

-- An index write on a queue is read there as the number of the entry that it gives back.
pub own_index : (q n : ℕ) → label_index_of q (Index q n) ≡ Some n
own_index q n = cond-true (q == q) (Some n) None (eq-eqb q q refl)

-- On an ordinary pair each turn keeps a lane fresh, nothing of it in flight, until both sides came up in the session.
pub fresh_kept : (plan : Plan) (lane : LaneName) (s : Sight) (made : Answered) (news : News) (t : Sight) → IsRaw plan lane ≡ false → Turn plan lane s made news t
    → EmptyOf s → (LiveOf s → JoinsOf s) → FreshOf lane.queue s → FreshOf lane.queue t
fresh_kept plan lane s made news t no_raw (Trains may) empty joins h = λ one. record {
  fresh = refl;
  no_writes = ap (writes_among lane.queue) (empty may.down).0;
  no_indexes = ap (indexes_among lane.queue) (empty may.down).1;
}
fresh_kept plan lane s made news t no_raw (Breaks may) empty joins h = λ one. h (one_late s.state (up-not_down s.state may.up) (one_down one))
fresh_kept plan lane s made news t no_raw (Drops may) empty joins h = λ one.
    let before = h (one_late s.state (closing-not_down s.state may.closing) (one_down one)) in record { fresh = before.fresh; no_writes = refl; no_indexes = refl }
fresh_kept plan lane s made news t no_raw (Forgets Sender may) empty joins h = λ one. elim one [
  | inl late ↦ absurd (not_late s.state may.down late)
  | inr late ↦ let before = h (inr late) in record { fresh = ap (forgotten_lane Sender) before.fresh; no_writes = before.no_writes; no_indexes = before.no_indexes }
]
fresh_kept plan lane s made news t no_raw (Forgets Receiver may) empty joins h = λ one. elim one [
  | inl late ↦ let before = h (inl late) in record { fresh = ap (forgotten_lane Receiver) before.fresh; no_writes = before.no_writes; no_indexes = before.no_indexes }
  | inr late ↦ absurd (not_late s.state may.down late)
]
fresh_kept plan lane s made news t no_raw (Offers Sender label may) empty joins h = out_posted lane.queue s label (pad-write lane.queue label may.a_pad) h
fresh_kept plan lane s made news t no_raw (Offers Receiver label may) empty joins h = back_posted lane.queue s label (pad-index lane.queue label may.a_pad) h
fresh_kept plan lane s made news t no_raw (Checks Sender may) empty joins h = λ one. h (inl (late_up s.state (up-not_down s.state may.up) may.not_yet))
fresh_kept plan lane s made news t no_raw (Checks Receiver may) empty joins h = λ one. h (inr (late_up s.state (up-not_down s.state may.up) may.not_yet))
fresh_kept plan lane s made news t no_raw (Readies Sender queue may) empty joins h = out_posted lane.queue s (Pad links_pad (with_bit s.sender.ready queue)) refl h
fresh_kept plan lane s made news t no_raw (Readies Receiver queue may) empty joins h = back_posted lane.queue s (Pad links_pad (with_bit s.receiver.ready queue)) refl h
fresh_kept plan lane s made news t no_raw (Begins bytes first others may cut) empty joins h =
    λ one. absurd (not_one_down (joined_up s lane.queue may.joined (joins (live_up s.state (up-not_down s.state may.up)))) (one_down one))
fresh_kept plan lane s made news t no_raw (Closes may) empty joins h =
    λ one. absurd (not_one_down (joined_up s lane.queue may.joined (joins (live_up s.state (up-not_down s.state may.up)))) (one_down one))
fresh_kept plan lane s made news t no_raw (Posts label rest may) empty joins h = λ one. absurd (no_todo lane.queue s label rest may.next h one)
fresh_kept plan lane s made news t no_raw (PostsNext entry others label rest may) empty joins h =
    λ one. absurd (let none : s.lane.waiting ≡ [] = ap (λ (l : LanePart). l.waiting) (h one).fresh in cc (none, may.waits))
fresh_kept plan lane s made news t no_raw (Strays after may) empty joins h = absurd (both_ways (IsRaw plan lane) no_raw may.raw_pair)
fresh_kept plan lane s made news t no_raw (Says Sender label may) empty joins h = out_posted lane.queue s label may.foreign h
fresh_kept plan lane s made news t no_raw (Says Receiver label may) empty joins h = back_posted lane.queue s label may.foreign h
fresh_kept plan lane s made news t no_raw (LandsFlag place label n may) empty joins h = λ one. absurd (no_write lane.queue s place label (EntryFlag n) may.land may.is h one)
fresh_kept plan lane s made news t no_raw (LandsField place label n field may) empty joins h = λ one. absurd (no_write lane.queue s place label (Data n field) may.land may.is h one)
fresh_kept plan lane s made news t no_raw (LandsIndex place n may) empty joins h =
    λ one. absurd (no_index lane.queue s place (Index lane.queue n) n may (own_index lane.queue n) h one)
fresh_kept plan lane s made news t no_raw (LandsBell Sender place queue may) empty joins h = elim (cases_Bool (queue == lane.queue)) [
  | inl own ↦ λ one. absurd (no_write lane.queue s place (Bell queue) QueueBell may (cond-true (queue == lane.queue) (Some QueueBell) None own) h one)
  | inr other ↦ out_without lane.queue s place (Bell queue) may (cond-false (queue == lane.queue) (Some QueueBell) None other) h
]
fresh_kept plan lane s made news t no_raw (LandsBell Receiver place queue may) empty joins h = back_without lane.queue s place (Bell queue) may refl h
fresh_kept plan lane s made news t no_raw (LandsPad Sender place i value may) empty joins h = out_without lane.queue s place (Pad i value) may refl h
fresh_kept plan lane s made news t no_raw (LandsPad Receiver place i value may) empty joins h = back_without lane.queue s place (Pad i value) may refl h
fresh_kept plan lane s made news t no_raw (LandsAside Sender place label may) empty joins h = out_without lane.queue s place label may.land may.foreign h
fresh_kept plan lane s made news t no_raw (LandsAside Receiver place label may) empty joins h = back_without lane.queue s place label may.land may.foreign h
fresh_kept plan lane s made news t no_raw (Looks len left may) empty joins h =
    λ one. absurd (both_ways (s.lane.flagged == s.lane.got) (may.found no_raw).some (ap (λ (l : LanePart). l.flagged == l.got) (h one).fresh))
fresh_kept plan lane s made news t no_raw (CopiesPart bytes may) empty joins h = λ one. absurd (not_in_phase lane.queue s is_copying refl may.turn h one)
fresh_kept plan lane s made news t no_raw (CopiesEntry bytes may) empty joins h = λ one. absurd (not_in_phase lane.queue s is_copying refl may.copy.turn h one)
fresh_kept plan lane s made news t no_raw (CopiesLast bytes may) empty joins h = λ one. absurd (not_in_phase lane.queue s is_copying refl may.copy.turn h one)
fresh_kept plan lane s made news t no_raw (Clears may) empty joins h = λ one. absurd (not_in_phase lane.queue s is_copied refl may.turn h one)
fresh_kept plan lane s made news t no_raw (Acks may) empty joins h = λ one. absurd (not_in_phase lane.queue s is_cleared refl may.turn h one)
fresh_kept plan lane s made news t no_raw turn empty joins h = h

-- What holds of the sides and of a lane before both are up, after each log of ordinary steps

pub record SidesKnown (q : ℕ) (s : Sight) : Type 0 where
  pub empty : EmptyOf s
  pub settled : SettledOf s
  pub joins : LiveOf s → JoinsOf s
  pub fresh : FreshOf q s

-- a pair whose link starts up or not
abbrev pub started : PairPlan → Bool → PairPart
started plan up = record (fresh_pair plan) { link = fresh_link up; sides = (if up then record { a = agreed_side plan.a plan.b; b = agreed_side plan.b plan.a } else both_of idle_side) }

-- Before any step queues are ready only on a side that is up, and joined only if both sides are up.
pub joins_at_start : (plan : PairPlan) (from : Side) (q : ℕ) (up : Bool) → JoinsOf (sight from q (started plan up))
joins_at_start plan A q true = (facts_up _ _ _ _, facts_up _ _ _ _)
joins_at_start plan B q true = (facts_up _ _ _ _, facts_up _ _ _ _)
joins_at_start plan A q false = (facts_idle _ _, facts_idle _ _)
joins_at_start plan B q false = (facts_idle _ _, facts_idle _ _)

settled_at_start : (plan : PairPlan) (from : Side) (q : ℕ) (up : Bool) → SettledOf (sight from q (started plan up))
settled_at_start plan from q true = (settled_up _ refl, settled_up _ refl)
settled_at_start plan A q false = (settled_new _ _, settled_new _ _)
settled_at_start plan B q false = (settled_new _ _, settled_new _ _)

fresh_at_start : (plan : PairPlan) (from : Side) (q : ℕ) (up : Bool) → FreshOf q (sight from q (started plan up))
fresh_at_start plan A q true one = absurd (not_one_down (refl, refl) (one_down one))
fresh_at_start plan B q true one = absurd (not_one_down (refl, refl) (one_down one))
fresh_at_start plan A q false (inl late) = absurd (not_late Down refl late)
fresh_at_start plan A q false (inr late) = absurd (not_late Down refl late)
fresh_at_start plan B q false (inl late) = absurd (not_late Down refl late)
fresh_at_start plan B q false (inr late) = absurd (not_late Down refl late)

sides_at_start : (plan : PairPlan) (from : Side) (q : ℕ) (up : Bool) → EmptyOf (sight from q (started plan up)) → SidesKnown q (sight from q (started plan up))
sides_at_start plan from q up empty = record {
  empty = empty;
  settled = settled_at_start plan from q up;
  joins = λ live. joins_at_start plan from q up;
  fresh = fresh_at_start plan from q up;
}

-- On an ordinary pair ordinary steps keep a lane fresh, and no queue joined, from the start until both sides are up.
pub sides_run : (plan : Plan) (lane : LaneName) → IsRaw plan lane ≡ false → HoldsOn plan lane (IsOrdinaryOn lane.pair) (λ log s ring. SidesKnown lane.queue s)
sides_run plan lane no_raw = record {
  fresh = sides_at_start own lane.from lane.queue own.up (λ down. (fresh-flight own lane.from, fresh-flight own (other_side lane.from)));
  turns = λ log s ring made news t ordinary tells turn h. record {
    empty = empty_kept plan lane s made news t turn h.empty;
    settled = settled_kept plan lane s made news t turn h.empty h.settled;
    joins = joins_kept plan lane s made news t ordinary turn h.empty h.settled h.joins;
    fresh = fresh_kept plan lane s made news t no_raw turn h.empty h.joins h.fresh;
  };
}
  where
    own : PairPlan
    own = pair_plan plan lane.pair

-- The law

-- On an ordinary pair a lane is fresh, nothing of it in flight, while a side has not come up in its session.
pub no_entry_before_both_up : NoEntryBeforeBothUp
no_entry_before_both_up plan memories steps pair side from queue no_raw ordinary late =
    let lane : LaneName = record { pair = pair; from = from; queue = queue } in
    let now = ledger_of plan memories steps pair in
    let known = holds_after plan lane (IsOrdinaryOn pair) _ (sides_run plan lane no_raw) memories steps ordinary in
    let fresh = known.fresh (one side from now late) in
    record { fresh = fresh.fresh; no_writes = fresh.no_writes; no_indexes = fresh.no_indexes }
  where
    here : (side : Side) (now : PairPart) → HasNotComeUp now side → IsLate now.link.state (at_side now.link.clean side) (side_of now side).up
    here side now late = record { not_forgotten = late.not_forgotten; not_up = late.not_up }

    one : (side from : Side) (now : PairPart) → HasNotComeUp now side → LateOf (sight from queue now)
    one A A now late = inl (here A now late)
    one A B now late = inr (here A now late)
    one B A now late = inr (here B now late)
    one B B now late = inl (here B now late)
