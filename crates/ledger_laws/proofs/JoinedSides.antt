-- Premise: on the pair ordinary steps alone are made. In a session queues are ready only on a side that is up, and
-- joined only if both sides are up. The bits that a side sees in its scratchpad come from a peer that is up.
use Rattle.std.proofs.Common.{◌≡◌, ℕ, ◌==◌, Bool, true, false, Option, Some, None, List, [], refl, sym, ap, subst, inl, inr, ◌⊎◌}
use Rattle.std.specs.Prelude.{if◌then◌else◌, slice_get, slice_index, slice_set, nat_lt, remove}
use Rattle.std.specs.List.{filter_map}
use Rattle.std.proofs.lemmas.Bool.{false≢true, both_ways, cases_Bool, eqb-false, eqb-true, cond-true, cond-false}
use Rattle.std.proofs.lemmas.List.{get_or-set_other}
use Rattle.std.proofs.lemmas.Option.{none-some}
use Rattle.step_kinds.specs.Bits.{has_bit}
use Rattle.step_kinds.specs.declared.names.LaneName.{LaneName}
use Rattle.step_kinds.specs.declared.plan.Plan.{Plan}
use Rattle.step_kinds.specs.declared.steps.Label.{Label}
use Rattle.step_kinds.specs.declared.steps.Label.TheVariants.{Bell, Index, Pad}
use Rattle.lane_model.specs.declared.Write.{Write}
use Rattle.ledger_model.specs.Labels.{write_of}
use Rattle.pair_model.specs.Link.{is_down, is_closing}
use Rattle.ledger_model.specs.Log.{Answered}
use Rattle.pair_model.specs.declared.LinkState.{LinkState}
use Rattle.pair_model.specs.declared.LinkState.TheVariants.{Down, Up, Closing}
use Rattle.pair_model.specs.Pads.{links_pad}
use Rattle.ledger_laws.specs.Laws.{IsOrdinaryOn}
use Rattle.ledger_laws.proofs.AtStart.{up-not_down}
use Rattle.ledger_laws.proofs.BitSets.{no_bit}
use Rattle.ledger_laws.proofs.CleanSides.{IsNew, SettledOf}
use Rattle.ledger_laws.proofs.InFlight.{filter_map-remove, posted_unread, some_read, EmptyOf}
use Rattle.step_kinds.specs.declared.names.Side.{Side}
use Rattle.step_kinds.specs.declared.plan.PairPlan.{PairPlan}
use Rattle.ledger_laws.proofs.walk.Sight.{Sight, End, Role, Sender, Receiver, end_at, with_flight, posted, with_number, OffersMade}
use Rattle.ledger_laws.proofs.walk.News.{News}
use Rattle.ledger_laws.proofs.walk.Turn.{Turn, MayLand, Trains, Breaks, Drops, Forgets, Offers, Checks, Readies, Joins, Posts, PostsNext, Says, LandsFlag, LandsField, LandsIndex, LandsBell, LandsPad, LandsAside, Acks, is_link_pad, is_handshake, on_queue}

-- a session that neither side has forgotten
abbrev pub IsLive : LinkState → Bool → Bool → Type 0
IsLive state clean peer_clean = is_down state ≡ true → (clean ≡ false) × (peer_clean ≡ false)

abbrev pub LiveOf : Sight → Type 0
LiveOf s = IsLive s.state s.sender.clean s.receiver.clean

-- While the link isn't down the session is one that neither side has forgotten.
pub live_up : (state : LinkState) {clean peer_clean : Bool} → is_down state ≡ false → IsLive state clean peer_clean
live_up state up down = absurd (both_ways (is_down state) up down)

-- A link that is closing isn't down.
pub closing-not_down : (state : LinkState) → is_closing state ≡ true → is_down state ≡ false
closing-not_down Down e = absurd (false≢true e)
closing-not_down Up e = refl
closing-not_down Closing e = refl

-- the writes of the scratchpad of the queues that are ready
abbrev link_value : Label → Option ℕ
link_value (Pad i value) = if i == links_pad then Some value else None
link_value label = None

abbrev link_pads : List Label → List ℕ
link_pads labels = filter_map link_value labels

no_link : (label : Label) → is_link_pad label ≡ false → link_value label ≡ None
no_link (Pad i value) e = cond-false (i == links_pad) (Some value) None e
no_link label e = refl

lane_no_link : (queue : ℕ) (label : Label) → on_queue queue label ≡ true → link_value label ≡ None
lane_no_link queue (Pad i value) on = absurd (false≢true on)
lane_no_link queue label on = refl

write_no_link : (q : ℕ) (label : Label) (write : Write) → write_of q label ≡ Some write → link_value label ≡ None
write_no_link q (Pad i value) write is = absurd (none-some write is)
write_no_link q label write is = refl

plain_no_link : (label : Label) → is_handshake label ≡ false → link_value label ≡ None
plain_no_link (Pad i value) e = no_link (Pad i value) (elim (cases_Bool (i == links_pad)) [
  | inl is ↦ absurd (both_ways (nat_lt i 12) e (ap (λ k. nat_lt k 12) (eqb-true i links_pad is)))
  | inr isnt ↦ isnt
])
plain_no_link label e = refl

-- What holds of an end

pub record EndFacts (up other_up : Bool) (ready joined pad : ℕ) (links : List ℕ) : Type 0 where
  pub ready_once_up : (ready ≡ 0) ⊎ (up ≡ true)
  pub joined_once_both : (joined ≡ 0) ⊎ ((up ≡ true) × (other_up ≡ true))
  pub pad_once_up : (pad ≡ 0) ⊎ (other_up ≡ true)
  pub posted_once_up : (links ≡ []) ⊎ (up ≡ true)

abbrev pub FactsOfEnd : End → Bool → Type 0
FactsOfEnd own other_up = EndFacts own.up other_up own.ready own.joined (slice_index own.pads links_pad) (link_pads own.flight)

abbrev pub JoinsOf : Sight → Type 0
JoinsOf s = FactsOfEnd s.sender s.receiver.up × FactsOfEnd s.receiver s.sender.up

-- other writes in flight, with the same values of that scratchpad
links_alike : (e : Role) (s : Sight) (flight : List Label) → link_pads flight ≡ link_pads (end_at s e).flight → JoinsOf s → JoinsOf (with_flight e flight s)
links_alike Sender s flight same h = (subst (EndFacts s.sender.up s.receiver.up s.sender.ready s.sender.joined (slice_index s.sender.pads links_pad)) (sym same) h.0, h.1)
links_alike Receiver s flight same h = (h.0, subst (EndFacts s.receiver.up s.sender.up s.receiver.ready s.receiver.joined (slice_index s.receiver.pads links_pad)) (sym same) h.1)

links_posted : (e : Role) (s : Sight) (label : Label) → link_value label ≡ None → JoinsOf s → JoinsOf (posted e label s)
links_posted e s label none h = links_alike e s _ (posted_unread link_value s.state (end_at s e).flight label none) h

links_taken : (e : Role) {own : PairPlan} {side : Side} (s : Sight) (place : ℕ) (label : Label) → MayLand own side s e place label → link_value label ≡ None → JoinsOf s
    → JoinsOf (with_flight e (remove (end_at s e).flight place) s)
links_taken e s place label may none h = links_alike e s _ (filter_map-remove link_value (end_at s e).flight place label may.there none) h

-- a side comes up
own_up : {up other_up : Bool} {ready joined pad : ℕ} {links : List ℕ} → EndFacts up other_up ready joined pad links → EndFacts true other_up ready joined pad links
own_up h = record {
  ready_once_up = inr refl;
  joined_once_both = elim h.joined_once_both [ inl none ↦ inl none | inr both ↦ inr (refl, both.1) ];
  pad_once_up = h.pad_once_up;
  posted_once_up = inr refl;
}

peer_up : {up other_up : Bool} {ready joined pad : ℕ} {links : List ℕ} → EndFacts up other_up ready joined pad links → EndFacts up true ready joined pad links
peer_up h = record {
  ready_once_up = h.ready_once_up;
  joined_once_both = elim h.joined_once_both [ inl none ↦ inl none | inr both ↦ inr (both.0, refl) ];
  pad_once_up = inr refl;
  posted_once_up = h.posted_once_up;
}

-- a queue is ready on a side that is up, and joined where the peer has said so
own_ready : {up other_up : Bool} {ready joined pad : ℕ} {links : List ℕ} (now : ℕ) (after : List ℕ) → up ≡ true → EndFacts up other_up ready joined pad links → EndFacts up other_up now joined pad after
own_ready now after up h = record { ready_once_up = inr up; joined_once_both = h.joined_once_both; pad_once_up = h.pad_once_up; posted_once_up = inr up }

own_joined : {up other_up : Bool} {ready joined pad : ℕ} {links : List ℕ} (now queue : ℕ) → has_bit ready queue ≡ true → has_bit pad queue ≡ true → EndFacts up other_up ready joined pad links
    → EndFacts up other_up ready now pad links
own_joined {ready = ready} {pad = pad} now queue is asked h = record {
  ready_once_up = h.ready_once_up;
  joined_once_both = inr (
    elim h.ready_once_up [ inl none ↦ absurd (no_bit ready queue none is) | inr up ↦ up ],
    elim h.pad_once_up [ inl none ↦ absurd (no_bit pad queue none asked) | inr up ↦ up ],
  );
  pad_once_up = h.pad_once_up;
  posted_once_up = h.posted_once_up;
}

-- a scratchpad lands at the peer
pad_landed : {up other_up : Bool} {ready joined : ℕ} {links : List ℕ} (pads : List ℕ) (i value : ℕ) {r j p : ℕ} (flight : List Label) (place : ℕ) → slice_get flight place ≡ Some (Pad i value)
    → EndFacts other_up up r j p (link_pads flight) → EndFacts up other_up ready joined (slice_index pads links_pad) links
    → EndFacts up other_up ready joined (slice_index (slice_set pads i value) links_pad) links × EndFacts other_up up r j p (link_pads (remove flight place))
pad_landed {up} {other_up} {ready} {joined} {links} pads i value {r} {j} {p} flight place at posts h = elim (cases_Bool (i == links_pad)) [
  | inl is ↦
      let came_up : other_up ≡ true = elim posts.posted_once_up [
        | inl none ↦ absurd (some_read link_value flight place (Pad i value) value at (cond-true (i == links_pad) (Some value) None is) none)
        | inr up ↦ up
      ] in (
        record { ready_once_up = h.ready_once_up; joined_once_both = h.joined_once_both; pad_once_up = inr came_up; posted_once_up = h.posted_once_up },
        record { ready_once_up = posts.ready_once_up; joined_once_both = posts.joined_once_both; pad_once_up = posts.pad_once_up; posted_once_up = inr came_up },
      )
  | inr isnt ↦ (
    subst (λ n. EndFacts up other_up ready joined n links) (sym (get_or-set_other pads i links_pad value 0 (λ e. eqb-false i links_pad isnt (sym e)))) h,
    subst (EndFacts other_up up r j p) (sym (filter_map-remove link_value flight place (Pad i value) at (no_link (Pad i value) isnt))) posts,
  )
]

-- a side that a train finds
new_facts : {up other_up : Bool} {ready joined offered : ℕ} (pads : List ℕ) (flight : List Label) → IsNew up ready joined offered pads → flight ≡ []
    → EndFacts up other_up ready joined (slice_index pads links_pad) (link_pads flight)
new_facts pads flight new empty = record {
  ready_once_up = inl new.none_ready;
  joined_once_both = inl new.none_joined;
  pad_once_up = inl (ap (λ xs. slice_index xs links_pad) new.none_landed);
  posted_once_up = inl (ap link_pads empty);
}

-- at the start of a pair that is declared up, and of one that isn't
pub facts_up : (ready joined pad : ℕ) (links : List ℕ) → EndFacts true true ready joined pad links
facts_up ready joined pad links = record { ready_once_up = inr refl; joined_once_both = inr (refl, refl); pad_once_up = inr refl; posted_once_up = inr refl }

-- An end with no queue ready or joined, nor seen or posted as ready, needs no side up for its facts to hold.
pub facts_idle : (up other_up : Bool) → EndFacts up other_up 0 0 0 []
facts_idle up other_up = record { ready_once_up = inl refl; joined_once_both = inl refl; pad_once_up = inl refl; posted_once_up = inl refl }

dropped_facts : {up other_up : Bool} {ready joined pad : ℕ} {links : List ℕ} → EndFacts up other_up ready joined pad links → EndFacts up other_up ready joined pad []
dropped_facts h = record { ready_once_up = h.ready_once_up; joined_once_both = h.joined_once_both; pad_once_up = h.pad_once_up; posted_once_up = inl refl }

-- Until a side forgets the session, ordinary steps keep queues ready on sides that are up and joined where both are.
pub joins_kept : (plan : Plan) (lane : LaneName) (s : Sight) (made : Answered) (news : News) (t : Sight) → IsOrdinaryOn lane.pair made.step → Turn plan lane s made news t
    → EmptyOf s → SettledOf s → (LiveOf s → JoinsOf s) → LiveOf t → JoinsOf t
joins_kept plan lane s made news t ordinary (Trains may) empty settled h live = (
  new_facts s.sender.pads s.sender.flight (settled.0.new_once_clean may.down (settled.0.clean_once_enabled may.down may.sender)) (empty may.down).0,
  new_facts s.receiver.pads s.receiver.flight (settled.1.new_once_clean may.down (settled.1.clean_once_enabled may.down may.receiver)) (empty may.down).1,
)
joins_kept plan lane s made news t ordinary (Breaks may) empty settled h live = h (live_up s.state (up-not_down s.state may.up))
joins_kept plan lane s made news t ordinary (Drops may) empty settled h live =
    let before = h (live_up s.state (closing-not_down s.state may.closing)) in (dropped_facts before.0, dropped_facts before.1)
joins_kept plan lane s made news t ordinary (Forgets Sender may) empty settled h live = absurd (false≢true (sym (live may.down).0))
joins_kept plan lane s made news t ordinary (Forgets Receiver may) empty settled h live = absurd (false≢true (sym (live may.down).1))
joins_kept plan lane s made news t ordinary (Offers e label may) empty settled h live = links_posted e (with_number OffersMade e _ s) label (no_link label may.no_link) (h live)
joins_kept plan lane s made news t ordinary (Checks Sender may) empty settled h live = let before = h live in (own_up before.0, peer_up before.1)
joins_kept plan lane s made news t ordinary (Checks Receiver may) empty settled h live = let before = h live in (peer_up before.0, own_up before.1)
joins_kept plan lane s made news t ordinary (Readies Sender queue may) empty settled h live = let before = h live in (own_ready _ _ may.checked before.0, before.1)
joins_kept plan lane s made news t ordinary (Readies Receiver queue may) empty settled h live = let before = h live in (before.0, own_ready _ _ may.checked before.1)
joins_kept plan lane s made news t ordinary (Joins Sender queue may) empty settled h live = let before = h live in (own_joined _ queue may.ready may.asked before.0, before.1)
joins_kept plan lane s made news t ordinary (Joins Receiver queue may) empty settled h live = let before = h live in (before.0, own_joined _ queue may.ready may.asked before.1)
joins_kept plan lane s made news t ordinary (Posts label rest may) empty settled h live = links_posted Sender s label (lane_no_link lane.queue label may.own) (h live)
joins_kept plan lane s made news t ordinary (PostsNext entry others label rest may) empty settled h live = links_posted Sender s label (lane_no_link lane.queue label may.own) (h live)
joins_kept plan lane s made news t ordinary (Says e label may) empty settled h live = links_posted e s label (plain_no_link label (may.no_handshake ordinary)) (h live)
joins_kept plan lane s made news t ordinary (LandsFlag place label n may) empty settled h live = links_taken Sender s place label may.land (write_no_link lane.queue label _ may.is) (h live)
joins_kept plan lane s made news t ordinary (LandsField place label n field may) empty settled h live = links_taken Sender s place label may.land (write_no_link lane.queue label _ may.is) (h live)
joins_kept plan lane s made news t ordinary (LandsIndex place n may) empty settled h live = links_taken Receiver s place (Index lane.queue n) may refl (h live)
joins_kept plan lane s made news t ordinary (LandsBell e place queue may) empty settled h live = links_taken e s place (Bell queue) may refl (h live)
joins_kept plan lane s made news t ordinary (LandsPad Sender place i value may) empty settled h live =
    let before = h live in let now = pad_landed s.receiver.pads i value s.sender.flight place may.there before.0 before.1 in (now.1, now.0)
joins_kept plan lane s made news t ordinary (LandsPad Receiver place i value may) empty settled h live =
    let before = h live in pad_landed s.sender.pads i value s.receiver.flight place may.there before.1 before.0
joins_kept plan lane s made news t ordinary (LandsAside e place label may) empty settled h live = links_taken e s place label may.land (plain_no_link label may.no_handshake) (h live)
joins_kept plan lane s made news t ordinary (Acks may) empty settled h live = links_posted Receiver s (Index lane.queue s.lane.acked) refl (h live)
joins_kept plan lane s made news t ordinary turn empty settled h live = h live
