-- In a session of an ordinary pair, what landed of the peer's offer and then what is in flight is what the peer has
-- offered so far. The side's scratchpads show what landed. Both hold while the side isn't up. The side is the lane's
-- sender, its peer the receiver.
use Rattle.std.proofs.Common.{◌≡◌, ℕ, ◌+◌, ◌<◌, ◌≤◌, ◌==◌, Bool, true, false, Option, Some, None, List, [], ◌∷◌, ◌++◌, length, take, refl, sym, ap, ◌∙◌, subst, inl, inr, arith, append_assoc}
use Rattle.std.specs.Prelude.{if◌then◌else◌, nat_lt, slice_index, slice_index_or, slice_set, remove}
use Rattle.std.specs.List.{cons_option}
use Rattle.std.proofs.lemmas.Bool.{both_ways, false≢true, true≢false, cases_eq, eq-eqb, ne_eqb, eqb-false, and_left, cond-false}
use Rattle.std.proofs.lemmas.List.{append-nil, take_more, length-set, get_or-set_same, get_or-set_other, get_or-replicate}
use Rattle.step_kinds.specs.Sides.{other_side}
use Rattle.step_kinds.specs.declared.names.LaneName.{LaneName}
use Rattle.step_kinds.specs.declared.plan.Plan.{Plan}
use Rattle.step_kinds.specs.declared.plan.SidePlan.{SidePlan}
use Rattle.step_kinds.specs.declared.steps.Label.{Label}
use Rattle.step_kinds.specs.declared.steps.Label.TheVariants.{Pad}
use Rattle.pair_model.specs.Pads.{offers}
use Rattle.pair_model.specs.Link.{is_up}
use Rattle.ledger_model.specs.Log.{Answered, trains, landed_pad}
use Rattle.pair_model.specs.Plans.{pair_plan, side_plan}
use Rattle.order_rules.specs.Order.{strict}
use Rattle.pair_model.specs.Orders.{kind_of}
use Rattle.step_kinds.specs.declared.names.Side.{Side}
use Rattle.step_kinds.specs.declared.plan.PairPlan.{PairPlan}
use Rattle.ledger_laws.proofs.Labels.{ReadsOneClass}
use Rattle.std.proofs.lemmas.Option.{none-some}
use Rattle.ledger_laws.specs.Laws.{IsOrdinaryOn}
use Rattle.ledger_laws.proofs.AtStart.{down-not_up}
use Rattle.ledger_laws.proofs.CleanSides.{IsNew, SettledOf}
use Rattle.ledger_laws.proofs.InFlight.{filter_map-last, filter_map-remove, lands_read, posted_unread, posted_up, EmptyOf}
use Rattle.ledger_laws.proofs.Offers.{is_offer, offer_of, offers_in, last_value, last_value-last, value_of, offer-good}
use Rattle.ledger_laws.proofs.LogReaders.{landed_pad-last}
use Rattle.ledger_laws.proofs.walk.Sight.{Sight, Sender, Receiver, flight_with}
use Rattle.ledger_laws.proofs.walk.News.{News, Tells, pad_next}
use Rattle.ledger_laws.proofs.walk.Turn.{MayLand, MayOffer, Turn, Trains, Breaks, Drops, Forgets, Offers, Checks, Readies, Says, LandsIndex, LandsBell, LandsPad, LandsAside, Acks, is_handshake}

-- The session

pub record InSession (lane : LaneName) (peer : SidePlan) (log : List Answered) (pads : List ℕ) (offered : ℕ) (flight : List Label) : Type 0 where
  pub landed : List Label
  pub landed_values : (i : ℕ) → is_offer i ≡ true → landed_pad log lane.pair lane.from i ≡ last_value i None landed
  pub order : landed ++ offers_in flight ≡ take offered (offers peer)
  pub within : offered ≤ length (offers peer)
  pub room : length pads ≡ 16
  pub shown : (i : ℕ) → i < 16 → slice_index pads i ≡ value_of (landed_pad log lane.pair lane.from i)

abbrev pub SessionOf : LaneName → SidePlan → List Answered → Sight → Type 0
SessionOf lane peer log s = InSession lane peer log s.sender.pads s.receiver.offered s.receiver.flight

-- nothing lands in a scratchpad of the side, and no session begins
abbrev pub IsMute : LaneName → Answered → Type 0
IsMute lane made = (trains lane.pair made ≡ false) × ((i : ℕ) (now : Option ℕ) → pad_next lane made Sender i now ≡ now)

landed_mute : (lane : LaneName) (log : List Answered) (made : Answered) → IsMute lane made → (i : ℕ) → landed_pad (log ++ made ∷ []) lane.pair lane.from i ≡ landed_pad log lane.pair lane.from i
landed_mute lane log made mute i =
    landed_pad-last lane.pair lane.from i log made
    ∙ ap (λ b. if b then None else pad_next lane made Sender i (landed_pad log lane.pair lane.from i)) mute.0 ∙ mute.1 i (landed_pad log lane.pair lane.from i)

session_alike : (lane : LaneName) (peer : SidePlan) (log : List Answered) (made : Answered) (pads : List ℕ) (offered : ℕ) (flight after : List Label) → IsMute lane made
    → offers_in after ≡ offers_in flight → InSession lane peer log pads offered flight → InSession lane peer (log ++ made ∷ []) pads offered after
session_alike lane peer log made pads offered flight after mute same h = record {
  landed = h.landed;
  landed_values = λ i is. landed_mute lane log made mute i ∙ h.landed_values i is;
  order = ap (λ xs. h.landed ++ xs) same ∙ h.order;
  within = h.within;
  room = h.room;
  shown = λ i below. h.shown i below ∙ ap value_of (sym (landed_mute lane log made mute i));
}

-- the peer offers one more
session_offers : (lane : LaneName) (peer : SidePlan) (log : List Answered) (made : Answered) (s : Sight) (label : Label) → peer.windows ≤ 4 → IsMute lane made → MayOffer peer s Receiver label
    → SessionOf lane peer log s → InSession lane peer (log ++ made ∷ []) s.sender.pads (s.receiver.offered + 1) (flight_with s.state s.receiver.flight label)
session_offers lane peer log made s label few mute may h =
    let ne = eqb-false s.receiver.offered (length (offers peer)) may.more in
    let within = h.within in
    let below : s.receiver.offered < length (offers peer) = grind (arith, ne) in
    record {
      landed = h.landed;
      landed_values = λ i is. landed_mute lane log made mute i ∙ h.landed_values i is;
      order =
          ap (λ flight. h.landed ++ offers_in flight) (posted_up s.state s.receiver.flight label may.up)
          ∙ ap (λ xs. h.landed ++ xs)
          (filter_map-last offer_of s.receiver.flight label ∙ ap (λ l. offers_in s.receiver.flight ++ cons_option (offer_of l) []) may.is_next
          ∙ ap (λ o. offers_in s.receiver.flight ++ cons_option o []) (offer-good peer few s.receiver.offered))
          ∙ sym (append_assoc h.landed (offers_in s.receiver.flight) (slice_index_or (offers peer) s.receiver.offered (Pad 0 0) ∷ []))
          ∙ ap (λ xs. xs ++ slice_index_or (offers peer) s.receiver.offered (Pad 0 0) ∷ []) h.order
          ∙ sym (take_more (offers peer) s.receiver.offered (Pad 0 0) below);
      within = omega arith;
      room = h.room;
      shown = λ i small. h.shown i small ∙ ap value_of (sym (landed_mute lane log made mute i));
    }

-- a scratchpad is written
pads_written : (pads : List ℕ) (i j value : ℕ) (now : Option ℕ) → length pads ≡ 16 → j < 16 → slice_index pads j ≡ value_of now
    → slice_index (slice_set pads i value) j ≡ value_of (if i == j then Some value else now)
pads_written pads i j value now room small old = elim (cases_eq i j) [
  | inl e ↦
      subst (λ b. slice_index (slice_set pads i value) j ≡ value_of (if b then Some value else now)) (sym (eq-eqb i j e))
      (subst (λ m. slice_index (slice_set pads m value) j ≡ value) (sym e) (get_or-set_same pads j value 0 (omega arith)))
  | inr ne ↦
      subst (λ b. slice_index (slice_set pads i value) j ≡ value_of (if b then Some value else now)) (sym (ne_eqb i j ne))
      (get_or-set_other pads i j value 0 (λ e. ne (sym e)) ∙ old)
]

landed_value : (b : Bool) (landed : List Label) (i j value : ℕ) → is_offer i ≡ b → is_offer j ≡ true
    → (if i == j then Some value else last_value j None landed) ≡ last_value j None (landed ++ cons_option (if b then Some (Pad i value) else None) [])
landed_value true landed i j value is other = sym (last_value-last j None landed i value)
landed_value false landed i j value is other =
    ap (λ b. if b then Some value else last_value j None landed) (ne_eqb i j (λ e. both_ways (is_offer i) is (ap is_offer e ∙ other))) ∙ ap (last_value j None) (sym (append-nil landed))

landed_order : (o : Option Label) (landed rest : List Label) → (landed ++ cons_option o []) ++ rest ≡ landed ++ cons_option o rest
landed_order None landed rest = ap (λ xs. xs ++ rest) (append-nil landed)
landed_order (Some label) landed rest = append_assoc landed (label ∷ []) rest

pad_strict : (strict_pair : Bool) (i value : ℕ) → kind_of strict_pair (Pad i value) ≡ strict
pad_strict true i value = refl
pad_strict false i value = refl

-- the pads stay in one class
offers_one_class : (own : PairPlan) (side : Side) (i value : ℕ) → ReadsOneClass offer_of own side (Pad i value)
offers_one_class own side i value (Pad j other) y some = refl
offers_one_class own side i value other y some = absurd (none-some y some)

session_lands : (lane : LaneName) (peer : SidePlan) (log : List Answered) (made : Answered) {own : PairPlan} {side : Side} (s : Sight) (place i value : ℕ) → trains lane.pair made ≡ false
    → ((j : ℕ) (now : Option ℕ) → pad_next lane made Sender j now ≡ (if i == j then Some value else now)) → MayLand own side s Receiver place (Pad i value)
    → SessionOf lane peer log s → InSession lane peer (log ++ made ∷ []) (slice_set s.sender.pads i value) s.receiver.offered (remove s.receiver.flight place)
session_lands lane peer log made {own} {side} s place i value no_train lands may h = record {
  landed = h.landed ++ cons_option (offer_of (Pad i value)) [];
  landed_values = λ j is. now j ∙ ap (λ o. if i == j then Some value else o) (h.landed_values j is) ∙ landed_value (is_offer i) h.landed i j value refl is;
  order =
      landed_order (offer_of (Pad i value)) h.landed (offers_in (remove s.receiver.flight place))
      ∙ ap (λ xs. h.landed ++ xs) (sym (lands_read offer_of own side (Pad i value) (pad_strict own.strict i value) (offers_one_class own side i value) s Receiver place may)) ∙ h.order;
  within = h.within;
  room = length-set s.sender.pads i value ∙ h.room;
  shown = λ j small. pads_written s.sender.pads i j value (landed_pad log lane.pair lane.from j) h.room small (h.shown j small) ∙ ap value_of (sym (now j));
}
  where
    now : (j : ℕ) → landed_pad (log ++ made ∷ []) lane.pair lane.from j ≡ (if i == j then Some value else landed_pad log lane.pair lane.from j)
    now j =
        landed_pad-last lane.pair lane.from j log made
        ∙ ap (λ b. if b then None else pad_next lane made Sender j (landed_pad log lane.pair lane.from j)) no_train ∙ lands j (landed_pad log lane.pair lane.from j)

-- a session begins
session_begins : (lane : LaneName) (peer : SidePlan) (log : List Answered) (made : Answered) {up peer_up : Bool} {a b c d own_offered offered : ℕ} (pads : List ℕ) {peer_pads : List ℕ} (flight : List Label)
    → trains lane.pair made ≡ true → IsNew up a b own_offered pads → IsNew peer_up c d offered peer_pads → flight ≡ [] → InSession lane peer (log ++ made ∷ []) pads offered flight
session_begins lane peer log made pads flight train own peers empty = record {
  landed = [];
  landed_values = λ i is. none i;
  order = ap offers_in empty ∙ ap (λ n. take n (offers peer)) (sym peers.none_offered);
  within = rw peers.none_offered (omega arith);
  room = ap length own.none_landed;
  shown = λ i small. ap (λ xs. slice_index xs i) own.none_landed ∙ get_or-replicate 16 i 0 0 small ∙ ap value_of (sym (none i));
}
  where
    none : (i : ℕ) → landed_pad (log ++ made ∷ []) lane.pair lane.from i ≡ None
    none i =
        landed_pad-last lane.pair lane.from i log made
        ∙ ap (λ b. if b then None else pad_next lane made Sender i (landed_pad log lane.pair lane.from i)) train

-- what isn't of the handshake is of no offer
no_offer : (label : Label) → is_handshake label ≡ false → offer_of label ≡ None
no_offer (Pad i value) e = cond-false (is_offer i) (Some (Pad i value)) None (and_left (nat_lt i 12) _ e)
no_offer label e = refl

-- Until a side is up, ordinary steps keep the peer's offer so far in order: what landed, then what is in flight.
pub session_kept : (plan : Plan) (lane : LaneName) (peer : SidePlan) (log : List Answered) (s : Sight) (made : Answered) (news : News) (t : Sight)
    → peer ≡ side_plan (pair_plan plan lane.pair) (other_side lane.from) → peer.windows ≤ 4 → IsOrdinaryOn lane.pair made.step
    → Tells plan lane s.lane made news → Turn plan lane s made news t → EmptyOf s → SettledOf s
    → (is_up s.state ≡ true → s.sender.up ≡ false → SessionOf lane peer log s) → is_up t.state ≡ true → t.sender.up ≡ false → SessionOf lane peer (log ++ made ∷ []) t
session_kept plan lane peer log s made news t is few ordinary tells (Trains may) empty settled h up no_check =
    session_begins lane peer log made s.sender.pads s.receiver.flight tells.starts
    (settled.0.new_once_clean may.down (settled.0.clean_once_enabled may.down may.sender)) (settled.1.new_once_clean may.down (settled.1.clean_once_enabled may.down may.receiver)) (empty may.down).1
session_kept plan lane peer log s made news t is few ordinary tells (Breaks may) empty settled h up no_check = absurd (false≢true up)
session_kept plan lane peer log s made news t is few ordinary tells (Drops may) empty settled h up no_check = absurd (false≢true up)
session_kept plan lane peer log s made news t is few ordinary tells (Forgets e may) empty settled h up no_check = absurd (both_ways (is_up s.state) (down-not_up s.state may.down) up)
session_kept plan lane peer log s made news t is few ordinary tells (Checks Sender may) empty settled h up no_check = absurd (true≢false no_check)
session_kept plan lane peer log s made news t is few ordinary tells (Offers Receiver label may) empty settled h up no_check =
    session_offers lane peer log made s label few (tells.starts, tells.pads Sender) (subst (λ p. MayOffer p s Receiver label) (sym is) may) (h up no_check)
session_kept plan lane peer log s made news t is few ordinary tells (Readies Receiver queue may) empty settled h up no_check =
    session_alike lane peer log made _ _ s.receiver.flight _ (tells.starts, tells.pads Sender) (posted_unread offer_of s.state s.receiver.flight _ refl) (h up no_check)
session_kept plan lane peer log s made news t is few ordinary tells (Says Receiver label may) empty settled h up no_check =
    session_alike lane peer log made _ _ s.receiver.flight _ (tells.starts, tells.pads Sender) (posted_unread offer_of s.state s.receiver.flight label (no_offer label (may.no_handshake ordinary)))
    (h up no_check)
session_kept plan lane peer log s made news t is few ordinary tells (LandsIndex place n may) empty settled h up no_check =
    session_alike lane peer log made _ _ s.receiver.flight _ (tells.starts, tells.pads Sender) (filter_map-remove offer_of s.receiver.flight place _ may.there refl) (h up no_check)
session_kept plan lane peer log s made news t is few ordinary tells (LandsBell Receiver place queue may) empty settled h up no_check =
    session_alike lane peer log made _ _ s.receiver.flight _ (tells.starts, tells.pads Sender) (filter_map-remove offer_of s.receiver.flight place _ may.there refl) (h up no_check)
session_kept plan lane peer log s made news t is few ordinary tells (LandsPad Receiver place i value may) empty settled h up no_check =
    session_lands lane peer log made s place i value tells.starts (tells.pads Sender) may (h up no_check)
session_kept plan lane peer log s made news t is few ordinary tells (LandsAside Receiver place label may) empty settled h up no_check =
    session_alike lane peer log made _ _ s.receiver.flight _ (tells.starts, tells.pads Sender) (filter_map-remove offer_of s.receiver.flight place label may.land.there (no_offer label may.no_handshake)) (h up no_check)
session_kept plan lane peer log s made news t is few ordinary tells (Acks may) empty settled h up no_check =
    session_alike lane peer log made _ _ s.receiver.flight _ (tells.starts, tells.pads Sender) (posted_unread offer_of s.state s.receiver.flight _ refl) (h up no_check)
session_kept plan lane peer log s made news t is few ordinary tells turn empty settled h up no_check =
    session_alike lane peer log made _ _ s.receiver.flight s.receiver.flight (tells.starts, tells.pads Sender) refl (h up no_check)
