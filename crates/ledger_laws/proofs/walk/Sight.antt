-- What one lane has in sight of its pair: the link, the ends of its sender and of its receiver, the lane and its tally.
-- Here is how each change of a pair looks to the lane, so that nothing above speaks of sides or of other lanes.
use Rattle.std.proofs.Common.{◌≡◌, ℕ, ◌==◌, Bool, true, false, ◌&&◌, List, [], ◌∷◌, ◌++◌, refl, sym, ap, subst, inl, inr}
use Rattle.std.specs.Prelude.{if◌then◌else◌}
use Rattle.std.proofs.lemmas.Bool.{eq-eqb, ne_eqb, cases_eq, and_right, cond-true, cond-false}
use Rattle.step_kinds.specs.Sides.{other_side, same_side}
use Rattle.step_kinds.specs.declared.names.Side.{Side}
use Rattle.step_kinds.specs.declared.names.Side.TheVariants.{A, B}
use Rattle.step_kinds.specs.declared.steps.Label.{Label}
use Rattle.pair_model.specs.Both.{at_side}
use Rattle.ledger_model.specs.Ledger.{LanePart, SidePart, PairPart, Tally, side_of, lane_of, tally_of, posts, posts_raw, with_side_part, with_lane, with_tally, updated}
use Rattle.pair_model.specs.Link.{is_up}
use Rattle.pair_model.specs.declared.LinkState.{LinkState}

-- An end of the lane: its side, but for the bytes of raw writes, and what the link says of that side.
pub record End : Type 0 where
  pub part : SidePart
  pub open part use {up, ready, joined, closed, offered, pads, pending, masked, flight}
  pub clean : Bool
  pub enabled : Bool

pub record Sight : Type 0 where
  pub state : LinkState
  pub session : ℕ
  pub sender : End
  pub receiver : End
  pub lane : LanePart
  pub tally : ℕ → Tally

-- The two ends

pub data Role : Type 0 where
  Sender : Role
  Receiver : Role

abbrev pub peer_of : Role → Role
peer_of Sender = Receiver
peer_of Receiver = Sender

abbrev pub end_at : Sight → Role → End
end_at s Sender = s.sender
end_at s Receiver = s.receiver

abbrev pub sender_after : Role → End → End → End
sender_after Sender new old = new
sender_after Receiver new old = old

abbrev pub receiver_after : Role → End → End → End
receiver_after Sender new old = old
receiver_after Receiver new old = new

-- the sight with another end
abbrev pub with_end : Sight → Role → End → Sight
with_end s e new = record s { sender = sender_after e new s.sender; receiver = receiver_after e new s.receiver }

-- the sight with another value in a field of one end; what isn't changed of both ends is in sight as before, whichever
-- end it is
abbrev pub on_sender : {X : Type 0} → Role → X → X → X
on_sender Sender new old = new
on_sender Receiver new old = old

abbrev pub on_receiver : {X : Type 0} → Role → X → X → X
on_receiver Sender new old = old
on_receiver Receiver new old = new

abbrev pub with_field : {X : Type 0} → (End → X) → (X → End → End) → Role → X → Sight → Sight
with_field get put e x s = record s {
  sender = put (on_sender e x (get s.sender)) s.sender;
  receiver = put (on_receiver e x (get s.receiver)) s.receiver;
}

abbrev pub with_up : Role → Bool → Sight → Sight
with_up = with_field (λ own. own.up) (λ up own. record own { part = record own.part { up = up } })

-- the numbers of an end: sets of queues and of doorbells, as their bits, and how many offers were made
pub data Number : Type 0 where
  ReadyQueues : Number
  JoinedQueues : Number
  ClosedQueues : Number
  OffersMade : Number
  PendingBells : Number
  MaskedBells : Number

abbrev pub number_of : Number → End → ℕ
number_of ReadyQueues own = own.ready
number_of JoinedQueues own = own.joined
number_of ClosedQueues own = own.closed
number_of OffersMade own = own.offered
number_of PendingBells own = own.pending
number_of MaskedBells own = own.masked

abbrev pub part_with : Number → ℕ → SidePart → SidePart
part_with ReadyQueues ready part = record part { ready = ready }
part_with JoinedQueues joined part = record part { joined = joined }
part_with ClosedQueues closed part = record part { closed = closed }
part_with OffersMade offered part = record part { offered = offered }
part_with PendingBells pending part = record part { pending = pending }
part_with MaskedBells masked part = record part { masked = masked }

abbrev pub with_number : Number → Role → ℕ → Sight → Sight
with_number which = with_field (number_of which) (λ number own. record own { part = part_with which number own.part })

abbrev pub with_pads : Role → List ℕ → Sight → Sight
with_pads = with_field (λ own. own.pads) (λ pads own. record own { part = record own.part { pads = pads } })

abbrev pub with_flight : Role → List Label → Sight → Sight
with_flight = with_field (λ own. own.flight) (λ flight own. record own { part = record own.part { flight = flight } })

abbrev pub with_clean : Role → Bool → Sight → Sight
with_clean = with_field (λ own. own.clean) (λ clean own. record own { clean = clean })

abbrev pub with_enabled : Role → Bool → Sight → Sight
with_enabled = with_field (λ own. own.enabled) (λ enabled own. record own { enabled = enabled })

-- the side of an end, if the lane's sender is this side
abbrev pub side_at : Side → Role → Side
side_at from Sender = from
side_at from Receiver = other_side from

-- what holds of both ends' sides holds of each side
pub by_role : (from : Side) (P : Side → Type 0) → ((e : Role) → P (side_at from e)) → (side : Side) → P side
by_role A P each A = each Sender
by_role A P each B = each Receiver
by_role B P each A = each Receiver
by_role B P each B = each Sender

-- The other side of a side's other side is the side itself.
pub other_other : (side : Side) → other_side (other_side side) ≡ side
other_other A = refl
other_other B = refl

-- what is so of each side and each end
pub each_way : (P : Side → Role → Type 0) → P A Sender → P A Receiver → P B Sender → P B Receiver → (from : Side) (e : Role) → P from e
each_way P a b c d A Sender = a
each_way P a b c d A Receiver = b
each_way P a b c d B Sender = c
each_way P a b c d B Receiver = d

-- what is in flight once a side posts a write
abbrev pub flight_with : LinkState → List Label → Label → List Label
flight_with state flight label = if is_up state then flight ++ label ∷ [] else flight

-- an end posts a write
abbrev pub posted : Role → Label → Sight → Sight
posted e label s = with_flight e (flight_with s.state (end_at s e).flight label) s

-- The sight of a lane

abbrev pub end_of_part : SidePart → Bool → Bool → End
end_of_part part clean enabled = record { part = record part { poked = [] }; clean = clean; enabled = enabled }

abbrev pub end_of : PairPart → Side → End
end_of pair side = end_of_part (side_of pair side) (at_side pair.link.clean side) (at_side pair.link.enabled side)

abbrev pub sight : Side → ℕ → PairPart → Sight
sight from q pair = record {
  state = pair.link.state;
  session = pair.link.session;
  sender = end_of pair from;
  receiver = end_of pair (other_side from);
  lane = lane_of pair from q;
  tally = tally_of pair from q;
}

-- Whether a step's lane is this one

-- this lane isn't that of this sender and queue
pub record IsOff (from : Side) (q : ℕ) (side : Side) (queue : ℕ) : Type 0 where
  pub named : (same_side side from && (queue == q)) ≡ false
  pub placed : (same_side side from && (q == queue)) ≡ false

-- a lane of this sender and of another queue, or of the other sender
pub data OffCase (from : Side) (q : ℕ) : Side → ℕ → Type 0 where
  OtherQueue : {queue : ℕ} → (q ≡ queue → ⊥) → OffCase from q from queue
  OtherWay : {queue : ℕ} → OffCase from q (other_side from) queue

-- A lane of the same sender and another queue, or of the other sender, fails both tests for being this lane.
pub is_off : (from : Side) (q : ℕ) (side : Side) (queue : ℕ) → OffCase from q side queue → IsOff from q side queue
is_off from q side queue (OtherQueue ne) = record {
  named = and_right (same_side from from) _ (ne_eqb queue q (λ e. ne (sym e)));
  placed = and_right (same_side from from) _ (ne_eqb q queue ne);
}
is_off A q side queue OtherWay = record { named = refl; placed = refl }
is_off B q side queue OtherWay = record { named = refl; placed = refl }

-- what holds of this lane, and of each other one, holds of the lane of each sender and queue
pub by_lane : (from : Side) (q : ℕ) (P : Side → ℕ → Type 0) → P from q
    → ((side : Side) (queue : ℕ) → OffCase from q side queue → IsOff from q side queue → P side queue) → (side : Side) (queue : ℕ) → P side queue
by_lane from q P own off side queue = by_role from (λ s. P s queue) each side
  where
    each : (e : Role) → P (side_at from e) queue
    each Receiver = off (other_side from) queue OtherWay (is_off from q (other_side from) queue OtherWay)
    each Sender = elim (cases_eq q queue) [
      | inl e ↦ subst (λ k. P from k) e own
      | inr ne ↦ off from queue (OtherQueue ne) (is_off from q from queue (OtherQueue ne))
    ]

-- the same by the side that receives: of another queue, or of the lane the other way
pub data OffReceived (from : Side) (q : ℕ) : Side → Side → ℕ → Type 0 where
  QueueOff : {queue : ℕ} → (q ≡ queue → ⊥) → OffReceived from q (other_side from) from queue
  WayOff : {queue : ℕ} → OffReceived from q from (other_side from) queue

-- A lane that a side receives isn't this one where its queue is another or where it goes the other way.
pub received-off : (from : Side) (q : ℕ) (side sender : Side) (queue : ℕ) → OffReceived from q side sender queue → IsOff from q (other_side side) queue
received-off from q side sender queue (QueueOff ne) = subst (λ s. IsOff from q s queue) (sym (other_other from)) (is_off from q from queue (OtherQueue ne))
received-off from q side sender queue WayOff = is_off from q (other_side from) queue OtherWay

-- `P` speaks of the side that receives, of the side that sends to it, and of the queue
pub by_received_lane : (from : Side) (q : ℕ) (P : Side → Side → ℕ → Type 0) → P (other_side from) from q
    → ((side sender : Side) (queue : ℕ) → OffReceived from q side sender queue → IsOff from q sender queue → P side sender queue)
    → (side : Side) (queue : ℕ) → P side (other_side side) queue
by_received_lane from q P own off side queue = by_role from (λ s. P s (other_side s) queue) each side
  where
    each : (e : Role) → P (side_at from e) (other_side (side_at from e)) queue
    each Sender = off from (other_side from) queue WayOff (is_off from q (other_side from) queue OtherWay)
    each Receiver = subst (λ sender. P (other_side from) sender queue) (sym (other_other from)) (elim (cases_eq q queue) [
      | inl e ↦ subst (λ k. P (other_side from) from k) e own
      | inr ne ↦ off (other_side from) from queue (QueueOff ne) (is_off from q from queue (OtherQueue ne))
    ])

-- A side passes the test for being the same side as itself.
pub same_side-refl : (side : Side) → same_side side side ≡ true
same_side-refl A = refl
same_side-refl B = refl

-- A side's other side fails the test for being the same side as it.
pub other_side-not : (side : Side) → same_side (other_side side) side ≡ false
other_side-not A = refl
other_side-not B = refl

-- A side fails the test for being the same side as its other side.
pub other_side-across : (side : Side) → same_side side (other_side side) ≡ false
other_side-across A = refl
other_side-across B = refl

-- How the changes of a pair look to a lane

-- Each end that a lane has in sight is that of its side in the pair.
pub end-own : (from : Side) (q : ℕ) (pair : PairPart) (e : Role) → end_at (sight from q pair) e ≡ end_of pair (side_at from e)
end-own from q pair Sender = refl
end-own from q pair Receiver = refl

module _ (from : Side) (q : ℕ) (pair : PairPart) where
  -- a side's part
  pub sight-side : (e : Role) (part : SidePart)
      → sight from q (with_side_part pair (side_at from e) part)
      ≡ with_end (sight from q pair) e (end_of_part part (end_at (sight from q pair) e).clean (end_at (sight from q pair) e).enabled)
  sight-side e part = go from e
    where
      go : (f : Side) (e : Role) → sight f q (with_side_part pair (side_at f e) part)
          ≡ with_end (sight f q pair) e (end_of_part part (end_at (sight f q pair) e).clean (end_at (sight f q pair) e).enabled)
      go A Sender = refl
      go A Receiver = refl
      go B Sender = refl
      go B Receiver = refl

  -- a write that a side posts; bytes that it posts past the transport aren't in sight
  sight-posted : (e : Role) (label : Label) (poked : List (List ℕ))
      → let part = side_of pair (side_at from e) in
      sight from q (if is_up pair.link.state then with_side_part pair (side_at from e) (record part { flight = part.flight ++ label ∷ []; poked = poked }) else pair)
      ≡ posted e label (sight from q pair)
  sight-posted e label poked = go (is_up pair.link.state) from e
    where
      go : (up : Bool) (f : Side) (e : Role)
          → let part = side_of pair (side_at f e) in
          sight f q (if up then with_side_part pair (side_at f e) (record part { flight = part.flight ++ label ∷ []; poked = poked }) else pair)
          ≡ with_flight e (if up then (end_at (sight f q pair) e).flight ++ label ∷ [] else (end_at (sight f q pair) e).flight) (sight f q pair)
      go true A Sender = refl
      go true A Receiver = refl
      go true B Sender = refl
      go true B Receiver = refl
      go false f Sender = refl
      go false f Receiver = refl

  pub sight-posts : (e : Role) (label : Label)
      → sight from q (posts pair (side_at from e) label)
      ≡ posted e label (sight from q pair)
  sight-posts e label = sight-posted e label (side_of pair (side_at from e)).poked

  pub sight-posts_raw : (e : Role) (label : Label) (bytes : List ℕ)
      → sight from q (posts_raw pair (side_at from e) label bytes)
      ≡ posted e label (sight from q pair)
  sight-posts_raw e label bytes = sight-posted e label ((side_of pair (side_at from e)).poked ++ bytes ∷ [])

  -- the lane's own part, and another lane's
  pub lane-own : (part : LanePart) → lane_of (with_lane pair from q part) from q ≡ part
  lane-own part = go from
    where
      go : (f : Side) → lane_of (with_lane pair f q part) f q ≡ part
      go A = rw (eq-eqb q q refl) refl
      go B = rw (eq-eqb q q refl) refl

  pub sight-lane : (part : LanePart) → sight from q (with_lane pair from q part) ≡ record (sight from q pair) { lane = part }
  sight-lane part = ap (λ lane. record (sight from q pair) { lane = lane }) (lane-own part)

  pub lane-off : (side : Side) (queue : ℕ) (part : LanePart) → IsOff from q side queue → lane_of (with_lane pair side queue part) from q ≡ lane_of pair from q
  lane-off side queue part off = go from side off.placed
    where
      go : (f s : Side) → (same_side s f && (q == queue)) ≡ false → lane_of (with_lane pair s queue part) f q ≡ lane_of pair f q
      go A A off = rw off refl
      go B B off = rw off refl
      go A B off = refl
      go B A off = refl

  pub sight-off : (side : Side) (queue : ℕ) (part : LanePart) → IsOff from q side queue → sight from q (with_lane pair side queue part) ≡ sight from q pair
  sight-off side queue part off = ap (λ lane. record (sight from q pair) { lane = lane }) (lane-off side queue part off)

  -- the lane's own tally, and another lane's
  pub sight-tally : (session : ℕ) (tally : Tally)
      → sight from q (with_tally pair from q session tally) ≡ record (sight from q pair) { tally = updated (tally_of pair from q) session tally }
  sight-tally session tally = ap (λ tallies. record (sight from q pair) { tally = tallies }) (go from)
    where
      go : (f : Side) → tally_of (with_tally pair f q session tally) f q ≡ updated (tally_of pair f q) session tally
      go A = cond-true {A = ℕ → Tally} (q == q) (updated (tally_of pair A q) session tally) (tally_of pair A q) (eq-eqb q q refl)
      go B = cond-true {A = ℕ → Tally} (q == q) (updated (tally_of pair B q) session tally) (tally_of pair B q) (eq-eqb q q refl)

  pub sight-tally_off : (side : Side) (queue session : ℕ) (tally : Tally) → IsOff from q side queue → sight from q (with_tally pair side queue session tally) ≡ sight from q pair
  sight-tally_off side queue session tally off = ap (λ tallies. record (sight from q pair) { tally = tallies }) (go from side off.placed)
    where
      go : (f s : Side) → (same_side s f && (q == queue)) ≡ false → tally_of (with_tally pair s queue session tally) f q ≡ tally_of pair f q
      go A A off = cond-false {A = ℕ → Tally} (q == queue) (updated (at_side pair.tallies A queue) session tally) (at_side pair.tallies A q) off
      go B B off = cond-false {A = ℕ → Tally} (q == queue) (updated (at_side pair.tallies B queue) session tally) (at_side pair.tallies B q) off
      go A B off = refl
      go B A off = refl
