-- The steps of the handshake.
use Rattle.std.proofs.Common.{◌≡◌, ℕ, zero, suc, ◌+◌, ◌/◌, ◌%◌, ◌≤◌, ◌==◌, ◌&&◌, ◌⊎◌, Bool, true, false, Option, Some, None, List, [], ◌∷◌, ◌++◌, length, refl, sym, ap, ◌∙◌, subst, inl, inr}
use Rattle.std.specs.Prelude.{if◌then◌else◌, not, slice_index_or}
use Rattle.std.specs.List.{AllByRecursion, flat_map}
use Rattle.std.proofs.lemmas.Bool.{true≢false}
use Rattle.step_kinds.specs.Bits.{has_bit, with_bit}
use Rattle.step_kinds.specs.Sides.{other_side}
use Rattle.step_kinds.specs.declared.names.Side.{Side}
use Rattle.step_kinds.specs.declared.names.Side.TheVariants.{A, B}
use Rattle.step_kinds.specs.declared.plan.DevPlan.{DevPlan}
use Rattle.step_kinds.specs.declared.plan.PairPlan.{PairPlan}
use Rattle.step_kinds.specs.declared.plan.SidePlan.{SidePlan}
use Rattle.step_kinds.specs.declared.steps.Answer.{Answer}
use Rattle.step_kinds.specs.declared.steps.Answer.TheVariants as answer
use Rattle.step_kinds.specs.declared.steps.Label.{Label}
use Rattle.step_kinds.specs.declared.steps.Label.TheVariants.{Chunk, Len, Ver, Flag, Down, Bell, Index, Pad, Raw}
use Rattle.step_kinds.specs.declared.steps.Step.TheVariants.{Offer, Check, Ready, Join}
use Rattle.lane_model.specs.Lane.{count_from}
use Rattle.pair_model.specs.Both.{Both, at_side}
use Rattle.pair_model.specs.DeclaredPlans.{IsPair}
use Rattle.pair_model.specs.Link.{is_down, is_up}
use Rattle.pair_model.specs.Pads.{first_larger, high_pad, links_pad, low_pad, offers, pad_index, queues_pad, version_pad, versions_differ, windows_pad, word}
use Rattle.pair_model.specs.Plans.{side_plan}
use Rattle.pair_model.specs.FreshRings.{fresh_index_words, zeroed_headers}
use Rattle.ledger_model.specs.Handshake.{check_refusal, check_step, join_step, offer_step, pad_in, ready_step, refuse_larger}
use Rattle.ledger_model.specs.Ledger.{SidePart, link_up, side_of, with_side_part}
use Rattle.ledger_model.specs.Outcome.{decided, refuse_if}
use Rattle.ledger_model.specs.Memory.{Site}
use Rattle.plan_numbers.specs.Memories.{memory_size}
use Rattle.bridge_pair.specs.Bridge.{Bridge, with_book, with_memory}
use Rattle.hand_shake.specs.Checks.{after_check_answer, check_answer, unless_larger}
use Rattle.hand_shake.specs.Offers.{after_offer_answer, pad_value, offered}
use Rattle.hand_shake.specs.Queues.{after_join_answer, after_ready_answer}
use Rattle.hand_shake.specs.declared.CheckAnswer.{CheckAnswer}
use Rattle.hand_shake.specs.declared.CheckAnswer.TheVariants as check
use Rattle.hand_shake.specs.declared.OfferAnswer.TheVariants as offer
use Rattle.hand_shake.specs.declared.ReadyAnswer.TheVariants as ready
use Rattle.hand_shake.specs.declared.JoinAnswer.TheVariants as join
use Rattle.fabric_rule.specs.Answers.{of_check, of_join, of_offer, of_ready}
use Rattle.fabric_rule.specs.InPlace.{LinkInPlace}
use Rattle.fabric_rule.specs.Parts.{PairState, QueuePart, with_bridge}
use Rattle.fabric_rule.specs.StandsFor.{SideStands, book_for, bridge_for, has_link_forgotten, view_of, PairStands}
use Rattle.bridge_pair.specs.declared.book.SideBook.{SideBook}
use Rattle.bridge_pair.specs.Flights.{flying_of}
use Rattle.bridge_pair.specs.Writes.{pad_write}
use Rattle.pair_model.specs.Stores.{bytes_in}
use Rattle.bridge_pair.specs.Ends.{bytes_after}
use Rattle.fabric_rule.proofs.Follows.{AllSides, Follows, by_side, state_for}
use Rattle.fabric_rule.proofs.Links.{not_down_up}
use Rattle.fabric_rule.proofs.PostSteps.{posts_one}
use Rattle.fabric_rule.proofs.RingPlaces.{rings_inside}
use Rattle.fabric_rule.proofs.StoredBytes.{all_stored}
use Rattle.fabric_rule.specs.Moves.{bridge_turned, move_of}

-- What is offered

abbrev IsPad : Label → Type 0
IsPad (Pad i value) = Unit {0}
IsPad label = ⊥

offers_are_pads : (own : SidePlan) → AllByRecursion IsPad (offers own)
offers_are_pads own = sizes (count_from 0 own.windows)
  where
    sizes : (windows : List ℕ)
        → AllByRecursion IsPad
        (flat_map (λ m. Pad (high_pad m) (own.size / word) ∷ Pad (low_pad m) (own.size % word) ∷ []) windows
        ++ Pad windows_pad own.windows ∷ Pad queues_pad own.queues ∷ Pad version_pad own.version ∷ [])
    sizes [] = (tt, (tt, (tt, tt)))
    sizes (m ∷ windows) = (tt, (tt, sizes windows))

pad_is : (label : Label) → IsPad label → label ≡ Pad (pad_index label) (pad_value label)
pad_is (Pad i value) is = refl
pad_is (Chunk q n part) is = absurd is
pad_is (Len q n) is = absurd is
pad_is (Ver q n) is = absurd is
pad_is (Flag q n) is = absurd is
pad_is (Down q n) is = absurd is
pad_is (Bell q) is = absurd is
pad_is (Index q n) is = absurd is
pad_is (Raw window offset len) is = absurd is

pad_among : (labels : List Label) → AllByRecursion IsPad labels → (n : ℕ) → IsPad (slice_index_or labels n (Pad 0 0))
pad_among [] all n = tt
pad_among (label ∷ labels) all zero = all.0
pad_among (label ∷ labels) all (suc n) = pad_among labels all.1 n

offer_is : (own : SidePlan) (n : ℕ) → slice_index_or (offers own) n (Pad 0 0) ≡ Pad (pad_index (slice_index_or (offers own) n (Pad 0 0))) (pad_value (slice_index_or (offers own) n (Pad 0 0)))
offer_is own n = pad_is _ (pad_among (offers own) (offers_are_pads own) n)

-- Checks

-- a check that comes up, and one that is refused
abbrev ChecksAs : CheckAnswer → Option Answer → Type 0
ChecksAs found refusal = ((found ≡ check.Up) × (refusal ≡ None)) ⊎ ((refusal ≡ Some (of_check found)) × (found ≡ check.Up → ⊥))

-- the tests in their order
same_check : (down already none version queues windows : Bool) (larger : Option ℕ) (own : SidePlan) (part : SidePart) (v ov q oq w ow : ℕ)
    → ChecksAs
    (if down then check.LinkDown else if already then check.Already else if none then check.NotYet else if version then check.Version v ov else if queues then check.Queues q oq else if windows then check.Windows w ow
    else unless_larger own part.pads larger check.Up)
    (refuse_if down answer.LinkDown (refuse_if already answer.Already (refuse_if none answer.NotYet (refuse_if version (answer.Version v ov) (refuse_if queues (answer.Queues q oq) (refuse_if windows (answer.Windows w ow) (refuse_larger part own.cap larger None)))))))
same_check true already none version queues windows larger own part v ov q oq w ow = inr (refl, λ e. cc)
same_check false true none version queues windows larger own part v ov q oq w ow = inr (refl, λ e. cc)
same_check false false true version queues windows larger own part v ov q oq w ow = inr (refl, λ e. cc)
same_check false false false true queues windows larger own part v ov q oq w ow = inr (refl, λ e. cc)
same_check false false false false true windows larger own part v ov q oq w ow = inr (refl, λ e. cc)
same_check false false false false false true larger own part v ov q oq w ow = inr (refl, λ e. cc)
same_check false false false false false false None own part v ov q oq w ow = inl (refl, refl)
same_check false false false false false false (Some m) own part v ov q oq w ow = inr (refl, λ e. cc)

module _ (devs : List DevPlan) (plan : PairPlan) (k : ℕ) (site : Site) (pages : Both (List ℕ)) (spare : Both ℕ) (queues : Both (List QueuePart))
    (link : LinkInPlace site.pair.link) (sides : AllSides devs plan k site.pair queues) where
  abbrev state : PairState
  state = state_for plan site pages spare queues

  -- Offers

  abbrev next : Side → Label
  next side = slice_index_or (offers (side_plan plan side)) (side_of site.pair side).offered (Pad 0 0)

  -- it stands, and with another book of a side
  stands : PairStands devs plan k site state
  stands = record { bridge = refl; link = link; sides = sides }

  abbrev book_as : Side → Bool → ℕ → ℕ → SideBook
  book_as side up ready offered = record { up = up; ready = ready; joined = (side_of site.pair side).joined; offered = offered }

  book_changes : (side : Side) (up : Bool) (ready offered : ℕ)
      → PairStands devs plan k (record site { pair = with_side_part site.pair side (record (side_of site.pair side) { up = up; ready = ready; offered = offered }) }) (with_bridge state (with_book state.bridge side (book_as side up ready offered)))
  book_changes A up ready offered = record { bridge = refl; link = link; sides = by_side _ (sides A) (sides B) }
  book_changes B up ready offered = record { bridge = refl; link = link; sides = by_side _ (sides A) (sides B) }

  -- the next write of an offer is a scratchpad's
  next_is : (side : Side) → next side ≡ Pad (pad_index (next side)) (pad_value (next side))
  next_is side = offer_is (side_plan plan side) (side_of site.pair side).offered

  abbrev OfferStands : Side → Label → Type 0
  OfferStands side label =
      PairStands devs plan k (record site { pair = with_side_part site.pair side (record (side_of site.pair side) { offered = (side_of site.pair side).offered + 1; flight = (side_of site.pair side).flight ++ label ∷ [] }) })
      (with_bridge state (offered state.bridge side))

  offer_at : (side : Side) (up spent : Bool) → is_up site.pair.link.state ≡ up
      → Follows devs plan k site (Offer k side)
      (decided site.pair (refuse_if (not up) answer.LinkDown (refuse_if spent answer.Already None)) (answer.Offered (pad_index (next side)))
      (if up then with_side_part site.pair side (record (side_of site.pair side) { offered = (side_of site.pair side).offered + 1; flight = (side_of site.pair side).flight ++ next side ∷ [] })
      else with_side_part site.pair side (record (side_of site.pair side) { offered = (side_of site.pair side).offered + 1 })))
      (bridge_turned state (record { answer = of_offer (if not up then offer.LinkDown else if spent then offer.Already else offer.Offered (pad_index (next side))); bridge = after_offer_answer state.bridge side (if not up then offer.LinkDown else if spent then offer.Already else offer.Offered (pad_index (next side))) }))
  offer_at side false spent is = (refl, stands)
  offer_at side true true is = (refl, stands)
  offer_at A true false is =
      let own = site.pair.sides.a in
      let posted = posts_one (book_changes A own.up own.ready (own.offered + 1)) is A (Pad (pad_index (next A)) (pad_value (next A))) (flying_of plan A (pad_write (pad_index (next A)) (pad_value (next A)))) spare.a refl tt tt tt in
      (refl, subst (OfferStands A) (sym (next_is A)) posted)
  offer_at B true false is =
      let own = site.pair.sides.b in
      let posted = posts_one (book_changes B own.up own.ready (own.offered + 1)) is B (Pad (pad_index (next B)) (pad_value (next B))) (flying_of plan B (pad_write (pad_index (next B)) (pad_value (next B)))) spare.b refl tt tt tt in
      (refl, subst (OfferStands B) (sym (next_is B)) posted)

  pub offer_follows : (side : Side) → Follows devs plan k site (Offer k side) (offer_step plan site.pair side) (move_of devs state (Offer k side))
  offer_follows A = offer_at A (is_up site.pair.link.state) (site.pair.sides.a.offered == length (offers plan.a)) refl
  offer_follows B = offer_at B (is_up site.pair.link.state) (site.pair.sides.b.offered == length (offers plan.b)) refl

  -- Ready

  ready_at : (side : Side) (queue : ℕ) (up checked done : Bool) → is_up site.pair.link.state ≡ up
      → Follows devs plan k site (Ready k side queue)
      (decided site.pair (refuse_if (not up) answer.LinkDown (refuse_if (not checked) answer.NotChecked (refuse_if done answer.Already None))) answer.Ok
      (if up then with_side_part site.pair side (record (side_of site.pair side) { ready = with_bit (side_of site.pair side).ready queue; flight = (side_of site.pair side).flight ++ Pad links_pad (with_bit (side_of site.pair side).ready queue) ∷ [] })
      else with_side_part site.pair side (record (side_of site.pair side) { ready = with_bit (side_of site.pair side).ready queue })))
      (bridge_turned state (record { answer = of_ready (if not up then ready.LinkDown else if not checked then ready.NotChecked else if done then ready.Already else ready.Ok); bridge = after_ready_answer state.bridge side queue (if not up then ready.LinkDown else if not checked then ready.NotChecked else if done then ready.Already else ready.Ok) }))
  ready_at side queue false checked done is = (refl, stands)
  ready_at side queue true false done is = (refl, stands)
  ready_at side queue true true true is = (refl, stands)
  ready_at A queue true true false is =
      let own = site.pair.sides.a in
      let bits = with_bit own.ready queue in
      (refl, posts_one (book_changes A own.up bits own.offered) is A (Pad links_pad bits) (flying_of plan A (pad_write links_pad bits)) spare.a refl tt tt tt)
  ready_at B queue true true false is =
      let own = site.pair.sides.b in
      let bits = with_bit own.ready queue in
      (refl, posts_one (book_changes B own.up bits own.offered) is B (Pad links_pad bits) (flying_of plan B (pad_write links_pad bits)) spare.b refl tt tt tt)

  pub ready_follows : (side : Side) (queue : ℕ) → Follows devs plan k site (Ready k side queue) (ready_step site.pair side queue) (move_of devs state (Ready k side queue))
  ready_follows A queue = ready_at A queue (is_up site.pair.link.state) site.pair.sides.a.up (has_bit site.pair.sides.a.ready queue) refl
  ready_follows B queue = ready_at B queue (is_up site.pair.link.state) site.pair.sides.b.up (has_bit site.pair.sides.b.ready queue) refl

  -- Join

  joins : (side : Side) (queue : ℕ) → is_up site.pair.link.state ≡ true
      → SideStands devs plan k side (is_down site.pair.link.state) (has_link_forgotten site.pair.link side) (with_bit (side_of site.pair side).joined queue) (side_of site.pair side).flight (side_of site.pair side).poked (view_of site.pair side) (at_side queues side)
  joins side queue up =
      let remembers : has_link_forgotten site.pair.link side ≡ false = ap (λ down. down && at_side site.pair.link.clean side) (not_down_up site.pair.link.state up) in
      record {
        none_joined = λ forgotten. absurd (true≢false (sym forgotten ∙ remembers));
        in_flight = (sides side).in_flight;
        all_queues = (sides side).all_queues;
        queues = (sides side).queues;
      }

  join_at : (side : Side) (queue : ℕ) (up is_ready done agreed : Bool) → is_up site.pair.link.state ≡ up
      → Follows devs plan k site (Join k side queue)
      (decided site.pair (refuse_if (not up) answer.LinkDown (refuse_if (not is_ready) answer.NotReady (refuse_if done answer.Already (refuse_if (not agreed) answer.NotYet None)))) answer.Joined
      (with_side_part site.pair side (record (side_of site.pair side) { joined = with_bit (side_of site.pair side).joined queue })))
      (bridge_turned state (record { answer = of_join (if not up then join.LinkDown else if not is_ready then join.NotReady else if done then join.Already else if not agreed then join.NotYet else join.Joined); bridge = after_join_answer state.bridge side queue (if not up then join.LinkDown else if not is_ready then join.NotReady else if done then join.Already else if not agreed then join.NotYet else join.Joined) }))
  join_at side queue false is_ready done agreed is = (refl, stands)
  join_at side queue true false done agreed is = (refl, stands)
  join_at side queue true true true agreed is = (refl, stands)
  join_at side queue true true false false is = (refl, stands)
  join_at A queue true true false true is = (refl, record { bridge = refl; link = link; sides = by_side _ (joins A queue is) (sides B) })
  join_at B queue true true false true is = (refl, record { bridge = refl; link = link; sides = by_side _ (sides A) (joins B queue is) })

  pub join_follows : (side : Side) (queue : ℕ) → Follows devs plan k site (Join k side queue) (join_step site.pair side queue) (move_of devs state (Join k side queue))
  join_follows A queue = join_at A queue (is_up site.pair.link.state) (has_bit site.pair.sides.a.ready queue) (has_bit site.pair.sides.a.joined queue) (has_bit (pad_in site.pair.sides.a links_pad) queue) refl
  join_follows B queue = join_at B queue (is_up site.pair.link.state) (has_bit site.pair.sides.b.ready queue) (has_bit site.pair.sides.b.joined queue) (has_bit (pad_in site.pair.sides.b links_pad) queue) refl

  -- Check

  abbrev checks_as : Side → CheckAnswer → Option Answer → Type 0
  checks_as side found refusal =
      Follows devs plan k site (Check k side) (decided site.pair refusal answer.Up (with_side_part site.pair side (record (side_of site.pair side) { up = true }))) (bridge_turned state (record { answer = of_check found; bridge = after_check_answer state.bridge side found }))

  refused_check : (side : Side) (found : CheckAnswer) → (found ≡ check.Up → ⊥) → checks_as side found (Some (of_check found))
  refused_check side check.Up other = absurd (other refl)
  refused_check side check.Already other = (refl, stands)
  refused_check side check.LinkDown other = (refl, stands)
  refused_check side check.NotYet other = (refl, stands)
  refused_check side (check.Version seen own) other = (refl, stands)
  refused_check side (check.Queues seen own) other = (refl, stands)
  refused_check side (check.Windows seen own) other = (refl, stands)
  refused_check side (check.Size seen cap) other = (refl, stands)

  -- the bridge with other bytes in a side's memory
  abbrev came_up_with : Side → List ℕ → Bridge
  came_up_with side bytes = with_book (with_memory (bridge_for plan site) side (record { bytes = bytes; promised = [] })) side (record (book_for (side_of site.pair side)) { up = true })

  came_up : (side : Side) → IsPair plan → (side_plan plan (other_side side)).size ≤ (side_plan plan side).cap
      → came_up_with side (bytes_after (fresh_index_words plan side ++ zeroed_headers plan side) (bytes_in (at_side site.stores side) 0 (memory_size plan side))) ≡ came_up_with side (bytes_in ((fresh_index_words plan side ++ zeroed_headers plan side) ++ at_side site.stores side) 0 (memory_size plan side))
  came_up side declared fits = ap (came_up_with side) (all_stored (fresh_index_words plan side ++ zeroed_headers plan side) (at_side site.stores side) (memory_size plan side) (rings_inside plan side declared fits))

  checked_up : (side : Side) → IsPair plan → (side_plan plan (other_side side)).size ≤ (side_plan plan side).cap → checks_as side check.Up None
  checked_up A declared fits = (refl, record { bridge = came_up A declared fits; link = link; sides = by_side _ (sides A) (sides B) })
  checked_up B declared fits = (refl, record { bridge = came_up B declared fits; link = link; sides = by_side _ (sides A) (sides B) })

  check_as : (side : Side) (found : CheckAnswer) (refusal : Option Answer) → IsPair plan → (refusal ≡ None → (side_plan plan (other_side side)).size ≤ (side_plan plan side).cap) → ChecksAs found refusal → checks_as side found refusal
  check_as side found refusal declared fits (inl both) =
      subst (λ (found : CheckAnswer). checks_as side found refusal) (sym both.0) (subst (checks_as side check.Up) (sym both.1) (checked_up side declared (fits both.1)))
  check_as side found refusal declared fits (inr both) = subst (checks_as side found) (sym both.0) (refused_check side found both.1)

  pub check_follows : (side : Side) → IsPair plan → (check_refusal (side_plan plan side) (side_of site.pair side) (link_up site.pair) ≡ None → (side_plan plan (other_side side)).size ≤ (side_plan plan side).cap)
      → Follows devs plan k site (Check k side) (check_step plan site.pair side) (move_of devs state (Check k side))
  check_follows A declared fits =
      let own = plan.a in
      let part = site.pair.sides.a in
      check_as A (check_answer state.bridge A) (check_refusal own part (link_up site.pair)) declared fits
      (same_check (not (is_up site.pair.link.state)) part.up (pad_in part version_pad == 0) (versions_differ (pad_in part version_pad) own.version)
      (not (pad_in part queues_pad == own.queues)) (not (pad_in part windows_pad == own.windows)) (first_larger own part.pads) own part
      (pad_in part version_pad) own.version (pad_in part queues_pad) own.queues (pad_in part windows_pad) own.windows)
  check_follows B declared fits =
      let own = plan.b in
      let part = site.pair.sides.b in
      check_as B (check_answer state.bridge B) (check_refusal own part (link_up site.pair)) declared fits
      (same_check (not (is_up site.pair.link.state)) part.up (pad_in part version_pad == 0) (versions_differ (pad_in part version_pad) own.version)
      (not (pad_in part queues_pad == own.queues)) (not (pad_in part windows_pad == own.windows)) (first_larger own part.pads) own part
      (pad_in part version_pad) own.version (pad_in part queues_pad) own.queues (pad_in part windows_pad) own.windows)
