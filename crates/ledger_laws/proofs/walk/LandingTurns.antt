-- A write that lands, as a turn of each lane: by its label, and by the end that posted it.
use Rattle.std.proofs.Common.{◌≡◌, ℕ, ◌+◌, ◌==◌, true, false, Option, Some, None, refl, sym, ap, ◌∙◌, subst, inl, inr}
use Rattle.std.specs.Prelude.{if◌then◌else◌, slice_get, map, slice_set}
use Rattle.std.proofs.lemmas.Bool.{eq-eqb, ne_eqb, cases_eq, cond-true, cond-false, cases_Bool}
use Rattle.step_kinds.specs.Bits.{with_bit}
use Rattle.step_kinds.specs.Sides.{other_side}
use Rattle.step_kinds.specs.declared.names.LaneName.{LaneName}
use Rattle.step_kinds.specs.declared.names.Side.{Side}
use Rattle.step_kinds.specs.declared.names.Side.TheVariants.{A, B}
use Rattle.step_kinds.specs.declared.plan.Plan.{Plan}
use Rattle.step_kinds.specs.declared.steps.Answer.TheVariants.{Landed}
use Rattle.step_kinds.specs.declared.steps.Label.{Label}
use Rattle.step_kinds.specs.declared.steps.Label.TheVariants.{Chunk, Len, Ver, Flag, Down, Bell, Index, Pad, Raw}
use Rattle.step_kinds.specs.declared.steps.Step.TheVariants.{Land}
use Rattle.lane_model.specs.declared.Field.{Field}
use Rattle.lane_model.specs.declared.Write.{Write}
use Rattle.lane_model.specs.declared.Write.TheVariants.{Data, Flag as EntryFlag}
use Rattle.lane_model.specs.declared.Field.TheVariants.{Chunk as PayloadChunk, Length, Version}
use Rattle.ledger_model.specs.Labels.{write_of}
use Rattle.ledger_model.specs.Ledger.{LanePart, PairPart, side_of, lane_of, with_lane}
use Rattle.ledger_model.specs.Receiving.{taken_out}
use Rattle.ledger_model.specs.Rings.{with_write, with_index}
use Rattle.pair_model.specs.Plans.{pair_plan}
use Rattle.order_rules.specs.Order.{may_land}
use Rattle.pair_model.specs.Orders.{order_of}
use Rattle.ledger_laws.specs.LaneChanges.{Unchanged, WriteLands, IndexLands, change_by_write, change_by_index}
use Rattle.ledger_laws.proofs.walk.Cases.{landed}
use Rattle.ledger_laws.proofs.walk.Sight.{Sight, Role, Sender, Receiver, peer_of, end_at, with_pads, side_at, by_role, sight, OtherQueue, OtherWay, other_other, is_off, sight-side, sight-lane, sight-off, with_number, PendingBells}
use Rattle.ledger_laws.proofs.walk.Turn.{MayLand, IsForeign, is_handshake, taken, Turned, turned, LandsFlag, LandsField, LandsIndex, LandsBell, LandsPad, LandsAside}
use Rattle.ledger_laws.proofs.walk.News.{no_news, Tells, change_heard, pads_landed, ring_landed, ring_freed}
use Rattle.ledger_laws.proofs.walk.Tells.{gives_landed, pads_heard, bell_in_ring, pad_in_ring, foreign_in_ring, pad_no_change, foreign_no_change, tells_land}
use Rattle.ledger_laws.proofs.walk.TurnAt.{TurnAt, shown_as}

module _ (plan : Plan) (lane : LaneName) (pair : PairPart) where
  abbrev Now : Sight
  Now = sight lane.from lane.queue pair

  abbrev MayLandAt : Role → ℕ → Label → Type 0
  MayLandAt e place label = MayLand (pair_plan plan lane.pair) (side_at lane.from e) Now e place label

  -- what tells nothing but of the ring
  abbrev IsQuiet : Role → Label → Type 0
  IsQuiet e label = (gives_landed lane.queue label e ≡ false) × ((f : Role) (i : ℕ) (now : Option ℕ) → pads_heard e label f i now ≡ now)

  module _ (p place : ℕ) (same : p ≡ lane.pair) where
    abbrev Lands : Role → Label → Type 0
    Lands e label = TurnAt plan lane pair (Land p (side_at lane.from e) place) (record { answer = Landed label; after = landed pair (side_at lane.from e) place label })

    -- what is in sight without the write that lands
    taken_out-sight : (label : Label) (e : Role) → sight lane.from lane.queue (taken_out pair (side_at lane.from e) place label) ≡ taken e place Now
    taken_out-sight label Sender = sight-side lane.from lane.queue pair Sender _
    taken_out-sight label Receiver = sight-side lane.from lane.queue pair Receiver _

    lands : (e : Role) (label : Label) (after : Sight) → sight lane.from lane.queue (landed pair (side_at lane.from e) place label) ≡ after
        → Turned plan lane Now (record { step = Land p (side_at lane.from e) place; answer = Landed label }) after → Lands e label
    lands e label after is turn = shown_as plan lane pair (Land p (side_at lane.from e) place) (Landed label) (landed pair (side_at lane.from e) place label) after is turn

    lands_aside : (e : Role) (label : Label) → MayLandAt e place label → IsQuiet e label → IsForeign lane.queue e label → is_handshake label ≡ false
        → sight lane.from lane.queue (landed pair (side_at lane.from e) place label) ≡ sight lane.from lane.queue (taken_out pair (side_at lane.from e) place label) → Lands e label
    lands_aside e label may quiet foreign no_pad is =
        lands e label (taken e place Now) (is ∙ taken_out-sight label e)
        (turned (LandsAside e place label (record { land = may; foreign = foreign; no_handshake = no_pad }))
        (tells_land plan lane Now.lane p same e place label false (λ f i now. now) (λ sizes ring. ring) Unchanged quiet.0 quiet.1 (λ sizes ring. foreign_in_ring lane.queue e label Now.lane sizes ring foreign)
        (foreign_no_change lane.queue e label foreign)))

    -- a write of the lane
    written : (label : Label) (write : Write) → IsQuiet Sender label → write_of lane.queue label ≡ Some write
        → Tells plan lane Now.lane (record { step = Land p lane.from place; answer = Landed label }) (record no_news { ring = ring_landed Now.lane write; change = WriteLands write })
    written label write quiet is =
        tells_land plan lane Now.lane p same Sender place label false (λ f i now. now) (ring_landed Now.lane write) (WriteLands write) quiet.0 quiet.1
        (λ sizes ring. ap (λ w. record { ring = with_write sizes.entries Now.lane ring.ring w; index_word = ring.index_word }) is) (ap change_by_write is)

    lands_field : (label : Label) (n : ℕ) (field : Field) → MayLandAt Sender place label → IsQuiet Sender label → write_of lane.queue label ≡ Some (Data n field)
        → sight lane.from lane.queue (landed pair lane.from place label) ≡ sight lane.from lane.queue (taken_out pair lane.from place label) → Lands Sender label
    lands_field label n field may quiet is same_sight =
        lands Sender label (taken Sender place Now) (same_sight ∙ taken_out-sight label Sender) (turned (LandsField place label n field (record { land = may; is = is })) (written label (Data n field) quiet is))

    abbrev flagged : Label → ℕ → PairPart
    flagged label k =
        let before = taken_out pair lane.from place label in
        with_lane before lane.from k (record (lane_of before lane.from k) { flagged = (lane_of before lane.from k).flagged + 1 })

    -- flags of this lane, or of another one of the same sender
    lands_flag : (label : Label) (k n : ℕ) → MayLandAt Sender place label → IsQuiet Sender label → write_of lane.queue label ≡ (if k == lane.queue then Some (EntryFlag n) else None)
        → is_handshake label ≡ false → landed pair lane.from place label ≡ flagged label k → Lands Sender label
    lands_flag label k n may quiet is no_pad after = elim (cases_eq lane.queue k) [
      | inl e ↦
          lands Sender label (record (taken Sender place Now) { lane = record Now.lane { flagged = Now.lane.flagged + 1 } })
          (ap (sight lane.from lane.queue) (after ∙ ap (flagged label) (sym e)) ∙ sight-lane lane.from lane.queue (taken_out pair lane.from place label) _
          ∙ ap (λ (s : Sight). record s { lane = record Now.lane { flagged = Now.lane.flagged + 1 } }) (taken_out-sight label Sender))
          (let own = is ∙ cond-true (k == lane.queue) (Some (EntryFlag n)) None (eq-eqb k lane.queue (sym e)) in
          turned (LandsFlag place label n (record { land = may; is = own })) (written label (EntryFlag n) quiet own))
      | inr ne ↦
          lands_aside Sender label may quiet (is ∙ cond-false (k == lane.queue) _ _ (ne_eqb k lane.queue (λ e. ne (sym e)))) no_pad
          (ap (sight lane.from lane.queue) after ∙ sight-off lane.from lane.queue (taken_out pair lane.from place label) lane.from k _ (is_off lane.from lane.queue lane.from k (OtherQueue ne)))
    ]

    -- a field of this lane, or of another one of the same sender
    lands_some_field : (label : Label) (k n : ℕ) (field : Field) → MayLandAt Sender place label → IsQuiet Sender label → write_of lane.queue label ≡ (if k == lane.queue then Some (Data n field) else None)
        → is_handshake label ≡ false → sight lane.from lane.queue (landed pair lane.from place label) ≡ sight lane.from lane.queue (taken_out pair lane.from place label) → Lands Sender label
    lands_some_field label k n field may quiet is no_pad after = elim (cases_Bool (k == lane.queue)) [
      | inl own ↦ lands_field label n field may quiet (is ∙ cond-true (k == lane.queue) _ _ own) after
      | inr off ↦ lands_aside Sender label may quiet (is ∙ cond-false (k == lane.queue) _ _ off) no_pad after
    ]

    -- a doorbell and a scratchpad
    bell-sight : (f : Side) (e : Role) (k : ℕ) → sight f lane.queue (landed pair (side_at f e) place (Bell k))
        ≡ with_number PendingBells (peer_of e) (with_bit (end_at (sight f lane.queue pair) (peer_of e)).pending k) (taken e place (sight f lane.queue pair))
    bell-sight A Sender k = refl
    bell-sight A Receiver k = refl
    bell-sight B Sender k = refl
    bell-sight B Receiver k = refl

    pad-sight : (f : Side) (e : Role) (i value : ℕ) → sight f lane.queue (landed pair (side_at f e) place (Pad i value))
        ≡ with_pads (peer_of e) (slice_set (end_at (sight f lane.queue pair) (peer_of e)).pads i value) (taken e place (sight f lane.queue pair))
    pad-sight A Sender i value = refl
    pad-sight A Receiver i value = refl
    pad-sight B Sender i value = refl
    pad-sight B Receiver i value = refl

    -- an index write of this lane, or of another one of the same receiver
    abbrev freed : Side → ℕ → ℕ → PairPart
    freed s k n = let before = taken_out pair (other_side lane.from) place (Index k n) in with_lane before s k (record (lane_of before s k) { freed = n + 1 })

    lands_index : (k n : ℕ) → MayLandAt Receiver place (Index k n) → Lands Receiver (Index k n)
    lands_index k n may = elim (cases_eq lane.queue k) [
      | inl e ↦
          subst (λ q. Lands Receiver (Index q n)) e
          (lands Receiver (Index lane.queue n) (record (taken Receiver place Now) { lane = record Now.lane { freed = n + 1 } })
          (ap (λ s. sight lane.from lane.queue (freed s lane.queue n)) (other_other lane.from)
          ∙ sight-lane lane.from lane.queue (taken_out pair (other_side lane.from) place (Index lane.queue n)) _
          ∙ ap (λ (s : Sight). record s { lane = record Now.lane { freed = n + 1 } }) (taken_out-sight (Index lane.queue n) Receiver))
          (turned (LandsIndex place n (subst (λ q. MayLandAt Receiver place (Index q n)) (sym e) may)) (tells_land plan lane Now.lane p same Receiver place (Index lane.queue n) true (λ f i now. now) (ring_freed n) (IndexLands n) (eq-eqb lane.queue lane.queue refl) (λ f i now. refl)
          (λ sizes ring. ap (λ found. record { ring = ring.ring; index_word = with_index sizes.entries ring.index_word found }) (cond-true (lane.queue == lane.queue) (Some n) None (eq-eqb lane.queue lane.queue refl)))
          (ap change_by_index (cond-true (lane.queue == lane.queue) (Some n) None (eq-eqb lane.queue lane.queue refl))))))
      | inr ne ↦
          lands_aside Receiver (Index k n) may (ne_eqb k lane.queue (λ e. ne (sym e)), λ f i now. refl) (cond-false (k == lane.queue) _ _ (ne_eqb k lane.queue (λ e. ne (sym e)))) refl
          (ap (λ s. sight lane.from lane.queue (freed s k n)) (other_other lane.from)
          ∙ sight-off lane.from lane.queue (taken_out pair (other_side lane.from) place (Index k n)) lane.from k _ (is_off lane.from lane.queue lane.from k (OtherQueue ne)))
    ]

    -- what another lane's part is to this lane
    across : (before : PairPart) (k : ℕ) (part : LanePart) → sight lane.from lane.queue (with_lane before (other_side lane.from) k part) ≡ sight lane.from lane.queue before
    across before k part = sight-off lane.from lane.queue before (other_side lane.from) k part (is_off lane.from lane.queue (other_side lane.from) k OtherWay)

    land_role : (e : Role) (label : Label) → MayLandAt e place label → Lands e label
    land_role Sender (Chunk k n part) may = lands_some_field (Chunk k n part) k n (PayloadChunk part) may (refl, λ f i now. refl) refl refl refl
    land_role Sender (Len k n) may = lands_some_field (Len k n) k n Length may (refl, λ f i now. refl) refl refl refl
    land_role Sender (Ver k n) may = lands_some_field (Ver k n) k n Version may (refl, λ f i now. refl) refl refl refl
    land_role Sender (Flag k n) may = lands_flag (Flag k n) k n may (refl, λ f i now. refl) refl refl refl
    land_role Sender (Down k n) may = lands_flag (Down k n) k n may (refl, λ f i now. refl) refl refl refl
    land_role e (Bell k) may =
        lands e (Bell k) _ (bell-sight lane.from e k)
        (turned (LandsBell e place k may) (tells_land plan lane Now.lane p same e place (Bell k) false (λ f i now. now) (λ sizes ring. ring) (change_heard lane.queue e (Bell k)) refl (λ f i now. refl)
        (bell_in_ring lane.queue k e Now.lane) refl))
    land_role e (Pad i value) may =
        lands e (Pad i value) _ (pad-sight lane.from e i value)
        (turned (LandsPad e place i value may) (tells_land plan lane Now.lane p same e place (Pad i value) false (pads_landed e i value) (λ sizes ring. ring) Unchanged refl (λ f j now. refl)
        (pad_in_ring lane.queue i value e Now.lane) (pad_no_change lane.queue i value e)))
    land_role Sender (Index k n) may = lands_aside Sender (Index k n) may (refl, λ f i now. refl) refl refl (across (taken_out pair lane.from place (Index k n)) k _)
    land_role Sender (Raw window offset len) may = lands_aside Sender (Raw window offset len) may (refl, λ f i now. refl) refl refl refl
    land_role Receiver (Index k n) may = lands_index k n may
    land_role Receiver (Flag k n) may = lands_aside Receiver (Flag k n) may (refl, λ f i now. refl) refl refl (across (taken_out pair (other_side lane.from) place (Flag k n)) k _)
    land_role Receiver (Down k n) may = lands_aside Receiver (Down k n) may (refl, λ f i now. refl) refl refl (across (taken_out pair (other_side lane.from) place (Down k n)) k _)
    land_role Receiver (Chunk k n part) may = lands_aside Receiver (Chunk k n part) may (refl, λ f i now. refl) refl refl refl
    land_role Receiver (Len k n) may = lands_aside Receiver (Len k n) may (refl, λ f i now. refl) refl refl refl
    land_role Receiver (Ver k n) may = lands_aside Receiver (Ver k n) may (refl, λ f i now. refl) refl refl refl
    land_role Receiver (Raw window offset len) may = lands_aside Receiver (Raw window offset len) may (refl, λ f i now. refl) refl refl refl

    pub land : (side : Side) (label : Label) → slice_get (side_of pair side).flight place ≡ Some label → may_land (map (order_of (pair_plan plan lane.pair) side) (side_of pair side).flight) place ≡ true
        → TurnAt plan lane pair (Land p side place) (record { answer = Landed label; after = landed pair side place label })
    land side label at may =
        by_role lane.from
        (λ s. slice_get (side_of pair s).flight place ≡ Some label → may_land (map (order_of (pair_plan plan lane.pair) s) (side_of pair s).flight) place ≡ true
        → TurnAt plan lane pair (Land p s place) (record { answer = Landed label; after = landed pair s place label })) each side at may
      where
        each : (e : Role) → slice_get (side_of pair (side_at lane.from e)).flight place ≡ Some label
            → may_land (map (order_of (pair_plan plan lane.pair) (side_at lane.from e)) (side_of pair (side_at lane.from e)).flight) place ≡ true → Lands e label
        each Sender at may = land_role Sender label (record { there = at; may = may })
        each Receiver at may = land_role Receiver label (record { there = at; may = may })
