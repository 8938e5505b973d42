-- What a look answers, by the flags in the slot of the receiver's next entry.
use Rattle.std.proofs.Common.{◌≡◌, ◌<◌, false, eqb, length, refl, ap, ◌∙◌, inl, inr, arith}
use Rattle.std.proofs.lemmas.Bool.{cases_lt, cond-false, cond-true, eq-eqb, ne_eqb}
use Rattle.lane_model.specs.Lane.{Carries, Entry, GoesDown, Lane, bytes_of, entry_of, flags_of, lane_slot_of}
use Rattle.lane_model.specs.Law.{HoldsRingLaw}
use Rattle.lane_model.specs.declared.Phase.{Phase}
use Rattle.lane_model.specs.declared.Phase.TheVariants.{Idle, Copying, Copied, Cleared}
use Rattle.lane_laws.proofs.Facade.{look_sees}
use Rattle.lane_core.specs.Calls.{is_idle, core_look_answer, core_look_at}
use Rattle.lane_core.specs.declared.answers.LaneLook.TheVariants.{Ready, Empty, PeerDown, OutOfTurn}
use Rattle.lane_core.proofs.NextEntry.{finds_entry}

-- a receiver that is not idle is not asked
pub answers_out_of_turn : (lane : Lane) → (lane.phase ≡ Idle → ⊥) → core_look_answer lane ≡ OutOfTurn
answers_out_of_turn lane other = cond-false (is_idle lane.phase) _ _ (not_idle lane.phase other)
  where
    not_idle : (phase : Phase) → (phase ≡ Idle → ⊥) → is_idle phase ≡ false
    not_idle Idle h = absurd (h refl)
    not_idle Copying h = refl
    not_idle Copied h = refl
    not_idle Cleared h = refl

-- an idle one finds what stands there
answers_found : (lane : Lane) → lane.phase ≡ Idle → lane.got < lane.flagged → core_look_answer lane ≡ core_look_at lane.got (entry_of lane lane.got)
answers_found lane idle more =
    cond-true (is_idle lane.phase) _ _ (ap is_idle idle)
    ∙ cond-false (eqb lane.flagged lane.got) _ _ (ne_eqb lane.flagged lane.got (λ e. omega arith))

-- no entry's flags stand there
pub answers_empty : (lane : Lane) → lane.phase ≡ Idle → ((lane_slot_of lane lane.got).flags ≡ 1 → ⊥) → ((lane_slot_of lane lane.got).flags ≡ 3 → ⊥) → HoldsRingLaw lane → core_look_answer lane ≡ Empty
answers_empty lane idle no_frame no_end law =
    let sees = look_sees lane idle law in
    elim (cases_lt lane.got lane.flagged) [
      | inl more ↦
          let flags = (sees.an_entry more).flags in
          absurd (no_flags (entry_of lane lane.got) (λ e. no_frame (flags ∙ e)) (λ e. no_end (flags ∙ e)))
      | inr none ↦
          cond-true (is_idle lane.phase) _ _ (ap is_idle idle)
          ∙ cond-true (eqb lane.flagged lane.got) _ _ (eq-eqb lane.flagged lane.got (omega (arith, sees.one_of_both)))
    ]
  where
    no_flags : (entry : Entry) → (flags_of entry ≡ 1 → ⊥) → (flags_of entry ≡ 3 → ⊥) → ⊥
    no_flags (Carries bytes left) h g = h refl
    no_flags GoesDown h g = g refl

-- flags stand there, and not those of a frame
pub answers_down : (lane : Lane) → lane.phase ≡ Idle → ((lane_slot_of lane lane.got).flags ≡ 0 → ⊥) → ((lane_slot_of lane lane.got).flags ≡ 1 → ⊥) → HoldsRingLaw lane → core_look_answer lane ≡ PeerDown
answers_down lane idle some no_frame law =
    let more = (finds_entry lane idle some law).more in
    let flags = ((look_sees lane idle law).an_entry more).flags in
    answers_found lane idle more ∙ is_down (entry_of lane lane.got) (λ e. no_frame (flags ∙ e))
  where
    is_down : (entry : Entry) → (flags_of entry ≡ 1 → ⊥) → core_look_at lane.got entry ≡ PeerDown
    is_down (Carries bytes left) h = absurd (h refl)
    is_down GoesDown h = refl

-- flags stand there, and not those of a link-down entry
pub answers_ready : (lane : Lane) → lane.phase ≡ Idle → ((lane_slot_of lane lane.got).flags ≡ 0 → ⊥) → ((lane_slot_of lane lane.got).flags ≡ 3 → ⊥) → HoldsRingLaw lane
    → core_look_answer lane ≡ Ready lane.got (length (bytes_of (entry_of lane lane.got)))
answers_ready lane idle some no_end law =
    let more = (finds_entry lane idle some law).more in
    let flags = ((look_sees lane idle law).an_entry more).flags in
    answers_found lane idle more ∙ is_frame (entry_of lane lane.got) (λ e. no_end (flags ∙ e))
  where
    is_frame : (entry : Entry) → (flags_of entry ≡ 3 → ⊥) → core_look_at lane.got entry ≡ Ready lane.got (length (bytes_of entry))
    is_frame (Carries bytes left) h = refl
    is_frame GoesDown h = absurd (h refl)
