-- A slot that is out is with the seat whose part says so, and the other way round.
use Rattle.std.proofs.Common.{◌≡◌, ℕ, ◌+◌, ◌<◌, ◌≤◌, ◌⊎◌, Bool, true, false, length, refl, sym, subst, ap, ◌∙◌, inl, inr, arith, nat_lt, Option}
use Rattle.std.proofs.lemmas.Bool.{lt-ltb, le-ltb, cases_lt, false≢true}
use mathlib.Core.Option.{some, none}
use mathlib.Core.Option as home
use Rattle.table_lane.specs.LaneNames.{Lane, Phase, PhaseCounts, Idle, Copying, Copied, Cleared, is_copying, is_copied}
use Rattle.table_lane.specs.Views.{TableBytes}
use Rattle.table_lane.specs.Borders.{Borders, slot_at}
use Rattle.table_lane.specs.ShownLane.{hand_in, claimed_by}
use Rattle.table_lane.specs.Moment.{Moment}
use Rattle.table_lane.specs.Seated.{SlotsOutAreWithSeats, SeatsHaveSlotsOut}
use Rattle.table_lane.proofs.Slots.{slot_is}
use Rattle.table_lane.proofs.Order.{in_order}
use Rattle.table_lane.proofs.SenderShows.{borders_in}

-- whether a slot is out
abbrev is_out : home.Option (home.Option (Option TableBytes)) → Bool
is_out none = false
is_out (some none) = true
is_out (some (some content)) = false

-- the receiver's entries, by phase
looked_at : (phase : Phase) (acked cleared got flagged n hand : ℕ) → hand ≡ hand_in phase → PhaseCounts phase acked cleared got flagged → cleared ≤ n → n < got + hand
    → ((is_copying phase ≡ true) × (n ≡ got)) ⊎ ((is_copied phase ≡ true) × (n + 1 ≡ got))
looked_at Idle acked cleared got flagged n hand is counts low high = let a = counts.1 in absurd (omega arith)
looked_at Copying acked cleared got flagged n hand is counts low high = let a = counts.1 in inl (refl, omega arith)
looked_at Copied acked cleared got flagged n hand is counts low high = let a = counts.1 in inr (refl, omega arith)
looked_at Cleared acked cleared got flagged n hand is counts low high = let a = counts.1 in absurd (omega arith)

to_look_at : (phase : Phase) (acked cleared got flagged n hand : ℕ) → hand ≡ hand_in phase → PhaseCounts phase acked cleared got flagged
    → ((is_copying phase ≡ true) × (n ≡ got)) ⊎ ((is_copied phase ≡ true) × (n + 1 ≡ got)) → (cleared ≤ n) × (n < got + hand)
to_look_at Idle acked cleared got flagged n hand is counts (inl at) = absurd (false≢true at.0)
to_look_at Idle acked cleared got flagged n hand is counts (inr at) = absurd (false≢true at.0)
to_look_at Copying acked cleared got flagged n hand is counts (inl at) = let a = counts.1 in let b = at.1 in (omega arith, omega arith)
to_look_at Copying acked cleared got flagged n hand is counts (inr at) = absurd (false≢true at.0)
to_look_at Copied acked cleared got flagged n hand is counts (inl at) = absurd (false≢true at.0)
to_look_at Copied acked cleared got flagged n hand is counts (inr at) = let a = counts.1 in let b = at.1 in (omega arith, omega arith)
to_look_at Cleared acked cleared got flagged n hand is counts (inl at) = absurd (false≢true at.0)
to_look_at Cleared acked cleared got flagged n hand is counts (inr at) = absurd (false≢true at.0)

-- the sender's entry
claimed_at : (claims : Bool) (n sent : ℕ) → sent ≤ n → n < claimed_by sent claims → (claims ≡ true) × (n ≡ sent)
claimed_at true n sent low high = (refl, omega arith)
claimed_at false n sent low high = absurd (omega arith)

to_claim : (claims : Bool) (n sent : ℕ) → (claims ≡ true) × (n ≡ sent) → n < claimed_by sent claims
to_claim true n sent at = let a = at.1 in omega arith
to_claim false n sent at = absurd (false≢true at.0)

phase_counts : (N : ℕ) (m : Moment) (lane : Lane) → lane ≡ m.lane → lane.phase ≡ m.recv.phase → PhaseCounts lane.phase lane.acked lane.cleared lane.got lane.flagged → PhaseCounts m.recv.phase m.lane.acked m.lane.cleared m.lane.got m.lane.flagged
phase_counts N m lane is stage counts = subst (λ (l : Lane). PhaseCounts m.recv.phase l.acked l.cleared l.got l.flagged) is (subst (λ p. PhaseCounts p lane.acked lane.cleared lane.got lane.flagged) stage counts)

-- A slot that is out is with the sender, the mover or the receiver, whose part says so.
pub slots_out_are_with_seats : SlotsOutAreWithSeats
slots_out_are_with_seats N m slots h n from to is =
    let o = in_order N m slots h in
    let k : Borders = borders_in m in
    let freed = h.parts.given_back in
    let got = h.parts.copied in
    let counts = phase_counts N m m.lane refl h.parts.stage h.law.2.receiver.phase_counts in
    let stands = h.places.at n (omega arith) (omega arith) in
    let seen : is_out (some (slot_at k m.send.sent n)) ≡ true = ap is_out (sym stands ∙ is) in
    elim (cases_lt n k.cleared) [
      | inl a ↦ absurd (false≢true (sym (ap (λ w. is_out (some w)) (slot_is k m.send.sent n (lt-ltb n k.cleared a) refl refl refl refl refl)) ∙ seen))
      | inr a ↦
          let f0 : nat_lt n k.cleared ≡ false = le-ltb n k.cleared a in
          elim (cases_lt n k.looked) [
            | inl b ↦ inr (inr (looked_at m.recv.phase m.lane.acked m.lane.cleared (length m.recv.got) m.lane.flagged n (length m.recv.hand) h.receiving.in_hand (subst (λ (g : ℕ). PhaseCounts m.recv.phase m.lane.acked m.lane.cleared g m.lane.flagged) got counts) a b))
            | inr b ↦
                let f1 : nat_lt n k.looked ≡ false = le-ltb n k.looked b in
                elim (cases_lt n k.flagged) [
                  | inl c ↦ absurd (false≢true (sym (ap (λ w. is_out (some w)) (slot_is k m.send.sent n f0 f1 (lt-ltb n k.flagged c) refl refl refl)) ∙ seen))
                  | inr c ↦
                      let f2 : nat_lt n k.flagged ≡ false = le-ltb n k.flagged c in
                      elim (cases_lt n k.taken) [
                        | inl d ↦ inr (inl (c, d))
                        | inr d ↦
                            let f3 : nat_lt n k.taken ≡ false = le-ltb n k.taken d in
                            elim (cases_lt n k.sent) [
                              | inl e ↦ absurd (false≢true (sym (ap (λ w. is_out (some w)) (slot_is k m.send.sent n f0 f1 f2 f3 (lt-ltb n k.sent e) refl)) ∙ seen))
                              | inr e ↦
                                  let f4 : nat_lt n k.sent ≡ false = le-ltb n k.sent e in
                                  elim (cases_lt n k.claimed) [
                                    | inl f ↦ inl (claimed_at m.send.claims n (length m.send.sent) e f)
                                    | inr f ↦ absurd (false≢true (sym (ap (λ w. is_out (some w)) (slot_is k m.send.sent n f0 f1 f2 f3 f4 (le-ltb n k.claimed f))) ∙ seen))
                                  ]
                            ]
                      ]
                ]
          ]
    ]

-- A slot that is with the sender, the mover or the receiver, as its part says, is out.
pub seats_have_slots_out : SeatsHaveSlotsOut
seats_have_slots_out N m slots h n has =
    let o = in_order N m slots h in
    let k : Borders = borders_in m in
    let got = h.parts.copied in
    let counts = subst (λ (g : ℕ). PhaseCounts m.recv.phase m.lane.acked m.lane.cleared g m.lane.flagged) got (phase_counts N m m.lane refl h.parts.stage h.law.2.receiver.phase_counts) in
    elim has [
      | inl sender ↦
          let at = sender.1 in
          let past = to_claim m.send.claims n (length m.send.sent) sender in
          h.places.at n (omega (arith, o.freed, o.acked, o.cleared, o.looked, o.taken)) (omega (arith, o.claimed))
          ∙ ap some (slot_is k m.send.sent n (le-ltb n k.cleared (omega (arith, o.cleared, o.looked, o.taken))) (le-ltb n k.looked (omega (arith, o.looked, o.taken))) (le-ltb n k.flagged (omega (arith, o.taken))) (le-ltb n k.taken (omega (arith, o.taken))) (le-ltb n k.sent (omega arith)) (lt-ltb n k.claimed past))
      | inr others ↦ elim others [
        | inl mover ↦
            let low = mover.0 in
            let high = mover.1 in
            h.places.at n (omega (arith, o.freed, o.acked, o.cleared, o.looked)) (omega (arith, o.taken, o.sent, o.claimed))
            ∙ ap some (slot_is k m.send.sent n (le-ltb n k.cleared (omega (arith, o.cleared, o.looked))) (le-ltb n k.looked (omega (arith, o.looked))) (le-ltb n k.flagged low) (lt-ltb n k.taken high) refl refl)
        | inr receiver ↦
            let within = to_look_at m.recv.phase m.lane.acked m.lane.cleared (length m.recv.got) m.lane.flagged n (length m.recv.hand) h.receiving.in_hand counts receiver in
            let low = within.0 in
            let high = within.1 in
            h.places.at n (omega (arith, o.freed, o.acked)) (omega (arith, o.looked, o.taken, o.sent, o.claimed))
            ∙ ap some (slot_is k m.send.sent n (le-ltb n k.cleared low) (lt-ltb n k.looked high) refl refl refl refl)
      ]
    ]
