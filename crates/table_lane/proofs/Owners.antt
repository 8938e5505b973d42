-- Each slot is where its owner has it.
use Rattle.std.proofs.Common.{◌≡◌, ℕ, ◌+◌, ◌<◌, ◌≤◌, Bool, true, false, length, refl, sym, subst, ap, ◌∙◌, inl, inr, ◌⊎◌, arith, eqb, eq-eqb, ne_eqb, ◌&&◌, if◌then◌else◌, nat_lt}
use Rattle.std.proofs.lemmas.Bool.{lt-ltb, le-ltb, cases_eq, cases_lt}
use Rattle.std.proofs.lemmas.List.{length-map}
use mathlib.Core.Option.{some}
use Rattle.table_lane.specs.LaneNames.{entry_of_frame, Lane, Phase, PhaseCounts, Idle, Copying, Copied, Cleared, Owner, Sender, InFlight, Landed, Receiver, Returning, owner_of, is_copying, is_copied}
use Rattle.table_lane.specs.Borders.{empty, out, full}
use Rattle.table_lane.specs.ShownLane.{hand_in, claimed_by}
use Rattle.table_lane.specs.Owners.{place_by, OwnersHaveSlots}
use Rattle.table_lane.proofs.Slots.{slot_is}
use Rattle.table_lane.proofs.Order.{in_order}
use Rattle.table_lane.proofs.SenderShows.{borders_in}

-- the owner by what is known of the number
abbrev owner_by : (a b c d e : Bool) → Owner
owner_by a b c d e = if a then Sender else if b then Returning else if c then Receiver else if d then Landed else if e then InFlight else Sender

owner_is : (lane : Lane) (n : ℕ) {a b c d e : Bool} → nat_lt n lane.freed ≡ a → nat_lt n lane.acked ≡ b → nat_lt n lane.got ≡ c → nat_lt n lane.flagged ≡ d → nat_lt n (length lane.sent) ≡ e → owner_of lane n ≡ owner_by a b c d e
owner_is lane n p q r s t = λ i. owner_by (p i) (q i) (r i) (s i) (t i)

-- the receiver's slots, by phase
receivers : (phase : Phase) (lane : Lane) (n hand : ℕ) → hand ≡ hand_in phase → PhaseCounts phase lane.acked lane.cleared lane.got lane.flagged → lane.acked ≤ n → n < lane.got
    → ((is_copied phase ≡ true) × (lane.cleared ≤ n) × (n < lane.got + hand)) ⊎ ((is_copied phase ≡ false) × (n < lane.cleared))
receivers Idle lane n hand is counts low high = let a = counts.0 in let b = counts.1 in absurd (omega arith)
receivers Copying lane n hand is counts low high = let a = counts.0 in let b = counts.1 in absurd (omega arith)
receivers Copied lane n hand is counts low high = let a = counts.0 in let b = counts.1 in inl (refl, omega arith, omega arith)
receivers Cleared lane n hand is counts low high = let a = counts.0 in let b = counts.1 in inr (refl, omega arith)

-- the landed slots, by phase
landeds : (phase : Phase) (n got hand : ℕ) → hand ≡ hand_in phase → got ≤ n → ((is_copying phase && eqb n got ≡ true) × (n < got + hand)) ⊎ ((is_copying phase && eqb n got ≡ false) × (got + hand ≤ n))
landeds Idle n got hand is low = inr (refl, omega arith)
landeds Copying n got hand is low = elim (cases_eq n got) [
  | inl same ↦ inl (eq-eqb n got same, omega arith)
  | inr other ↦ inr (ne_eqb n got other, omega arith)
]
landeds Copied n got hand is low = inr (refl, omega arith)
landeds Cleared n got hand is low = inr (refl, omega arith)

-- the sender's slots
senders : (claims : Bool) (n sent : ℕ) → sent ≤ n → ((claims && eqb n sent ≡ true) × (n < claimed_by sent claims)) ⊎ ((claims && eqb n sent ≡ false) × (claimed_by sent claims ≤ n))
senders true n sent low = elim (cases_eq n sent) [
  | inl same ↦ inl (eq-eqb n sent same, omega arith)
  | inr other ↦ inr (ne_eqb n sent other, omega arith)
]
senders false n sent low = inr (refl, omega arith)

-- If a table shows a lane, each slot is at home or out as the slot's owner in that lane says.
pub owners_have_slots : OwnersHaveSlots
owners_have_slots N m slots h n from to =
    let o = in_order N m slots h in
    let k = borders_in m in
    let lane : Lane = m.lane in
    let freed = h.parts.given_back in
    let got = h.parts.copied in
    let flagged = h.parts.whole in
    let count : length lane.sent ≡ length m.send.sent = ap length h.parts.entries ∙ length-map m.send.sent entry_of_frame in
    let stands = h.places.at n (omega arith) (omega arith) in
    let counts : PhaseCounts m.recv.phase lane.acked lane.cleared lane.got lane.flagged = subst (λ p. PhaseCounts p lane.acked lane.cleared lane.got lane.flagged) h.parts.stage h.law.2.receiver.phase_counts in
    let f0 : nat_lt n lane.freed ≡ false = le-ltb n lane.freed from in
    stands ∙ ap some (elim (cases_lt n lane.acked) [
      | inl back ↦
          slot_is k m.send.sent n (lt-ltb n k.cleared (omega (arith, o.acked))) refl refl refl refl refl
          ∙ ap (λ w. place_by w m n) (sym (owner_is lane n f0 (lt-ltb n lane.acked back) refl refl refl))
      | inr past_acked ↦
          let f1 : nat_lt n lane.acked ≡ false = le-ltb n lane.acked past_acked in
          elim (cases_lt n lane.got) [
            | inl received ↦
                let owner = sym (owner_is lane n f0 f1 (lt-ltb n lane.got received) refl refl) in
                elim (receivers m.recv.phase lane n (length m.recv.hand) h.receiving.in_hand counts past_acked received) [
                  | inl with_it ↦
                      slot_is k m.send.sent n (le-ltb n k.cleared with_it.1) (lt-ltb n k.looked (omega (arith, with_it.2))) refl refl refl refl
                      ∙ ap (λ b. if b then out else empty) (sym with_it.0) ∙ ap (λ w. place_by w m n) owner
                  | inr home ↦
                      slot_is k m.send.sent n (lt-ltb n k.cleared home.1) refl refl refl refl refl
                      ∙ ap (λ b. if b then out else empty) (sym home.0) ∙ ap (λ w. place_by w m n) owner
                ]
            | inr past_got ↦
                let f2 : nat_lt n lane.got ≡ false = le-ltb n lane.got past_got in
                let l0 : nat_lt n k.cleared ≡ false = le-ltb n k.cleared (omega (arith, o.cleared)) in
                elim (cases_lt n lane.flagged) [
                  | inl landed ↦
                      let owner = sym (owner_is lane n f0 f1 f2 (lt-ltb n lane.flagged landed) refl) in
                      elim (landeds m.recv.phase n (length m.recv.got) (length m.recv.hand) h.receiving.in_hand (omega arith)) [
                        | inl with_it ↦
                            slot_is k m.send.sent n l0 (lt-ltb n k.looked with_it.1) refl refl refl refl
                            ∙ ap (λ b. if b then out else full m.send.sent n) (sym with_it.0) ∙ ap (λ w. place_by w m n) owner
                        | inr home ↦
                            slot_is k m.send.sent n l0 (le-ltb n k.looked home.1) (lt-ltb n k.flagged (omega arith)) refl refl refl
                            ∙ ap (λ b. if b then out else full m.send.sent n) (sym home.0) ∙ ap (λ w. place_by w m n) owner
                      ]
                  | inr past_flagged ↦
                      let f3 : nat_lt n lane.flagged ≡ false = le-ltb n lane.flagged past_flagged in
                      let l1 : nat_lt n k.looked ≡ false = le-ltb n k.looked (omega (arith, o.looked)) in
                      let l2 : nat_lt n k.flagged ≡ false = le-ltb n k.flagged (omega arith) in
                      elim (cases_lt n (length lane.sent)) [
                        | inl sent ↦
                            let owner = sym (owner_is lane n f0 f1 f2 f3 (lt-ltb n (length lane.sent) sent)) in
                            slot_is k m.send.sent n l0 l1 l2 refl (lt-ltb n k.sent (omega arith)) refl ∙ ap (λ w. place_by w m n) owner
                        | inr free ↦
                            let owner = sym (owner_is lane n f0 f1 f2 f3 (le-ltb n (length lane.sent) free)) in
                            let l3 : nat_lt n k.taken ≡ false = le-ltb n k.taken (omega (arith, o.taken)) in
                            let l4 : nat_lt n k.sent ≡ false = le-ltb n k.sent (omega arith) in
                            elim (senders m.send.claims n (length m.send.sent) (omega arith)) [
                              | inl with_it ↦
                                  slot_is k m.send.sent n l0 l1 l2 l3 l4 (lt-ltb n k.claimed with_it.1) ∙ ap (λ b. if b then out else empty) (sym with_it.0) ∙ ap (λ w. place_by w m n) owner
                              | inr home ↦
                                  slot_is k m.send.sent n l0 l1 l2 l3 l4 (le-ltb n k.claimed home.1) ∙ ap (λ b. if b then out else empty) (sym home.0) ∙ ap (λ w. place_by w m n) owner
                            ]
                      ]
                ]
          ]
    ])
