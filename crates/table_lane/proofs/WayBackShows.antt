-- The steps of the way back and of the cut: entries are given back to the sender, and later frames are refused.
use Rattle.std.proofs.Common.{◌≡◌, ℕ, ◌+◌, ◌-◌, ◌%◌, ◌<◌, ◌≤◌, List, true, refl, sym, ap, ◌∙◌, inl, inr, arith, mod-lt, ◌⊎◌}
use native.Mathlib.Nat.{add-mod_right}
use Rattle.std.proofs.lemmas.Bool.{lt-ltb, le-ltb, cases_eq, cases_lt}
use mathlib.Core.Option.{some}
use lib.ListN.{get_elem?}
use Rattle.table_lane.specs.LaneNames.{Lane, tail_of}
use Rattle.table_lane.specs.Words.{cut_word}
use Rattle.table_lane.specs.Views.{TableBytes}
use Rattle.table_lane.specs.Borders.{Borders, Slots, TableSlotsStand}
use Rattle.table_lane.specs.ShownLane.{number_at}
use Rattle.table_lane.specs.LaneNames.{LaneRuns}
use Rattle.table_lane.specs.LaneSteps.{index_steps}
use Rattle.table_lane.specs.Kinds.{LoadsIndex, StoresIndex, Cuts}
use Rattle.table_lane.proofs.LaneLaws.{number_is, number_from, tail_after}
use Rattle.table_lane.proofs.LaneRuns.{runs_keep, index_all}
use Rattle.table_lane.proofs.ClaimsAndLoads.{shows_still}
use Rattle.table_lane.proofs.Slots.{slot_is}
use Rattle.table_lane.proofs.Order.{in_order}
use Rattle.table_lane.proofs.SenderShows.{borders_in}

-- what index out says: nothing new, or the entry that was acknowledged last
shown : (N freed acked index_out : ℕ) → 2 ≤ N → freed ≤ acked → acked < freed + N → index_out ≡ tail_of N acked → (index_out ≡ tail_of N freed) ⊎ (number_at N freed index_out < acked)
shown N freed acked index_out two low high is = elim (cases_eq acked freed) [
  | inl same ↦ inl (is ∙ ap (tail_of N) same)
  | inr more ↦
      let last : ℕ = acked - 1 in
      let back : last + 1 ≡ acked = omega arith in
      let named : index_out ≡ last % N = is ∙ ap (tail_of N) (sym back) ∙ sym (tail_after N last two) in
      let number : number_at N freed index_out ≡ last = ap (number_at N freed) named ∙ number_is N freed last (omega arith) (omega arith) in
      inr (omega arith)
]

-- index out is loaded
pub loads_index : LoadsIndex
loads_index N m slots h =
    let o = in_order N m slots h in
    let small : tail_of N m.lane.acked < N = mod-lt (m.lane.acked + N - 1) (omega (arith, o.two)) in
    let out = h.index.outward in
    shows_still N m slots slots m.send.claims m.words.index_out m.words.link m.cut.cut h
    (record {
      outward = h.index.outward;
      homeward = h.index.homeward;
      position = omega arith;
      last_load = shown N m.back.freed m.lane.acked m.words.index_out o.two o.freed (omega arith) h.index.outward;
    })
    h.link h.seen_cut h.room h.places

-- the slots of entries that are given back are the sender's
gives_back : (N : ℕ) (k : Borders) (sent : List TableBytes) (slots : Slots) (freed : ℕ) → k.freed ≤ freed → freed ≤ k.cleared → k.cleared ≤ k.looked → k.looked ≤ k.flagged → k.flagged ≤ k.taken → k.taken ≤ k.sent → k.sent ≤ k.claimed
    → k.claimed < k.freed + N → TableSlotsStand N k sent slots → TableSlotsStand N (record k { freed = freed }) sent slots
gives_back N k sent slots freed a b c d e f g near stand = record {
  count = stand.count;
  at = λ n low high. elim (cases_lt n (k.freed + N)) [
    | inl before ↦ stand.at n (omega arith) before
    | inr beyond ↦
        let old : ℕ = n - N in
        let back : old + N ≡ n = omega arith in
        ap (get_elem? slots) (ap (λ (j : ℕ). j % N) (sym back) ∙ add-mod_right old N) ∙ stand.at old (omega arith) (omega arith)
        ∙ ap some (slot_is k sent old (lt-ltb old k.cleared (omega arith)) refl refl refl refl refl
        ∙ sym (slot_is k sent n (le-ltb n k.cleared (omega arith)) (le-ltb n k.looked (omega arith)) (le-ltb n k.flagged (omega arith)) (le-ltb n k.taken (omega arith)) (le-ltb n k.sent (omega arith)) (le-ltb n k.claimed (omega arith))))
  ];
}

-- the index that was loaded is stored, if it is new
pub stores_index : StoresIndex
stores_index N m slots new h =
    let o = in_order N m slots h in
    let k = borders_in m in
    let lane : Lane = m.lane in
    let n : ℕ = number_at N m.back.freed m.back.index in
    let freed = h.parts.given_back in
    let below : n < lane.acked = elim h.index.last_load [ inl old ↦ absurd (new old) | inr newer ↦ newer ] in
    let found = number_from N m.back.freed m.back.index h.index.position in
    let low : m.back.freed ≤ n = found.0 in
    let run = index_all (n + 1 - lane.freed) lane (n + 1) (omega arith) (omega arith) h.of.up h.law in
    let next : Lane = record lane { returning = run.0; freed = n + 1; index_word = run.1 } in
    let named : m.back.index ≡ tail_of N (n + 1) = sym found.2 ∙ tail_after N n o.two in
    let one_free = h.room.one_free in
    let runs : LaneRuns (index_steps lane.freed (n + 1 - lane.freed)) lane next = run.2 in (
      next,
      runs,
      record {
        law = runs_keep (index_steps lane.freed (n + 1 - lane.freed)) lane next runs h.law;
        of = record { entries = h.of.entries; largest = h.of.largest; up = h.of.up; todo = h.of.todo; small = h.of.small };
        parts = record { entries = h.parts.entries; whole = h.parts.whole; flight = h.parts.flight; copied = h.parts.copied; stage = h.parts.stage; given_back = refl };
        posted = h.posted;
        headers = h.headers;
        ring = h.ring;
        index = record { outward = h.index.outward; homeward = named; position = h.index.position; last_load = inl named };
        link = h.link;
        seen_cut = h.seen_cut;
        holding = h.holding;
        receiving = h.receiving;
        room = record { one_free = omega arith; counted = h.room.counted };
        places = gives_back N k m.send.sent slots (n + 1) (omega arith) (omega (arith, o.acked)) (omega (arith, o.cleared)) o.looked (omega arith) o.taken o.sent o.claimed h.places;
      },
    )

-- the link is cut
pub cuts : Cuts
cuts N m slots h = shows_still N m slots slots m.send.claims m.back.index cut_word true h h.index refl (λ seen. refl) h.room h.places
