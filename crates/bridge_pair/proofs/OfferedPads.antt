-- The scratchpads as they are filled, window by window.
use Rattle.std.proofs.Common.{◌≡◌, ℕ, zero, suc, ◌+◌, ◌-◌, ◌*◌, ◌/◌, ◌%◌, ◌<◌, List, [], ◌∷◌, ◌++◌, refl, replicate, slice_set, arith}
use Rattle.std.specs.List.{flat_map}
use Rattle.lane_model.specs.Lane.{count_from}
use Rattle.pair_model.specs.Pads.{word}
use Rattle.step_kinds.specs.Bits.{all_below}
use Rattle.step_kinds.specs.declared.plan.SidePlan.{SidePlan}

-- those that have the numbers and the sizes of this many windows
abbrev pub pads_to : SidePlan → ℕ → List ℕ
pads_to peer m =
    peer.version ∷ all_below peer.queues ∷ peer.queues ∷ peer.windows
    ∷ (flat_map (λ m. peer.size / word ∷ peer.size % word ∷ []) (count_from 0 m) ++ replicate (12 - 2 * m) 0)

-- Setting the two scratchpads of the next window's size makes pads of this many windows those of one window more.
pub one_more : (peer : SidePlan) (m : ℕ) → m < 4 → slice_set (slice_set (pads_to peer m) (4 + 2 * m) (peer.size / word)) (5 + 2 * m) (peer.size % word) ≡ pads_to peer (m + 1)
one_more peer zero few = refl
one_more peer (suc zero) few = refl
one_more peer (suc (suc zero)) few = refl
one_more peer (suc (suc (suc zero))) few = refl
one_more peer (suc (suc (suc (suc m)))) few = absurd (omega arith)
