-- The scratchpads of the handshake, as `ntb_transport` uses them. The definitions say which number stands in which,
-- what a side offers in its peer's, and what a side that is up has in its own.
use Rattle.std.specs.Prelude.{ℕ, ◌+◌, ◌-◌, ◌*◌, ◌/◌, ◌%◌, ◌^◌, ◌==◌, ◌&&◌, ◌||◌, Bool, not, nat_lt, Option, List, [], ◌∷◌, ◌++◌, find, replicate, slice_index}
use Rattle.std.specs.List.{flat_map}
use Rattle.step_kinds.specs.Bits.{all_below}
use Rattle.step_kinds.specs.declared.plan.SidePlan.{SidePlan}
use Rattle.step_kinds.specs.declared.steps.Label.{Label}
use Rattle.step_kinds.specs.declared.steps.Label.TheVariants.{Pad}
use Rattle.lane_model.specs.Lane.{count_from}

-- the numbers of the scratchpads that the handshake uses: each is after the one before, and the halves of the windows'
-- sizes are after all these
abbrev pub version_pad : ℕ
version_pad = 0

abbrev pub links_pad : ℕ
links_pad = version_pad + 1

abbrev pub queues_pad : ℕ
queues_pad = links_pad + 1

abbrev pub windows_pad : ℕ
windows_pad = queues_pad + 1

abbrev pub high_pad : ℕ → ℕ
high_pad m = 4 + (m + m)

abbrev pub low_pad : ℕ → ℕ
low_pad m = 5 + (m + m)

-- a scratchpad has 32 bits, so a window's size takes two
abbrev pub word : ℕ
word = 2 ^ 32

-- what a side offers, in this order: the size of each window in two halves, then windows, queues and version
abbrev pub offers : SidePlan → List Label
offers own =
    flat_map (λ m. Pad (high_pad m) (own.size / word) ∷ Pad (low_pad m) (own.size % word) ∷ []) (count_from 0 own.windows)
    ++ Pad windows_pad own.windows ∷ Pad queues_pad own.queues ∷ Pad version_pad own.version ∷ []

-- What a side reads of its peer's offer in its own scratchpads

-- the size of a window, which two of them say
abbrev pub size_in : List ℕ → ℕ → ℕ
size_in pads m = slice_index pads (high_pad m) * word + slice_index pads (low_pad m)

-- versions that differ agree where both are 4 at least: the older one is spoken
abbrev pub versions_differ : ℕ → ℕ → Bool
versions_differ seen own = not (seen == own) && (nat_lt seen 4 || nat_lt own 4)

-- the first window of the peer that is larger than the own memory gives
abbrev pub first_larger : SidePlan → List ℕ → Option ℕ
first_larger own pads = find (λ m. nat_lt own.cap (size_in pads m)) (count_from 0 own.windows)

abbrev pub pad_index : Label → ℕ
pad_index (Pad i value) = i
pad_index label = 0

-- the scratchpads of a side that has the peer's whole offer and the word that all its queues are ready
abbrev pub agreed_pads : SidePlan → List ℕ
agreed_pads peer =
    peer.version ∷ all_below peer.queues ∷ peer.queues ∷ peer.windows
    ∷ (flat_map (λ m. peer.size / word ∷ peer.size % word ∷ []) (count_from 0 peer.windows) ++ replicate (12 - 2 * peer.windows) 0)
