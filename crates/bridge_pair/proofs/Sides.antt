-- What a change at one side leaves.
use Rattle.std.proofs.Common.{◌≡◌, ℕ, List, refl, ap, ◌∙◌}
use Rattle.step_kinds.specs.declared.names.Side.{Side}
use Rattle.step_kinds.specs.declared.names.Side.TheVariants.{A, B}
use Rattle.bridge_pair.specs.Bridge.{Bridge, bridge_bytes_of, pages_of, with_bytes, with_pages}

-- Setting a side's promised pages twice leaves the bridge as setting them once, to the second pages, does.
pub with_pages-twice : (bridge : Bridge) (side : Side) (pages more : List ℕ) → with_pages (with_pages bridge side pages) side more ≡ with_pages bridge side more
with_pages-twice bridge A pages more = refl
with_pages-twice bridge B pages more = refl

-- Setting the bytes of a side's memory leaves the promised pages of that side.
pub pages_of-with_bytes : (bridge : Bridge) (side : Side) (bytes : List ℕ) → pages_of (with_bytes bridge side bytes) side ≡ pages_of bridge side
pages_of-with_bytes bridge A bytes = refl
pages_of-with_bytes bridge B bytes = refl

-- A side's memory whose bytes are set has the bytes that were set.
pub bytes_of-with_bytes : (bridge : Bridge) (side : Side) (bytes : List ℕ) → bridge_bytes_of (with_bytes bridge side bytes) side ≡ bytes
bytes_of-with_bytes bridge A bytes = refl
bytes_of-with_bytes bridge B bytes = refl

-- Setting the bytes of a side's memory twice leaves the bridge as setting them once, to the second bytes, does.
pub with_bytes-twice : (bridge : Bridge) (side : Side) (bytes more : List ℕ) → with_bytes (with_bytes bridge side bytes) side more ≡ with_bytes bridge side more
with_bytes-twice bridge A bytes more = refl
with_bytes-twice bridge B bytes more = refl

-- Steps that change one thing again and again

-- Two changes in a row of nothing but a side's promised pages are one change of nothing but these.
pub pages_again : (old now new : Bridge) (side : Side) → now ≡ with_pages old side (pages_of now side) → new ≡ with_pages now side (pages_of new side)
    → new ≡ with_pages old side (pages_of new side)
pages_again old now new side so_far more =
    more ∙ ap (λ (bridge : Bridge). with_pages bridge side (pages_of new side)) so_far ∙ with_pages-twice old side (pages_of now side) (pages_of new side)

-- Setting a side's bytes and then making something of them is setting them at once to what is made of them.
pub bytes_again : (old now new : Bridge) (side : Side) (bytes : List ℕ) (f : List ℕ → List ℕ) → now ≡ with_bytes old side bytes → new ≡ with_bytes now side (f (bridge_bytes_of now side))
    → new ≡ with_bytes old side (f bytes)
bytes_again old now new side bytes f so_far more =
    more ∙ ap (λ (bridge : Bridge). with_bytes bridge side (f (bridge_bytes_of bridge side))) so_far
    ∙ with_bytes-twice old side bytes (f (bridge_bytes_of (with_bytes old side bytes) side))
    ∙ ap (λ stored. with_bytes old side (f stored)) (bytes_of-with_bytes old side bytes)
