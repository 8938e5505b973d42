-- Macros: lists of steps that a script writes as one line. Each of their steps is made and answered, also after a
-- refusal.
use Rattle.std.specs.Prelude.{ℕ, ◌+◌, ◌-◌, ◌*◌, ◌==◌, min, List, [], ◌∷◌, ◌++◌, length, map, sum, replicate, if◌then◌else◌}
use Rattle.step_kinds.specs.declared.names.Side.{Side}
use Rattle.step_kinds.specs.declared.plan.PairPlan.{PairPlan}
use Rattle.step_kinds.specs.declared.steps.Step.{Step}
use Rattle.step_kinds.specs.declared.steps.Step.TheVariants.{Offer, Begin, Xbegin, Post, Land, Look, Copy, Clear, Ack}
use Rattle.lane_model.specs.Lane.{chunks_in, count_from}
use Rattle.pair_model.specs.Ethernet.{ethernet_header}
use Rattle.pair_model.specs.Sizes.{agreed_version, sizes_of, pieces_in}

-- As many posts as a frame of this many bytes has writes: for each of its entries the chunks, length, version, flags
-- and doorbell. On version 4 a frame is one entry, also where it is too long.
abbrev pub posts_in : PairPlan → Side → ℕ → ℕ → ℕ
posts_in plan side queue len =
    let largest = (sizes_of plan side queue).largest in
    if agreed_version plan == 5
    then sum (map (λ k. chunks_in (min largest (len - largest * k)) + 4) (count_from 0 (pieces_in largest len)))
    else chunks_in len + 4

-- a frame is begun and all its writes are posted
abbrev pub send : PairPlan → ℕ → Side → ℕ → List ℕ → List Step
send plan pair side queue frame = Begin pair side queue frame ∷ replicate (posts_in plan side queue (length frame)) (Post pair side queue)

-- the same by a device
abbrev pub xmit : PairPlan → ℕ → Side → ℕ → ℕ → List ℕ → ℕ → List ℕ → List Step
xmit plan pair side queue dev dst kind payload =
    Xbegin pair side queue dev dst kind payload ∷ replicate (posts_in plan side queue (length payload + ethernet_header)) (Post pair side queue)

-- the first write in flight lands, this many times
abbrev pub land_all : ℕ → Side → ℕ → List Step
land_all pair side count = replicate count (Land pair side 0)

-- an entry is looked for, copied in this many parts, cleared and given back
abbrev pub receive : ℕ → Side → ℕ → ℕ → List Step
receive pair side queue copies = Look pair side queue ∷ (replicate copies (Copy pair side queue) ++ Clear pair side queue ∷ Ack pair side queue ∷ [])

-- the whole offer of a side with this many windows
abbrev pub offer_all : ℕ → Side → ℕ → List Step
offer_all pair side windows = replicate (2 * windows + 3) (Offer pair side)
