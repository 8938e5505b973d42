-- The states of a link, and a pair before any step.
use Rattle.std.proofs.Common.{◌≡◌, ℕ, Bool, true, false, [], refl}
use Rattle.std.specs.Prelude.{if◌then◌else◌}
use Rattle.std.proofs.lemmas.Bool.{false≢true}
use Rattle.step_kinds.specs.declared.names.Side.{Side}
use Rattle.step_kinds.specs.declared.names.Side.TheVariants.{A, B}
use Rattle.step_kinds.specs.declared.plan.PairPlan.{PairPlan}
use Rattle.step_kinds.specs.declared.plan.SidePlan.{SidePlan}
use Rattle.pair_model.specs.Both.{at_side, both_of}
use Rattle.ledger_model.specs.Ledger.{SidePart, side_of, lane_of}
use Rattle.pair_model.specs.Link.{is_up, is_down, is_closing}
use Rattle.ledger_model.specs.LinkSteps.{fresh_lane}
use Rattle.ledger_model.specs.Next.{fresh_pair, agreed_side, idle_side}
use Rattle.pair_model.specs.declared.LinkState.{LinkState}
use Rattle.pair_model.specs.declared.LinkState.TheVariants.{Down, Up, Closing}

-- A link that is up isn't down.
pub up-not_down : (state : LinkState) → is_up state ≡ true → is_down state ≡ false
up-not_down Up e = refl
up-not_down Down e = absurd (false≢true e)
up-not_down Closing e = refl

-- A link that is down isn't up.
pub down-not_up : (state : LinkState) → is_down state ≡ true → is_up state ≡ false
down-not_up Down e = refl
down-not_up Up e = absurd (false≢true e)
down-not_up Closing e = refl

-- A link that is closing isn't up.
pub closing-not_up : (state : LinkState) → is_closing state ≡ true → is_up state ≡ false
closing-not_up Down e = refl
closing-not_up Up e = absurd (false≢true e)
closing-not_up Closing e = refl

-- a lane before any step
pub fresh-lane : (plan : PairPlan) (from : Side) (queue : ℕ) → lane_of (fresh_pair plan) from queue ≡ fresh_lane
fresh-lane plan A queue = refl
fresh-lane plan B queue = refl

-- what holds of a side that agreed with its peer, and of an idle one, holds of each side before any step
pub each_fresh_side : (plan : PairPlan) (P : SidePart → Type 0) → ((own peer : SidePlan) → P (agreed_side own peer)) → P idle_side → (s : Side) → P (side_of (fresh_pair plan) s)
each_fresh_side plan P agreed idle s = go plan.up s
  where
    go : (up : Bool) (s : Side) → P (at_side (if up then record { a = agreed_side plan.a plan.b; b = agreed_side plan.b plan.a } else both_of idle_side) s)
    go true A = agreed plan.a plan.b
    go true B = agreed plan.b plan.a
    go false A = idle
    go false B = idle

-- nothing is in flight before any step
pub fresh-flight : (plan : PairPlan) (s : Side) → (side_of (fresh_pair plan) s).flight ≡ []
fresh-flight plan = each_fresh_side plan (λ part. part.flight ≡ []) (λ own peer. refl) refl
