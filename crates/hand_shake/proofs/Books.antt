-- What a side has reached, with one queue more.
use Rattle.std.proofs.Common.{◌≡◌, ℕ, ◌+◌, ◌<◌, ◌^◌, arith}
use Rattle.std.proofs.lemmas.Nat.{or_lt, pow_below}
use Rattle.pair_model.specs.Plans.{side_plan}
use Rattle.step_kinds.specs.Bits.{with_bit}
use Rattle.step_kinds.specs.declared.names.Side.{Side}
use Rattle.step_kinds.specs.declared.plan.PairPlan.{PairPlan}
use Rattle.bridge_pair.specs.Bridge.{IsBook, offer_length}
use Rattle.bridge_pair.specs.declared.book.SideBook.{SideBook}

still_below : (bits queue queues : ℕ) → bits < 2 ^ queues → queue < queues → with_bit bits queue < 2 ^ queues
still_below bits queue queues below among = or_lt queues bits (2 ^ queue) below (pow_below queue queues among)

-- A book that fits its side's plan still fits once one of the side's queues is noted as ready.
pub with_ready : (plan same : PairPlan) (side : Side) (book : SideBook) (queue bits : ℕ) → same ≡ plan → IsBook plan side book → queue < (side_plan plan side).queues → bits ≡ with_bit book.ready queue
    → IsBook same side (record book { ready = bits })
with_ready plan same side book queue bits plans fits among is = rw (plans, is) (record { ready = still_below book.ready queue (side_plan plan side).queues fits.ready among; joined = fits.joined; offered = fits.offered })

-- A book that fits its side's plan still fits once one of the side's queues is noted as joined.
pub with_joined : (plan : PairPlan) (side : Side) (book : SideBook) (queue bits : ℕ) → IsBook plan side book → queue < (side_plan plan side).queues → bits ≡ with_bit book.joined queue
    → IsBook plan side (record book { joined = bits })
with_joined plan side book queue bits fits among is = rw is (record { ready = fits.ready; joined = still_below book.joined queue (side_plan plan side).queues fits.joined among; offered = fits.offered })

-- A book that fits its side's plan still fits with one scratchpad more offered, if some of the offer was left.
pub with_offered : (plan same : PairPlan) (side : Side) (book : SideBook) → same ≡ plan → IsBook plan side book → book.offered < offer_length plan side
    → IsBook same side (record book { offered = book.offered + 1 })
with_offered plan same side book plans fits left = rw plans (record { ready = fits.ready; joined = fits.joined; offered = omega (arith, left) })
