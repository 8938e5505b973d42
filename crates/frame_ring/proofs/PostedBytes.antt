-- What a ring posts finds its pages promised.
use Rattle.std.proofs.Common.{◌≡◌, ℕ, List, true, sym}
use Rattle.step_kinds.specs.Sides.{other_side}
use Rattle.step_kinds.specs.declared.names.Side.{Side}
use Rattle.step_kinds.specs.declared.plan.PairPlan.{PairPlan}
use Rattle.bridge_pair.specs.Bridge.{Bridge, pages_of}
use Rattle.bridge_pair.specs.Calls.{HasPages}
use Rattle.bridge_pair.specs.Flights.{arrival_of}
use Rattle.bridge_pair.specs.declared.write.Target.TheVariants.{ThroughWindow}
use Rattle.pair_model.specs.RingWrites.{queue_write}
use Rattle.pair_model.specs.Sizes.{layout_of}
use Rattle.ring_geometry.specs.Geometry.{window_of}
use Rattle.frame_ring.specs.PortView.{IsReadyToLand, reaches}

-- A queue's write through a window that the peer has arrives on promised pages, if it is ready to land.
pub ready_to_post : (plan seen : PairPlan) (side from : Side) (queue : ℕ) (bridge : Bridge) (window offset : ℕ) (bytes : List ℕ)
    → seen ≡ plan → from ≡ side → window ≡ window_of (layout_of plan side queue)
    → true ≡ reaches plan side (window_of (layout_of plan side queue))
    → IsReadyToLand plan side (pages_of bridge (other_side side)) (queue_write plan side queue offset bytes)
    → HasPages (pages_of bridge (other_side from)) (arrival_of seen from (ThroughWindow window offset bytes))
ready_to_post plan seen side from queue bridge window offset bytes plans sides is_window reach ready =
    rw (plans, sides, is_window) (ready (sym reach))
