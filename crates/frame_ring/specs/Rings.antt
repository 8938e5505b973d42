-- The rings of one queue of one side, and the words that are read of them.
use Rattle.std.specs.Prelude.{◌≡◌, ℕ, ◌^◌, ◌<◌}
use Rattle.step_kinds.specs.declared.names.Side.{Side}
use Rattle.step_kinds.specs.declared.plan.PairPlan.{PairPlan}
use Rattle.pair_model.specs.DeclaredPlans.{IsPair}
use Rattle.pair_model.specs.Plans.{side_plan}
use Rattle.pair_model.specs.Sizes.{layout_of, layout_to}
use Rattle.ring_geometry.specs.Geometry.{window_of}
use Rattle.pair_model.specs.Headers.{Header}
use Rattle.frame_ring.specs.declared.reading.HeaderWords.{HeaderWords}
use Rattle.frame_ring.specs.declared.rings.QueueRings.TheInside.{Inside as RingsInside}

-- each address and each offset is below it, so that two of them can be added
abbrev pub address_limit : ℕ
address_limit = 2 ^ 62

pub record QueueOf : Type 0 where
  pub plan : PairPlan
  pub side : Side
  pub queue : ℕ

abbrev pub rings_seen : RingsInside → QueueOf
rings_seen rings = record { plan = rings.plan; side = rings.side; queue = rings.queue }

pub record ArePlaced (rings : RingsInside) : Type 0 where
  pub declared : IsPair rings.plan
  pub among : rings.queue < (side_plan rings.plan rings.side).queues
  pub out : rings.out ≡ layout_of rings.plan rings.side rings.queue
  pub into : rings.into ≡ layout_to rings.plan rings.side rings.queue
  pub out_window : rings.out_window ≡ window_of (layout_of rings.plan rings.side rings.queue)
  pub into_window : rings.into_window ≡ window_of (layout_to rings.plan rings.side rings.queue)

-- what is so of the rings of every port
pub record IsPortQueue (rings : QueueOf) : Type 0 where
  pub declared : IsPair rings.plan
  pub among : rings.queue < (side_plan rings.plan rings.side).queues

-- The words of a header as they were read.
abbrev pub port_header_of : HeaderWords → Header
port_header_of words = record { left = words.left; ver = words.ver; len = words.len; flags = words.flags }
