-- A port, as the crate keeps it.
use Rattle.std.specs.Prelude.{◌≡◌, ◌≤◌, true, false}
use Rattle.lane_model.specs.Tests.{is_copying, is_idle}
use Rattle.pair_model.specs.DeclaredPlans.{SizesFit}
use Rattle.pair_model.specs.Sizes.{layout_to, sizes_of}
use Rattle.ring_geometry.specs.Geometry.{max_payload_of}
use Rattle.frame_ring.specs.Port.{PortState, is_port_busy}
use Rattle.frame_ring.specs.declared.port.Port.TheInside.{Inside}

abbrev pub port_seen : Inside → PortState
port_seen port = record { plan = port.rings.plan; side = port.rings.side; queue = port.rings.queue; sending = port.sender.sending; receiving = port.receiver }

pub record IsPort (port : Inside) : Type 0 where
  pub queue : port.sender.queue ≡ port.rings.queue
  pub largest : port.sender.largest ≡ (sizes_of port.rings.plan port.rings.side port.rings.queue).largest
  -- the rings lie in the memories, if something is under way in them
  pub sends : is_port_busy port.sender.sending ≡ true → SizesFit port.rings.plan
  pub receives : is_idle port.receiver.phase ≡ false → SizesFit port.rings.plan
  pub fits : is_copying port.receiver.phase ≡ true → port.receiver.len ≤ max_payload_of (layout_to port.rings.plan port.rings.side port.rings.queue)
