-- What the switches of a cluster do: relays, frames that arrive, and frames that are sent.
use Rattle.std.specs.Prelude.{ℕ, ◌<◌, Bool, true, false, IsSome, Option, Some, None, List, length}
use Rattle.step_kinds.specs.declared.names.LaneName.{LaneName}
use Rattle.step_kinds.specs.declared.steps.Answer.{Answer}
use Rattle.pair_model.specs.DeclaredPlans.{IsFrame}
use Rattle.fabric_core.specs.FrameDue.{frame_due}
use Rattle.pair_model.specs.Switch.{list_of}
use Rattle.ledger_model.specs.Network.{Action, Rests, Sends, answer_of, arrived_at, sends_from, switches_sent}
use Rattle.ledger_model.specs.Ports.{Port, port_from, switch_of, with_switch}
use Rattle.learn_switch.specs.Frames.{bytes_after_relay, bytes_relay_answer, goes_on}
use Rattle.cluster_core.specs.Cluster.{ClusterState}
use Rattle.cluster_core.specs.Parts.{IsPortAmong, cluster_port_seen}
use Rattle.cluster_core.specs.declared.cluster.NextFrame.{NextFrame}
use Rattle.cluster_core.specs.declared.ports.PortPlace.{PortPlace}

-- the port on a side and a queue, which are named as the lane on which the side sends there
abbrev pub port_in : ClusterState → LaneName → Option Port
port_in cluster own = port_from cluster.fabric.devs own 0 cluster.plans

-- a relay from a port: its answer, and the cluster after it

abbrev pub relay_answer_in : ClusterState → Port → Answer
relay_answer_in cluster port = answer_of (bytes_relay_answer (switch_of cluster.switches port) port.place)

abbrev pub relayed_in : ClusterState → Port → ClusterState
relayed_in cluster port = record cluster { switches = with_switch cluster.switches port (bytes_after_relay (switch_of cluster.switches port) port.place) }

-- whether its frame is to wait at another port, or at all others
abbrev pub relay_goes_on : ClusterState → Port → Bool
relay_goes_on cluster port = goes_on (bytes_relay_answer (switch_of cluster.switches port) port.place)

-- a frame has arrived at a port
abbrev pub arrived_in : ClusterState → Port → List ℕ → ClusterState
arrived_in cluster port frame = record cluster { switches = arrived_at cluster.switches (Some port) frame }

-- a frame that is delivered on a side and a queue has arrived at the port there, if there are both

abbrev pub brought_in : ClusterState → LaneName → Option (List ℕ) → ClusterState
brought_in cluster own None = cluster
brought_in cluster own (Some frame) = record cluster { switches = arrived_at cluster.switches (port_in cluster own) frame }

-- there are both where the next copy there is made
abbrev pub BringsFrame : ClusterState → LaneName → Type 0
BringsFrame cluster own = IsSome (port_in cluster own) × IsSome (frame_due cluster.fabric own)

-- whether the first frame that waits at the port on a side and a queue is sent there, and which

abbrev pub sending_in : ClusterState → LaneName → Action (List ℕ)
sending_in cluster own = sends_from cluster.switches own (port_in cluster own)

abbrev pub sends_next : LaneName → Option NextFrame → Action (List ℕ)
sends_next own None = Rests
sends_next own (Some next) = Sends (cluster_port_seen next.place) own next.frame

abbrev pub does_send : Action (List ℕ) → Bool
does_send (Sends port lane frame) = true
does_send action = false

-- a frame waits at a port
abbrev pub HasWaiting : ClusterState → PortPlace → Type 0
HasWaiting cluster place = 0 < length (list_of (switch_of cluster.switches (cluster_port_seen place)).waiting place.port)

-- a frame may be begun, and at its port, which is one of the cluster's, a frame waits
pub record CanBeSent (cluster : ClusterState) (next : NextFrame) : Type 0 where
  pub frame : IsFrame next.frame
  pub place : IsPortAmong cluster.plans next.place.switch next.place.port
  pub waits : HasWaiting cluster next.place

-- `ok` takes the first waiting frame of a port out
abbrev pub cluster_taken_in : ClusterState → PortPlace → Answer → ClusterState
cluster_taken_in cluster place answer = record cluster { switches = switches_sent cluster.switches (cluster_port_seen place) answer }
