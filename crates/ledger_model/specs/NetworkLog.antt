-- The log of a plan with switches, and what of it was made on bridges.
use Rattle.std.specs.Prelude.{ℕ, Bool, true, false, List}
use Rattle.std.specs.List.{filter}
use Rattle.step_kinds.specs.declared.plan.Plan.{Plan}
use Rattle.step_kinds.specs.declared.steps.Answer.{Answer}
use Rattle.step_kinds.specs.declared.steps.Step.{Step}
use Rattle.step_kinds.specs.declared.steps.Step.TheVariants.{Relay, Xnext}
use Rattle.ledger_model.specs.Log.{Answered, Memories}
use Rattle.ledger_model.specs.Network.{Network, items_from, network_from, new_network, next_item}
use Rattle.ledger_model.specs.Origins.{Carried, bytes_kept, origins_kept}

-- The log of a list of steps has one item for each. An `xnext` at whose port a frame waits stands in it as the `begin`
-- that it is.
abbrev pub switch_log : Plan → Memories → List Step → List Answered
switch_log plan memories steps = items_from bytes_kept plan memories (new_network plan) steps

-- the network after it
abbrev pub network_of : Plan → Memories → List Step → Network (List ℕ)
network_of plan memories steps = network_from bytes_kept plan memories (new_network plan) steps

-- what the log answers to a step after these
unfoldable pub answer_after : Plan → Memories → List Step → Step → Answer
answer_after plan memories steps step = (next_item bytes_kept plan memories (network_of plan memories steps) step).answer

-- the same network, if each frame in a switch has its origin
abbrev pub traced_network : Plan → Memories → List Step → Network Carried
traced_network plan memories steps = network_from origins_kept plan memories (new_network plan) steps

-- the steps that were made on bridges
abbrev pub bridge_steps : Plan → Memories → List Step → List Step
bridge_steps plan memories steps = (network_of plan memories steps).steps

-- whether this was made on a bridge, and not by a switch alone
abbrev pub is_on_bridge : Answered → Bool
is_on_bridge made = on_bridge made.step where
  on_bridge : Step → Bool
  on_bridge (Relay pair side queue switch port) = false
  on_bridge (Xnext pair side queue dev) = false
  on_bridge step = true

abbrev pub on_bridges : List Answered → List Answered
on_bridges log = filter is_on_bridge log
