-- The network and the log after one step more, and the result of a step of each kind.
use Rattle.std.proofs.Common.{◌≡◌, ℕ, List, [], ◌∷◌, ◌++◌, refl, ap}
use Rattle.step_kinds.specs.declared.plan.Plan.{Plan}
use Rattle.step_kinds.specs.declared.steps.Answer.{Answer}
use Rattle.step_kinds.specs.declared.steps.Step.{Step}
use Rattle.step_kinds.specs.declared.steps.Step.TheVariants.{Copy, Relay, Xnext}
use Rattle.ledger_model.specs.Log.{Answered, Memories}
use Rattle.ledger_model.specs.Memory.{memory_of}
use Rattle.pair_model.specs.Switch.{Switch}
use Rattle.ledger_model.specs.Network.{Network, OnBridge, action_of, items_from, network_from, next_item, next_network, switches_reached}
use Rattle.ledger_model.specs.Origins.{Keeping, bytes_kept}
use Rattle.cluster_core.specs.LogClauses.{cluster_log_after, network_after}
use Rattle.cluster_core.specs.Parts.{part_of}
use Rattle.cluster_core.specs.declared.parts.StepPart.TheVariants.{OnBridges}

module _ {F : Type 0} (keeping : Keeping F) (plan : Plan) (memories : Memories) where
  network_from-last : (net : Network F) (steps : List Step) (step : Step) →
      network_from keeping plan memories net (steps ++ step ∷ []) ≡ next_network keeping plan memories (network_from keeping plan memories net steps) step
  network_from-last net [] step = refl
  network_from-last net (first ∷ steps) step = network_from-last (next_network keeping plan memories net first) steps step

  items_from-last : (net : Network F) (steps : List Step) (step : Step) →
      items_from keeping plan memories net (steps ++ step ∷ [])
      ≡ items_from keeping plan memories net steps ++ next_item keeping plan memories (network_from keeping plan memories net steps) step ∷ []
  items_from-last net [] step = refl
  items_from-last net (first ∷ steps) step =
      ap (λ (items : List Answered). next_item keeping plan memories net first ∷ items) (items_from-last (next_network keeping plan memories net first) steps step)

-- the network after one step more, and the item of the log for it

abbrev pub next_by : Plan → Network (List ℕ) → Step → Network (List ℕ)
next_by plan net step = next_network bytes_kept plan (memory_of plan) net step

abbrev pub item_by : Plan → Network (List ℕ) → Step → Answered
item_by plan net step = next_item bytes_kept plan (memory_of plan) net step

-- The network after a list of steps and one more is what the last step makes of the network after the list.
pub network-last : (plan : Plan) (steps : List Step) (step : Step) → network_after plan (steps ++ step ∷ []) ≡ next_by plan (network_after plan steps) step
network-last plan steps step = network_from-last bytes_kept plan (memory_of plan) _ steps step

-- The log of a list of steps and one more is the log of the list with the last step's item after it.
pub log-last : (plan : Plan) (steps : List Step) (step : Step) → cluster_log_after plan (steps ++ step ∷ []) ≡ cluster_log_after plan steps ++ item_by plan (network_after plan steps) step ∷ []
log-last plan steps step = items_from-last bytes_kept plan (memory_of plan) _ steps step

-- Steps on bridges alone

-- A step that is no relay, xnext or copy is made on a bridge, whatever the network's switches are.
pub action_on_bridges : (plan : Plan) (switches : List (Switch (List ℕ))) (step : Step) → part_of step ≡ OnBridges → action_of plan switches step ≡ OnBridge
action_on_bridges plan switches (Relay pair side queue switch port) e = cc e
action_on_bridges plan switches (Xnext pair side queue dev) e = cc e
action_on_bridges plan switches step e = refl

-- A step that is no relay, xnext or copy brings no frame to a network's switches, whatever it is answered.
pub reached_on_bridges : (plan : Plan) (memories : Memories) (switches : List (Switch (List ℕ))) (session : ℕ → ℕ) (step : Step) (answer : Answer) → part_of step ≡ OnBridges →
    switches_reached bytes_kept plan memories switches session step answer ≡ switches
reached_on_bridges plan memories switches session (Copy pair side queue) answer e = cc e
reached_on_bridges plan memories switches session step answer e = refl
