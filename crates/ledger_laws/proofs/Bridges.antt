-- What was made on bridges has a log of its own, and the log grows by an item for each step.
use Rattle.std.proofs.Common.{◌≡◌, ℕ, List, [], ◌∷◌, ◌++◌, Option, Some, None, refl, sym, ap, ◌∙◌, append_assoc}
use Rattle.std.proofs.lemmas.List.{append-nil}
use Rattle.std.proofs.lemmas.List.Elements.{filter-append}
use Rattle.step_kinds.specs.declared.names.LaneName.{LaneName}
use Rattle.step_kinds.specs.declared.names.Side.{Side}
use Rattle.step_kinds.specs.declared.plan.Plan.{Plan}
use Rattle.step_kinds.specs.declared.steps.Step.{Step}
use Rattle.step_kinds.specs.declared.steps.Step.TheVariants.{Relay, Xnext}
use Rattle.ledger_model.specs.Log.{Memories, log_of}
use Rattle.ledger_laws.proofs.LogGrowth.{log_of-last}
use Rattle.pair_model.specs.Switch.{first}
use Rattle.ledger_model.specs.NetworkLog.{is_on_bridge, on_bridges}
use Rattle.ledger_model.specs.Network.{Network, Action, action_of, begin_on, new_network, items_from, network_after, item_of, network_from, next_item, next_network, sends_first, sends_from}
use Rattle.ledger_model.specs.Origins.{Keeping, bytes_kept}
use Rattle.ledger_model.specs.Ports.{Port, port_on, switch_of}
use Rattle.ledger_laws.specs.NetworkLaws.{BridgesHaveALog, LogGrowsByItems}

module _ {F : Type 0} (keeping : Keeping F) (plan : Plan) (memories : Memories) where
  -- one step more
  pub items-last : (net : Network F) (steps : List Step) (step : Step)
      → items_from keeping plan memories net (steps ++ step ∷ [])
      ≡ items_from keeping plan memories net steps ++ next_item keeping plan memories (network_from keeping plan memories net steps) step ∷ []
  items-last net [] step = refl
  items-last net (made ∷ steps) step = ap (λ items. next_item keeping plan memories net made ∷ items) (items-last (next_network keeping plan memories net made) steps step)

  pub network-last : (net : Network F) (steps : List Step) (step : Step)
      → network_from keeping plan memories net (steps ++ step ∷ []) ≡ next_network keeping plan memories (network_from keeping plan memories net steps) step
  network-last net [] step = refl
  network-last net (made ∷ steps) step = network-last (next_network keeping plan memories net made) steps step

  -- the bridges' log after one step
  abbrev Logged : Network F → Step → Action F → Type 0
  Logged net step action =
      log_of plan memories (network_after keeping plan memories net step action).steps ≡ log_of plan memories net.steps ++ on_bridges (item_of keeping plan memories net step action ∷ [])

  sent_log : (net : Network F) (pair : ℕ) (side : Side) (queue dev : ℕ) (port : Port) (lane : LaneName) (o : Option F) → Logged net (Xnext pair side queue dev) (sends_first port lane o)
  sent_log net pair side queue dev port lane None = sym (append-nil (log_of plan memories net.steps))
  sent_log net pair side queue dev port lane (Some frame) = log_of-last plan memories net.steps (begin_on lane (keeping.bytes_of frame))

  xnext_log : (net : Network F) (pair : ℕ) (side : Side) (queue dev : ℕ) (lane : LaneName) (o : Option Port) → Logged net (Xnext pair side queue dev) (sends_from net.switches lane o)
  xnext_log net pair side queue dev lane None = sym (append-nil (log_of plan memories net.steps))
  xnext_log net pair side queue dev lane (Some port) = sent_log net pair side queue dev port lane (first (switch_of net.switches port) port.place)

  next_log : (net : Network F) (step : Step) → Logged net step (action_of plan net.switches step)
  next_log net (Relay pair side queue switch port) = sym (append-nil (log_of plan memories net.steps))
  next_log net (Xnext pair side queue dev) =
      let lane : LaneName = record { pair = pair; from = side; queue = queue } in
      xnext_log net pair side queue dev lane (port_on plan lane)
  next_log net step = log_of-last plan memories net.steps step

  pub log_from_bridges : (net : Network F) (steps : List Step)
      → log_of plan memories (network_from keeping plan memories net steps).steps ≡ log_of plan memories net.steps ++ on_bridges (items_from keeping plan memories net steps)
  log_from_bridges net [] = sym (append-nil (log_of plan memories net.steps))
  log_from_bridges net (step ∷ steps) =
      let item = next_item keeping plan memories net step in
      let after = next_network keeping plan memories net step in
      let rest = items_from keeping plan memories after steps in
      log_from_bridges after steps
      ∙ ap (λ log. log ++ on_bridges rest) (next_log net step)
      ∙ append_assoc (log_of plan memories net.steps) (on_bridges (item ∷ [])) (on_bridges rest)
      ∙ ap (λ log. log_of plan memories net.steps ++ log) (sym (filter-append is_on_bridge (item ∷ []) rest))

-- A log without what switches did alone is the log of the steps that were made on bridges.
pub bridges_have_a_log : BridgesHaveALog
bridges_have_a_log plan memories steps = sym (log_from_bridges bytes_kept plan memories (new_network plan) steps)

-- One step more appends one item to the log, and item and next network are told by the network before it.
pub log_grows_by_items : LogGrowsByItems
log_grows_by_items plan memories steps step =
    (items-last bytes_kept plan memories (new_network plan) steps step, network-last bytes_kept plan memories (new_network plan) steps step)
