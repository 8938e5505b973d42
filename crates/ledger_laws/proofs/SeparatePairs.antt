-- If no switch has a port on a pair, what is made there is what is made without the other pairs' steps.
use Rattle.std.proofs.Common.{◌≡◌, ℕ, ◌==◌, Bool, true, false, List, [], ◌∷◌, ◌++◌, Option, Some, None, refl, sym, ap, ◌∙◌, subst, append_assoc}
use Rattle.std.specs.Prelude.{if◌then◌else◌}
use Rattle.std.specs.List.{filter}
use Rattle.std.proofs.lemmas.Bool.{eqb-true}
use Rattle.std.proofs.lemmas.List.{append-nil}
use Rattle.std.proofs.lemmas.List.Elements.{filter-append}
use Rattle.step_kinds.specs.Subject.{subject_of}
use Rattle.step_kinds.specs.declared.names.LaneName.{LaneName}
use Rattle.step_kinds.specs.declared.names.Side.{Side}
use Rattle.step_kinds.specs.declared.plan.Plan.{Plan}
use Rattle.step_kinds.specs.declared.steps.Step.{Step}
use Rattle.step_kinds.specs.declared.steps.Step.TheVariants.{Relay, Xnext}
use Rattle.ledger_model.specs.Log.{Memories, log_of}
use Rattle.ledger_laws.specs.Laws.{made_on, steps_on}
use Rattle.ledger_laws.proofs.PairsAreSeparate.{pairs_are_separate}
use Rattle.pair_model.specs.Switch.{first}
use Rattle.ledger_model.specs.NetworkLog.{bridge_steps}
use Rattle.ledger_model.specs.Network.{Action, Network, action_of, begin_on, network_after, network_from, new_network, next_network, sends_first, sends_from}
use Rattle.ledger_model.specs.Origins.{bytes_kept}
use Rattle.ledger_model.specs.Ports.{Port, port_on, switch_of}
use Rattle.ledger_laws.specs.NetworkLaws.{HasNoPort, PairsWithoutPortsAreSeparate}
use Rattle.ledger_laws.proofs.Bridges.{bridges_have_a_log}

-- the steps on bridges among some
abbrev is_bridge_step : Step → Bool
is_bridge_step (Relay pair side queue switch port) = false
is_bridge_step (Xnext pair side queue dev) = false
is_bridge_step step = true

module _ (plan : Plan) (memories : Memories) (pair : ℕ) (no_port : HasNoPort plan pair) where
  abbrev own_bridge : List Step → List Step
  own_bridge steps = filter is_bridge_step (steps_on pair steps)

  -- one step more adds itself, if it is on the pair and no switch's
  abbrev Adds : Network (List ℕ) → Step → Action (List ℕ) → Type 0
  Adds net step action = steps_on pair (network_after bytes_kept plan memories net step action).steps ≡ steps_on pair net.steps ++ own_bridge (step ∷ [])

  own_none : (b : Bool) (step : Step) → is_bridge_step step ≡ false → filter is_bridge_step (if b then step ∷ [] else []) ≡ []
  own_none true step e = ap (λ c. if c then step ∷ [] else []) e
  own_none false step e = refl

  idle : (net : Network (List ℕ)) (step : Step) → is_bridge_step step ≡ false → steps_on pair net.steps ≡ steps_on pair net.steps ++ own_bridge (step ∷ [])
  idle net step e = sym (append-nil (steps_on pair net.steps)) ∙ ap (λ more. steps_on pair net.steps ++ more) (sym (own_none (subject_of step == pair) step e))

  own_one : (b : Bool) (step : Step) → is_bridge_step step ≡ true → filter is_bridge_step (if b then step ∷ [] else []) ≡ (if b then step ∷ [] else [])
  own_one true step e = ap (λ c. if c then step ∷ [] else []) e
  own_one false step e = refl

  made_here : (net : Network (List ℕ)) (step : Step) → is_bridge_step step ≡ true → steps_on pair (net.steps ++ step ∷ []) ≡ steps_on pair net.steps ++ own_bridge (step ∷ [])
  made_here net step e =
      filter-append (λ s. subject_of s == pair) net.steps (step ∷ [])
      ∙ ap (λ more. steps_on pair net.steps ++ more) (sym (own_one (subject_of step == pair) step e))

  -- a frame is sent on another pair
  sent_elsewhere : (net : Network (List ℕ)) (p : ℕ) (side : Side) (queue dev : ℕ) → (p == pair) ≡ false → (port : Port) (o : Option (List ℕ))
      → Adds net (Xnext p side queue dev) (sends_first port (record { pair = p; from = side; queue = queue }) o)
  sent_elsewhere net p side queue dev other port None = idle net (Xnext p side queue dev) refl
  sent_elsewhere net p side queue dev other port (Some frame) =
      let begin = begin_on (record { pair = p; from = side; queue = queue }) frame in
      filter-append (λ s. subject_of s == pair) net.steps (begin ∷ [])
      ∙ ap (λ b. steps_on pair net.steps ++ (if b then begin ∷ [] else [])) other
      ∙ append-nil (steps_on pair net.steps)
      ∙ idle net (Xnext p side queue dev) refl

  xnext_adds : (net : Network (List ℕ)) (p : ℕ) (side : Side) (queue dev : ℕ) (b : Bool) → (p == pair) ≡ b → (o : Option Port) → port_on plan (record { pair = p; from = side; queue = queue }) ≡ o
      → Adds net (Xnext p side queue dev) (sends_from net.switches (record { pair = p; from = side; queue = queue }) o)
  xnext_adds net p side queue dev b e None f = idle net (Xnext p side queue dev) refl
  xnext_adds net p side queue dev true e (Some port) f = absurd (none (sym (subst (λ k. port_on plan (record { pair = k; from = side; queue = queue }) ≡ None) (sym (eqb-true p pair e)) (no_port side queue)) ∙ f))
    where
      none : None ≡ Some port → ⊥
      none g = cc
  xnext_adds net p side queue dev false e (Some port) f = sent_elsewhere net p side queue dev e port (first (switch_of net.switches port) port.place)

  next_adds : (net : Network (List ℕ)) (step : Step) → Adds net step (action_of plan net.switches step)
  next_adds net (Relay p side queue switch port) = idle net (Relay p side queue switch port) refl
  next_adds net (Xnext p side queue dev) = xnext_adds net p side queue dev (p == pair) refl (port_on plan (record { pair = p; from = side; queue = queue })) refl
  next_adds net step = made_here net step refl

  all_add : (net : Network (List ℕ)) (steps : List Step) → steps_on pair (network_from bytes_kept plan memories net steps).steps ≡ steps_on pair net.steps ++ own_bridge steps
  all_add net [] = sym (append-nil (steps_on pair net.steps))
  all_add net (step ∷ steps) =
      all_add (next_network bytes_kept plan memories net step) steps
      ∙ ap (λ xs. xs ++ own_bridge steps) (next_adds net step)
      ∙ append_assoc (steps_on pair net.steps) (own_bridge (step ∷ [])) (own_bridge steps)
      ∙ ap (λ xs. steps_on pair net.steps ++ xs)
      (sym (filter-append is_bridge_step (steps_on pair (step ∷ [])) (steps_on pair steps)) ∙ ap (filter is_bridge_step) (sym (filter-append (λ s. subject_of s == pair) (step ∷ []) steps)))

  -- of steps on the pair alone, those on bridges are made
  rests : (net : Network (List ℕ)) (p : ℕ) (side : Side) (queue dev : ℕ) (o : Option Port) → o ≡ None
      → (network_after bytes_kept plan memories net (Xnext p side queue dev) (sends_from net.switches (record { pair = p; from = side; queue = queue }) o)).steps ≡ net.steps ++ []
  rests net p side queue dev None e = sym (append-nil net.steps)
  rests net p side queue dev (Some port) e = absurd (cc)

  next_alone : (net : Network (List ℕ)) (step : Step) → (subject_of step == pair) ≡ true → (next_network bytes_kept plan memories net step).steps ≡ net.steps ++ filter is_bridge_step (step ∷ [])
  next_alone net (Relay p side queue switch port) e = sym (append-nil net.steps)
  next_alone net (Xnext p side queue dev) e =
      let lane : LaneName = record { pair = p; from = side; queue = queue } in
      rests net p side queue dev (port_on plan lane) (subst (λ k. port_on plan (record { pair = k; from = side; queue = queue }) ≡ None) (sym (eqb-true p pair e)) (no_port side queue))
  next_alone net step e = refl

  alone : (net : Network (List ℕ)) (steps : List Step) → (network_from bytes_kept plan memories net (steps_on pair steps)).steps ≡ net.steps ++ own_bridge steps
  alone net [] = sym (append-nil net.steps)
  alone net (step ∷ steps) = by (subject_of step == pair) refl (λ now. alone now steps)
    where
      by : (b : Bool) → (subject_of step == pair) ≡ b → ((now : Network (List ℕ)) → (network_from bytes_kept plan memories now (steps_on pair steps)).steps ≡ now.steps ++ own_bridge steps)
          → (network_from bytes_kept plan memories net (if b then step ∷ steps_on pair steps else steps_on pair steps)).steps
          ≡ net.steps ++ filter is_bridge_step (if b then step ∷ steps_on pair steps else steps_on pair steps)
      by true e rest =
          rest (next_network bytes_kept plan memories net step)
          ∙ ap (λ made. made ++ own_bridge steps) (next_alone net step e)
          ∙ append_assoc net.steps (filter is_bridge_step (step ∷ [])) (own_bridge steps)
          ∙ ap (λ made. net.steps ++ made) (sym (filter-append is_bridge_step (step ∷ []) (steps_on pair steps)))
      by false e rest = rest net

-- On a pair without a switch's port the log is what it would be without the other pairs' steps.
pub pairs_without_ports_are_separate : PairsWithoutPortsAreSeparate
pairs_without_ports_are_separate plan memories apart steps pair no_port =
    ap (made_on pair) (bridges_have_a_log plan memories steps)
    ∙ pairs_are_separate plan memories apart (bridge_steps plan memories steps) pair
    ∙ ap (log_of plan memories) (all_add plan memories pair no_port (new_network plan) steps ∙ sym (alone plan memories pair no_port (new_network plan) steps))
    ∙ sym (bridges_have_a_log plan memories (steps_on pair steps))
