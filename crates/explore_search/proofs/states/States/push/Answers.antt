use Rattle.std.proofs.Common.{◌∙◌, ℕ, ◌∷◌, ◌++◌, [], List, Some, ap, cond, length, refl, subst, sym}
use Rattle.std.specs.Str.{bytes_eq}
use Rattle.indexmap.specs.IndexMap.{get_by}
use Rattle.explore_search.specs.Chains.{AreIndexed}
use Rattle.explore_search.specs.declared.states.State.{State}
use Rattle.explore_search.proofs.ChainedStates.{indexed_push}
use Rattle.explore_search.proofs.states.States.push.Goals as goal

pub invariant_of-self-2 : goal.invariant_of-self-2
invariant_of-self-2 g c =
    let state : State g.row.M.Denot = record { landings = c.args.landings; key = c.args.key; before = c.in_ok-before.before; machine = c.args.machine } in
    let grown = c.push_reserved.ensures.items ∙ ap (λ (states : List (State g.row.M.Denot)). states ++ state ∷ []) c.in_ok-reserve.ensures.items in
    subst (λ (states : List (State g.row.M.Denot)). AreIndexed c.insert.new.self (λ key. key.items) states) (sym grown)
    (indexed_push (λ key. key.items) c.self.inside.last c.insert.new.self c.self.inside.list.items state c.in_ok-name.name c.self.invariant
    (c.in_ok-name.ensures.items ∙ c.deref.ensures.value) c.in_ok-before.ensures.old
    (λ key.
    c.in_ok-before.ensures.updates.0 key
    ∙ ap (λ (count : ℕ). cond (bytes_eq c.in_ok-name.name.items key.items) (Some count) (get_by (λ other. bytes_eq key.items other.items) c.self.inside.last))
    (c.len.ensures ∙ c.reserve.new.self.ok.0 ∙ ap length c.in_ok-reserve.ensures.items)))

pub returns-clause-ok : goal.returns-clause-ok
returns-clause-ok g c =
    let state : State g.row.M.Denot = record { landings = c.args.landings; key = c.args.key; before = c.in_ok-before.before; machine = c.args.machine } in
    let kept = c.in_ok-reserve.ensures.items ∙ c.self.view_is in
    record {
      state = state;
      is = c.push_reserved.ensures.items ∙ ap (λ (states : List (State g.row.M.Denot)). states ++ state ∷ []) kept;
      landings_are = refl;
      key_is = refl;
      machine_is = refl;
    }
