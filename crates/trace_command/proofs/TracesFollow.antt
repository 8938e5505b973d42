-- The writes that a trace follows, line by line, are those after what the log has of bridges.
use Rattle.std.proofs.Common.{◌≡◌, ℕ, ◌<◌, ◌==◌, Bool, true, false, Option, Some, None, List, [], ◌∷◌, length, map, refl, sym, ap, ◌∙◌, subst, inl, inr, ◌⊎◌}
use Rattle.std.specs.Prelude.{if◌then◌else◌, slice_index_or, slice_set}
use Rattle.std.specs.List.{fold}
use Rattle.std.proofs.Math.ListN.{get_or-map}
use Rattle.std.proofs.Math.Seq.{lt-length-set}
use Rattle.std.proofs.lemmas.Bool.{cases_eq, eq-eqb, ne_eqb}
use Rattle.std.proofs.lemmas.List.{get_or-set_other, get_or-set_same, length-map}
use Rattle.std.proofs.lemmas.List.Elements.{filter-append}
use Rattle.std.proofs.lemmas.List.Sums.{fold-append}
use Rattle.step_kinds.specs.Subject.{subject_of}
use Rattle.step_kinds.specs.declared.names.LaneName.{LaneName}
use Rattle.step_kinds.specs.declared.names.Side.{Side}
use Rattle.step_kinds.specs.declared.plan.Plan.{Plan}
use Rattle.step_kinds.specs.declared.steps.Answer.{Answer}
use Rattle.step_kinds.specs.declared.steps.Step.{Step}
use Rattle.step_kinds.specs.declared.steps.Step.TheVariants.{Relay, Xnext}
use Rattle.pair_model.specs.Plans.{no_pair, pair_plan}
use Rattle.ledger_model.specs.Log.{Answered, Memories}
use Rattle.pair_model.specs.Switch.{first}
use Rattle.ledger_model.specs.NetworkLog.{is_on_bridge, on_bridges}
use Rattle.ledger_model.specs.Network.{Action, Network, action_of, item_of, items_from, new_network, next_item, next_network, sends_first, sends_from}
use Rattle.ledger_model.specs.Origins.{bytes_kept}
use Rattle.ledger_model.specs.Ports.{Port, port_on, switch_of}
use Rattle.step_kinds.specs.AnsweredSteps.{AnsweredStep}
use Rattle.trace_command.specs.Writes.{PairWrites, change_by, pair_after, pair_in, pair_start, writes_after}
use Rattle.trace_command.specs.declared.changes.Change.TheVariants.{Nothing}
use Rattle.trace_command.specs.Laws.{TracesFollowTheLog, trace_steps_of, with_item}

-- One pair among all

-- the item of a line
abbrev item_in : AnsweredStep → Answered
item_in line = record { step = line.step; answer = line.made.answer }

module _ (plan : Plan) (k : ℕ) where
  pair-after_line : (writes : List PairWrites) (step : Step) (answer : Answer) → k < length writes
      → pair_in (writes_after plan.pairs writes step answer) k ≡ with_item plan k (pair_in writes k) (record { step = step; answer = answer })
  pair-after_line writes step answer within = go (subject_of step) (cases_eq (subject_of step) k)
    where
      After : ℕ → PairWrites
      After j = pair_after (pair_in writes j) (change_by (slice_index_or plan.pairs j no_pair) step answer)

      go : (j : ℕ) → (j ≡ k) ⊎ (j ≡ k → ⊥)
          → pair_in (slice_set writes j (After j)) k ≡ pair_after (pair_in writes k) (if j == k then change_by (pair_plan plan k) step answer else Nothing)
      go j (inl e) =
          subst (λ i. pair_in (slice_set writes i (After i)) k ≡ pair_after (pair_in writes k) (if i == k then change_by (pair_plan plan k) step answer else Nothing)) (sym e)
          (get_or-set_same writes k (After k) (pair_start no_pair) within
          ∙ ap (λ b. pair_after (pair_in writes k) (if b then change_by (pair_plan plan k) step answer else Nothing)) (sym (eq-eqb k k refl)))
      go j (inr ne) =
          get_or-set_other writes j k (After j) (pair_start no_pair) (λ e. ne (sym e))
          ∙ ap (λ b. pair_after (pair_in writes k) (if b then change_by (pair_plan plan k) step answer else Nothing)) (sym (ne_eqb j k ne))

  pair_traced : (lines : List AnsweredStep) (writes : List PairWrites) → k < length writes
      → pair_in (fold (λ now line. writes_after plan.pairs now line.step line.made.answer) writes lines) k ≡ fold (with_item plan k) (pair_in writes k) (map item_in lines)
  pair_traced [] writes within = refl
  pair_traced (line ∷ lines) writes within =
      pair_traced lines (writes_after plan.pairs writes line.step line.made.answer) (lt-length-set writes (subject_of line.step) _ within)
      ∙ ap (λ now. fold (with_item plan k) now (map item_in lines)) (pair-after_line writes line.step line.made.answer within)

  -- What switches do

  no_change : (b : Bool) (now : PairWrites) → pair_after now (if b then Nothing else Nothing) ≡ now
  no_change true now = refl
  no_change false now = refl

  module _ (memories : Memories) where
    abbrev Net : Type 0
    Net = Network (List ℕ)

    abbrev ItemOf : Net → Step → Action (List ℕ) → Answered
    ItemOf net step action = item_of bytes_kept plan memories net step action

    -- a step with its item's answer does to a pair's writes what its item does among those made on bridges
    abbrev Alike : Net → Step → Action (List ℕ) → Type 0
    Alike net step action = (now : PairWrites) → with_item plan k now (record { step = step; answer = (ItemOf net step action).answer }) ≡ fold (with_item plan k) now (on_bridges (ItemOf net step action ∷ []))

    sent_alike : (net : Net) (pair : ℕ) (side : Side) (queue dev : ℕ) (port : Port) (lane : LaneName) (o : Option (List ℕ)) → Alike net (Xnext pair side queue dev) (sends_first port lane o)
    sent_alike net pair side queue dev port lane None now = no_change (pair == k) now
    sent_alike net pair side queue dev port lane (Some frame) now = no_change (pair == k) now ∙ sym (no_change (lane.pair == k) now)

    xnext_alike : (net : Net) (pair : ℕ) (side : Side) (queue dev : ℕ) (lane : LaneName) (o : Option Port) → Alike net (Xnext pair side queue dev) (sends_from net.switches lane o)
    xnext_alike net pair side queue dev lane None now = no_change (pair == k) now
    xnext_alike net pair side queue dev lane (Some port) now = sent_alike net pair side queue dev port lane (first (switch_of net.switches port) port.place) now

    next_alike : (net : Net) (step : Step) → Alike net step (action_of plan net.switches step)
    next_alike net (Relay pair side queue switch port) now = no_change (pair == k) now
    next_alike net (Xnext pair side queue dev) now =
        let lane : LaneName = record { pair = pair; from = side; queue = queue } in
        xnext_alike net pair side queue dev lane (port_on plan lane) now
    next_alike net step now = refl

    lines_alike : (net : Net) (lines : List AnsweredStep) (now : PairWrites)
        → map (λ (line : AnsweredStep). line.made.answer) lines ≡ map (λ (made : Answered). made.answer) (items_from bytes_kept plan memories net (trace_steps_of lines))
        → fold (with_item plan k) now (map item_in lines) ≡ fold (with_item plan k) now (on_bridges (items_from bytes_kept plan memories net (trace_steps_of lines)))
    lines_alike net [] now e = refl
    lines_alike net (line ∷ lines) now e =
        let item : Answered = next_item bytes_kept plan memories net line.step in
        let after : Net = next_network bytes_kept plan memories net line.step in
        let rest : List Answered = items_from bytes_kept plan memories after (trace_steps_of lines) in
        let own : line.made.answer ≡ item.answer = cc in
        let others : map (λ (line : AnsweredStep). line.made.answer) lines ≡ map (λ (made : Answered). made.answer) rest = cc in
        ap (λ answer. fold (with_item plan k) (with_item plan k now (record { step = line.step; answer = answer })) (map item_in lines)) own
        ∙ ap (λ next. fold (with_item plan k) next (map item_in lines)) (next_alike net line.step now)
        ∙ lines_alike after lines (fold (with_item plan k) now (on_bridges (item ∷ []))) others
        ∙ sym (fold-append (with_item plan k) now (on_bridges (item ∷ [])) (on_bridges rest))
        ∙ ap (fold (with_item plan k) now) (sym (filter-append is_on_bridge (item ∷ []) rest))

-- a trace has the writes of each pair that the bridges' log gives
pub traces_follow_the_log : TracesFollowTheLog
traces_follow_the_log plan memories lines pair answers within =
    pair_traced plan pair lines (map pair_start plan.pairs) (subst (λ n. pair < n) (sym (length-map plan.pairs pair_start)) within)
    ∙ ap (λ now. fold (with_item plan pair) now (map item_in lines)) (get_or-map pair_start plan.pairs pair no_pair)
    ∙ lines_alike plan pair memories (new_network plan) lines (pair_start (pair_plan plan pair)) answers
