-- The log of each plan is true, and so the answers of `replay` and `load` carry it.
use Rattle.std.proofs.Common.{◌≡◌, ◌∙◌, ℕ, Some, Result, Ok, Err, List, [], ◌∷◌, ◌++◌, refl, sym, subst, arith}
use Rattle.std.specs.Prelude.{◌&&◌, nat_lt, not}
use Rattle.std.proofs.lemmas.List.{append_cancel_left}
use Rattle.command_reply.specs.Output.{Output, reply_done}
use Rattle.step_kinds.specs.declared.plan.Plan.{Plan}
use Rattle.script_text.specs.Script.{script_of}
use Rattle.script_words.specs.declared.fault.ScriptFault.{ScriptFault}
use Rattle.traffic_plan.specs.Load.{load_of}
use Rattle.step_kinds.specs.Subject.{subject_of}
use Rattle.step_kinds.specs.declared.names.LaneName.{LaneName}
use Rattle.step_kinds.specs.declared.steps.Step.{Step}
use Rattle.ledger_laws.specs.Laws.{entries_needed, is_again, is_link_down, lane_begun_by, needs_link, refused_earlier}
use Rattle.ledger_model.specs.Log.{Answered, room_in, up_at}
use Rattle.ledger_model.specs.Memory.{memory_of}
use Rattle.ledger_laws.proofs.Facade.{frames_come_in_order, frames_come_once, items_again_where_no_room, items_link_down_where_not_up, log_grows_by_items, memories_keep_pairs_apart, pairs_without_ports_are_separate, paths_keep_order}
use Rattle.ledger_laws.specs.NetworkLaws.{bridge_ledger, item_after}
use Rattle.replay_command.specs.Answers.{IsLoadOf, IsReplayOf, replayed}
use Rattle.replay_command.specs.Headline.{IsTrueLog, log_so_far}
use Rattle.ledger_model.specs.PlanLog.{steps_of}
use Rattle.replay_command.specs.Replays.{load_text}

same_head : {X : Type 0} (x y : X) → x ∷ [] ≡ y ∷ [] → x ≡ y
same_head x y e = cc e

abbrev IsAgain : Plan → List Step → LaneName → Answered → Type 0
IsAgain plan before lane made =
    is_again made.answer
    ≡ (not (refused_earlier plan (bridge_ledger plan (memory_of plan) before lane.pair) made.step) && nat_lt (room_in plan (log_so_far plan before) lane) (entries_needed plan lane made.step))

abbrev IsLinkDown : Plan → List Step → Answered → Type 0
IsLinkDown plan before made = is_link_down made.answer ≡ (needs_link made.step && not (up_at plan (subject_of made.step) (log_so_far plan before)))

-- an item of the log is the one that the network before it gives
item_is : (plan : Plan) (before : List Step) (step : Step) (made : Answered) → log_so_far plan (before ++ step ∷ []) ≡ log_so_far plan before ++ made ∷ [] → item_after plan (memory_of plan) before step ≡ made
item_is plan before step made goes_on =
    same_head _ _
    (append_cancel_left (log_so_far plan before) (item_after plan (memory_of plan) before step ∷ []) (made ∷ [])
    (sym (log_grows_by_items plan (memory_of plan) before step).0 ∙ goes_on))

true_log : (plan : Plan) → IsTrueLog plan
true_log plan =
    record {
      in_order = λ lane session ordinary. frames_come_in_order plan (memory_of plan) (steps_of plan) lane session ordinary;
      once = λ lane session n ordinary. frames_come_once plan (memory_of plan) (steps_of plan) lane session n ordinary;
      again = λ before behind step made lane is ordinary begun.
          let item : item_after plan (memory_of plan) before step ≡ made = item_is plan before step made is.goes_on in
          subst (λ (made : Answered). lane_begun_by made.step ≡ Some lane → IsAgain plan before lane made) item
          (λ begun. items_again_where_no_room plan (memory_of plan) before step lane ordinary begun) begun;
      link_down = λ before behind step made is. subst (IsLinkDown plan before) (item_is plan before step made is.goes_on) (items_link_down_where_not_up plan (memory_of plan) before step);
      paths = λ first others ordinary. paths_keep_order plan (memory_of plan) (steps_of plan) first others ordinary;
      separate = λ pair none. pairs_without_ports_are_separate plan (memory_of plan) (memories_keep_pairs_apart plan) (steps_of plan) pair none;
    }

true_replay : (read : Result Plan ScriptFault) → (replayed read).status ≡ 0 → (plan : Plan) × (read ≡ Ok plan) × IsTrueLog plan
true_replay (Ok plan) zero = (plan, refl, true_log plan)
true_replay (Err fault) zero = absurd (omega arith)

-- An output that is a script's report or refusal is what `replay` promises: where it is done, the log is true.
pub replay_is_true : (bytes : List ℕ) (output : Output) → output ≡ replayed (script_of bytes) → IsReplayOf bytes output
replay_is_true bytes output same =
    record {
      answer = same;
      headline = λ zero. true_replay (script_of bytes) (subst (λ (output : Output). output.status ≡ 0) same zero);
    }

-- An output that is the text of a generated load is what `load` promises: the load's log is true.
pub load_is_true : (seed frames : ℕ) (output : Output) → output ≡ reply_done (load_text seed frames) → IsLoadOf seed frames output
load_is_true seed frames output same = record { answer = same; headline = true_log (load_of seed frames) }
