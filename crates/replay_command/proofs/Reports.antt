-- The report of a plan, made of what its functions give.
use Rattle.std.proofs.Common.{◌≡◌, ◌∙◌, ℕ, zero, suc, ◌<◌, List, [], ◌∷◌, ◌++◌, append-nil, append_assoc, Result, Ok, Err, IfOk, OnOk, length, replicate, refl, sym, ap, subst, arith, Global, Vec}
use Rattle.std.specs.List.{All, flat_map, fold}
use Rattle.std.proofs.lemmas.List.{length-map}
use Rattle.pair_model.specs.PlanParts.{declared_part}
use Rattle.step_kinds.specs.declared.plan.Counters.{Counters}
use Rattle.step_kinds.specs.declared.plan.Plan.{Plan}
use Rattle.step_kinds.specs.declared.names.Side.{Side}
use Rattle.step_kinds.specs.declared.names.Side.TheVariants.{A, B}
use Rattle.pair_model.specs.DeclaredPlans.{IsQueueOf}
use Rattle.traffic_plan.specs.Load.{load_of}
use Rattle.cluster_core.specs.Cluster.{ClusterState, plan_held}
use Rattle.cluster_core.specs.LogClauses.{HasClusterMade}
use Rattle.ledger_model.specs.Log.{Answered, accepted, counters_in, delivered, lane_of_device}
use Rattle.step_kinds.specs.declared.plan.Line.{Line}
use Rattle.report_text.specs.Report.{answer_line, count_line, count_lines, device_lines, end_line, ending}
use Rattle.step_kinds.specs.AnsweredSteps.{AnsweredStep}
use Rattle.step_kinds.specs.declared.plan.LaneCount.{LaneCount}
use Rattle.cluster_core.specs.PlanSteps.{HasReplayed}
use Rattle.cluster_core.specs.Counts.{filled}
use Rattle.ledger_model.specs.PlanLog.{answered_steps, device_counts, lane_counts, log_of_plan}
use Rattle.replay_command.specs.Replays.{answers_text, load_lane, load_text, replay_text, summary_text}
use Rattle.cluster_core.proofs.Facade.{all_known, lines_of_filled}
use Rattle.replay_command.proofs.BlockedAnswers.{blocked_in}

ending_same : (plan : Plan) (lanes : List LaneCount) (devs : List Counters) → lanes ≡ filled (lane_counts plan (log_of_plan plan)) → devs ≡ device_counts plan (log_of_plan plan) →
    ending plan lanes devs ≡ ending plan (lane_counts plan (log_of_plan plan)) (device_counts plan (log_of_plan plan))
ending_same plan lanes devs same_lanes same_devs =
    let log : List Answered = log_of_plan plan in
    let counts : List LaneCount = lane_counts plan log in
    ap (λ (given : List LaneCount). ending plan given devs) same_lanes
    ∙ ap (λ (given : List Counters). ending plan (filled counts) given) same_devs
    ∙ ap (λ (lines : List ℕ). lines ++ device_lines plan.devs (device_counts plan log) ++ end_line) (lines_of_filled (count_lines plan.pairs) (count_line plan.pairs) (λ count. refl) counts)

-- A text that ends with counts of which those of no frame are left out ends as the definition says.
pub ending_added : {T E : Type 0} (plan : Plan) (lanes : List LaneCount) (devs : List Counters) (old new : List ℕ) (result : Result T E) → lanes ≡ filled (lane_counts plan (log_of_plan plan)) →
    devs ≡ device_counts plan (log_of_plan plan) → OnOk result (new ≡ old ++ ending plan lanes devs) →
    OnOk result (new ≡ old ++ ending plan (lane_counts plan (log_of_plan plan)) (device_counts plan (log_of_plan plan)))
ending_added plan lanes devs old new (Err error) same_lanes same_devs is = tt
ending_added plan lanes devs old new (Ok done) same_lanes same_devs is = is ∙ ap (λ (more : List ℕ). old ++ more) (ending_same plan lanes devs same_lanes same_devs)

-- the text of the report is the definition's
pub replay_text_is : (plan : Plan) (answers text : List ℕ) → answers ≡ answers_text plan.steps (log_of_plan plan) →
    text ≡ answers ++ ending plan (lane_counts plan (log_of_plan plan)) (device_counts plan (log_of_plan plan)) → text ≡ replay_text plan
replay_text_is plan answers text same_answers h =
    h ∙ ap (λ (lines : List ℕ). lines ++ ending plan (lane_counts plan (log_of_plan plan)) (device_counts plan (log_of_plan plan))) same_answers

-- the text of the answers, kept one after another, is that of all
pub answers_kept : (lines : List Line) (log : List Answered) (text : List ℕ) →
    fold (λ (text : List ℕ) (answered : AnsweredStep). text ++ answer_line answered.made) text (answered_steps lines log) ≡ text ++ answers_text lines log
answers_kept [] log text = sym (append-nil text)
answers_kept (line ∷ lines) [] text = sym (append-nil text)
answers_kept (line ∷ lines) (made ∷ log) text =
    let own : List ℕ = answer_line (record { line = line.line; answer = made.answer }) in
    answers_kept lines log (text ++ own) ∙ append_assoc text own (answers_text lines log)

-- one line this many times is what is kept of as many answers
pub lines_again : (count : ℕ) (answered : AnsweredStep) (text : List ℕ) →
    text ++ flat_map answer_line (replicate count answered.made) ≡ fold (λ (text : List ℕ) (answered : AnsweredStep). text ++ answer_line answered.made) text (replicate count answered)
lines_again zero answered text = append-nil text
lines_again (suc count) answered text =
    let own : List ℕ = answer_line answered.made in
    sym (append_assoc text own (flat_map answer_line (replicate count answered.made))) ∙ lines_again count answered (text ++ own)

-- what the report asks of the counts

-- Each lane count that goes into a plan's report names a pair that the plan has.
pub lanes_known : (plan : Plan) (lanes : List LaneCount) → lanes ≡ filled (lane_counts plan (log_of_plan plan)) → All (λ count. count.name.pair < length plan.pairs) lanes
lanes_known plan lanes same = subst (λ (counts : List LaneCount). All (λ count. count.name.pair < length plan.pairs) counts) (sym same) (all_known plan (log_of_plan plan))

-- A plan's report has counters for as many devices as the plan has.
pub devices_known : (plan : Plan) (devs : List Counters) → devs ≡ device_counts plan (log_of_plan plan) → length devs ≡ length plan.devs
devices_known plan devs same = ap length same ∙ length-map plan.devs (λ dev. counters_in plan (log_of_plan plan) (lane_of_device dev))

-- The summary of a load

-- A new cluster of a plan has made no step of a plan that declares the same.
pub new_replayed : {E : Type 0} (plan kept : Plan) (result : Result ClusterState E) → declared_part plan ≡ declared_part kept →
    IfOk result (λ cluster. (other : Plan) → declared_part other ≡ declared_part kept → HasClusterMade other [] cluster) → IfOk result (λ cluster. plan_held cluster ≡ declared_part kept) →
    IfOk result (λ cluster. HasReplayed plan [] cluster)
new_replayed plan kept (Err error) same made held = tt
new_replayed plan kept (Ok cluster) same made held = record { made = made plan same; kept = held ∙ sym same }

-- both sides of a load's pair have its one queue
one_queue : (seed frames : ℕ) (side : Side) → IsQueueOf (declared_part (load_of seed frames)) 0 side 0
one_queue seed frames A = record { declared = omega arith; among = omega arith }
one_queue seed frames B = record { declared = omega arith; among = omega arith }

-- Each side of a generated load's pair has queue 0.
pub load_lane_known : (plan kept : Plan) (seed frames : ℕ) (side : Side) → kept ≡ declared_part plan → plan ≡ load_of seed frames → IsQueueOf kept 0 side 0
load_lane_known plan kept seed frames side same is =
    let of_load : (side : Side) → IsQueueOf (declared_part (load_of seed frames)) 0 side 0 = one_queue seed frames in
    let both : kept ≡ declared_part (load_of seed frames) = same ∙ ap declared_part is in
    subst (λ (given : Plan). IsQueueOf given 0 side 0) (sym both) (of_load side)

-- A text that sums up what the log of a load accepted, delivered and blocked is the text that `load` writes.
pub summary_same : {E : Type 0} (seed frames : ℕ) (plan : Plan) (taken given blocked : ℕ) (result : Result (Vec ℕ Global) E) → plan ≡ load_of seed frames →
    taken ≡ length (accepted plan (log_of_plan plan) load_lane 1) → given ≡ length (delivered plan (log_of_plan plan) load_lane 1) →
    blocked ≡ blocked_in (log_of_plan plan) → IfOk result (λ text. text.items ≡ summary_text seed frames taken given blocked) →
    IfOk result (λ text. text.items ≡ load_text seed frames)
summary_same seed frames plan taken given blocked (Err error) is all_taken all_given all_blocked h = tt
summary_same seed frames plan taken given blocked (Ok text) is all_taken all_given all_blocked h =
    let line : Plan → List ℕ = λ made.
    summary_text seed frames (length (accepted made (log_of_plan made) load_lane 1)) (length (delivered made (log_of_plan made) load_lane 1)) (blocked_in (log_of_plan made)) in
    h
    ∙ ap (λ (n : ℕ). summary_text seed frames n given blocked) all_taken
    ∙ ap (λ (n : ℕ). summary_text seed frames (length (accepted plan (log_of_plan plan) load_lane 1)) n blocked) all_given
    ∙ ap (λ (n : ℕ). summary_text seed frames (length (accepted plan (log_of_plan plan) load_lane 1)) (length (delivered plan (log_of_plan plan) load_lane 1)) n) all_blocked
    ∙ ap line is
