use Rattle.std.proofs.Common.{◌∙◌, [], ◌∷◌, ◌++◌, List, replicate, sym, subst}
use Rattle.std.specs.List.{All}
use Rattle.std.proofs.lemmas.Result.{on_ok_weaker}
use Rattle.step_kinds.specs.declared.plan.Line.{Line}
use Rattle.step_kinds.specs.declared.plan.Plan.{Plan}
use Rattle.step_kinds.specs.declared.steps.Step.TheVariants.{Ack, Clear, Copy, Look}
use Rattle.pair_model.specs.Switches.{IsMakeable}
use Rattle.step_list.specs.Compact.{lines_with}
use Rattle.cluster_core.specs.Cluster.{plan_held}
use Rattle.cluster_core.specs.PlanSteps.{HasKept}
use Rattle.cluster_core.proofs.PermittedSteps.{lines_received, received_permitted}
use Rattle.cluster_core.proofs.StepsMade.{kept_both}
use Rattle.cluster_core.proofs.steps.make_received.Goals as goal

pub make_step-requires : goal.make_step-requires
make_step-requires g c = (received_permitted (plan_held c.args.cluster.now) c.args.line c.args.pair c.args.side c.args.queue c.args.copies c.requires).0

pub make_again-requires : goal.make_again-requires
make_again-requires g c =
    subst (λ (kept : Plan). All (λ line. IsMakeable kept line.step) (lines_with c.args.line (replicate c.args.copies (Copy c.args.pair c.args.side c.args.queue)))) (sym c.in_ok-make_step.ensures.plan)
    (received_permitted (plan_held c.args.cluster.now) c.args.line c.args.pair c.args.side c.args.queue c.args.copies c.requires).1

pub make_step-requires-2 : goal.make_step-requires-2
make_step-requires-2 g c =
    subst (λ (kept : Plan). IsMakeable kept (Clear c.args.pair c.args.side c.args.queue)) (sym (c.in_ok-make_again.ensures.plan ∙ c.in_ok-make_step.ensures.plan))
    (received_permitted (plan_held c.args.cluster.now) c.args.line c.args.pair c.args.side c.args.queue c.args.copies c.requires).2

pub make_step-requires-3 : goal.make_step-requires-3
make_step-requires-3 g c =
    subst (λ (kept : Plan). IsMakeable kept (Ack c.args.pair c.args.side c.args.queue)) (sym (c.in_ok-make_step-2.ensures.plan ∙ c.in_ok-make_again.ensures.plan ∙ c.in_ok-make_step.ensures.plan))
    (received_permitted (plan_held c.args.cluster.now) c.args.line c.args.pair c.args.side c.args.queue c.args.copies c.requires).3

pub returns-clause-kept : goal.returns-clause-kept
returns-clause-kept g c =
    λ plan before replayed.
    let with_answer = g.K.KeepsAnswers.with_answer in
    let old = c.args.kept.now in
    let look : List Line = lines_with c.args.line (Look c.args.pair c.args.side c.args.queue ∷ []) in
    let copies : List Line = lines_with c.args.line (replicate c.args.copies (Copy c.args.pair c.args.side c.args.queue)) in
    let clear : List Line = lines_with c.args.line (Clear c.args.pair c.args.side c.args.queue ∷ []) in
    let ack : List Line = lines_with c.args.line (Ack c.args.pair c.args.side c.args.queue ∷ []) in
    let looked = c.in_ok-make_step.ensures.kept plan before replayed in
    let copied =
    kept_both with_answer plan before look copies c.make_step.new.cluster c.make_again.new.cluster old c.make_step.new.kept c.make_again.new.kept looked
    (c.in_ok-make_again.ensures.kept plan (before ++ look) looked.replayed) in
    let cleared =
    kept_both with_answer plan before (look ++ copies) clear c.make_again.new.cluster c.make_step-2.new.cluster old c.make_again.new.kept c.make_step-2.new.kept copied
    (c.in_ok-make_step-2.ensures.kept plan (before ++ (look ++ copies)) copied.replayed) in
    on_ok_weaker c.make_step-3.result
    (λ acked.
    subst (λ (lines : List Line). HasKept with_answer plan before lines c.make_step-3.new.cluster old c.make_step-3.new.kept)
    (sym (lines_received c.args.line c.args.pair c.args.side c.args.queue c.args.copies))
    (kept_both with_answer plan before ((look ++ copies) ++ clear) ack c.make_step-2.new.cluster c.make_step-3.new.cluster old c.make_step-2.new.kept c.make_step-3.new.kept cleared acked))
    (c.make_step-3.ensures.kept plan (before ++ ((look ++ copies) ++ clear)) cleared.replayed)
