use Rattle.std.proofs.Common.{◌≡◌, ◌∙◌, ℕ, ◌+◌, [], List, ap, sym, subst, arith, inl}
use Rattle.std.specs.List.{All, flat_map, range_with_len}
use Rattle.std.proofs.lemmas.List.Elements.{All-weaker}
use Rattle.step_kinds.specs.declared.plan.Line.{Line}
use Rattle.pair_model.specs.DeclaredPlans.{IsPermitted}
use Rattle.pair_model.specs.Switches.{IsMakeable}
use Rattle.traffic_plan.specs.Load.{LoadGiven, frames_given, lines_of_frame, load_of, load_plan_of}
use Rattle.traffic_plan.proofs.Facade.{frames_more, lines_permitted, load_is_whole}
use Rattle.cluster_core.specs.PlanSteps.{HasKept}
use Rattle.replay_command.specs.Replays.{with_blocked}
use Rattle.replay_command.proofs.BlockedAnswers.{blocked_counted, blocked_in}
use Rattle.cluster_core.proofs.Facade.{kept_both, length-answers, steps_permitted}
use Rattle.replay_command.proofs.load.count_blocked.Goals as goal

-- the steps of the next frame
next_lines : (seed k : ℕ) (load : LoadGiven) (new : List Line) → load ≡ frames_given seed k → new ≡ lines_of_frame load.seed load.given → new ≡ lines_of_frame seed k
next_lines seed k load new given is = is ∙ ap (λ (load : LoadGiven). lines_of_frame load.seed load.given) given

pub make_steps-requires : goal.make_steps-requires
make_steps-requires c =
    let seed = c.args.seed in
    let k = c.loop.counter in
    let own = next_lines seed k c.loop.load c.put_next.new.steps c.loop.invariant.load c.in_ok-put_next.ensures.steps in
    let permitted : All (λ line. IsPermitted (load_plan_of []) line.step) c.put_next.new.steps =
    subst (λ (lines : List Line). All (λ line. IsPermitted (load_plan_of []) line.step) lines) (sym own) (lines_permitted [] seed k) in
    let may = All-weaker (λ (line : Line). IsPermitted (load_plan_of []) line.step) (λ line. IsMakeable (load_plan_of []) line.step) (λ line may. inl may) c.put_next.new.steps permitted in
    steps_permitted (load_plan_of []) _ c.put_next.new.steps c.loop.invariant.kept.replayed.kept may

pub loop-preserved : goal.loop-preserved
loop-preserved c =
    let seed = c.args.seed in
    let k = c.loop.counter in
    let plan = load_of seed c.args.frames in
    let before : List Line = flat_map (lines_of_frame seed) (range_with_len 0 k) in
    let own = next_lines seed k c.loop.load c.put_next.new.steps c.loop.invariant.load c.in_ok-put_next.ensures.steps in
    let so_far = c.loop.invariant.kept in
    let next : HasKept with_blocked plan before (lines_of_frame seed k) c.make_steps.new.cluster c.loop.blocked c.make_steps.new.kept =
    subst (λ (lines : List Line). HasKept with_blocked plan before lines c.make_steps.new.cluster c.loop.blocked c.make_steps.new.kept) own
    (c.in_ok-make_steps.ensures.kept plan before so_far.replayed) in
    record {
      load = c.in_ok-put_next.ensures.given ∙ ap (λ (load : LoadGiven). frames_given load.seed (load.given + 1)) c.loop.invariant.load;
      kept =
          subst (λ (lines : List Line). HasKept with_blocked plan [] lines c.make_steps.new.cluster 0 c.make_steps.new.kept) (sym (frames_more (lines_of_frame seed) k))
          (kept_both with_blocked plan [] before (lines_of_frame seed k) c.loop.cluster c.make_steps.new.cluster 0 c.loop.blocked c.make_steps.new.kept so_far next);
    }

pub returns-clause-blocked : goal.returns-clause-blocked
returns-clause-blocked c =
    let seed = c.args.seed in
    let plan = load_of seed c.args.frames in
    let all : c.loop.counter ≡ c.args.frames = omega arith in
    let made : HasKept with_blocked plan [] plan.steps c.loop.cluster 0 c.loop.blocked =
    subst (λ (n : ℕ). HasKept with_blocked plan [] (flat_map (lines_of_frame seed) (range_with_len 0 n)) c.loop.cluster 0 c.loop.blocked) all c.loop.invariant.kept in
    let same = length-answers plan [] plan.steps made.answers made.log in
    let few = (load_is_whole seed c.args.frames c.requires.few).few_steps in
    c.blocked.view_is ∙ made.kept ∙ blocked_counted plan.steps made.answers 0 same (omega arith) ∙ ap blocked_in (sym made.log)
