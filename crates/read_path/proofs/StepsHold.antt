-- Each step keeps what holds of the log and the path.
use Rattle.std.proofs.Common.{◌≡◌, ℕ, ◌+◌, ◌==◌, Bool, true, false, Option, Some, None, List, [], ◌∷◌, ◌++◌, refl, sym, subst, arith}
use Rattle.std.proofs.lemmas.List.Sums.{fold-append}
use Rattle.step_kinds.specs.declared.names.Side.{Side}
use Rattle.step_kinds.specs.declared.names.Side.TheVariants.{A, B}
use Rattle.pair_model.specs.Both.{Both, at_side}
use Rattle.step_kinds.specs.Limits.{most_sessions}
use Rattle.pair_model.specs.Link.{is_up, refused_where}
use Rattle.pair_model.specs.declared.LinkState.{LinkState}
use Rattle.pair_model.specs.declared.LinkState.TheVariants.{Down, Up, Closing}
use Rattle.pair_model.specs.declared.LinkRefusal.{LinkRefusal}
use Rattle.pair_model.specs.declared.LinkRefusal.TheVariants.{SessionsSpent}
use Rattle.read_path.specs.Path.{PathState, SideState, fresh_path, unless}
use Rattle.read_path.specs.PathLog.{PathEntry, path_answer_to, path_after_step}
use Rattle.read_path.specs.Pushed.{Told, told_of, told_at_start, told_after, with_step, path_with_link, read_entry}
use Rattle.read_path.specs.declared.steps.PathStep.{PathStep}
use Rattle.read_path.specs.declared.steps.PathStep.TheVariants.{Write, Read, Land, Show, Break, DropDone, Relink}
use Rattle.read_path.specs.declared.steps.PathAnswer.TheVariants.{Wrote, Linked}
use Rattle.read_path.specs.declared.steps.PostAnswer.TheVariants.{Ok as PostOk}
use Rattle.read_path.proofs.Holds.{SideHolds, Holds}
use Rattle.read_path.proofs.SidesHold.{all_within, by_side, side_same, side_posts, side_asks, side_drops}
use Rattle.read_path.proofs.Landings.{nothing_changes, landing_holds}

abbrev path_with : LinkState → ℕ → Both SideState → PathState
path_with link session sides = record { link = link; session = session; sides = sides }

-- what a step makes of a log
abbrev entry_of : PathState → PathStep → PathEntry
entry_of path step = record { step = step; answer = path_answer_to path step }

-- what a step has to keep
abbrev StepHolds : List PathEntry → PathState → PathStep → Type 0
StepHolds log path step = Holds (log ++ entry_of path step ∷ []) (told_after (told_of log) (entry_of path step)) (path_after_step path step)

-- a side of which a step says nothing
other_same : (log : List PathEntry) (e : PathEntry) (path : PathState) (side : Side) → Holds log (told_of log) path
    → SideHolds (log ++ e ∷ []) (told_of log).dropped (told_of log).landed side (at_side (told_of log).sides side) (at_side path.sides side)
other_same log e path side holds =
    side_same log e (told_of log).dropped (told_of log).landed (told_of log).landed side (at_side (told_of log).sides side) (at_side path.sides side) (all_within (told_of log).landed) (holds.sides side)

write_holds : (log : List PathEntry) (link : LinkState) (session : ℕ) (sides : Both SideState) (side : Side) (at : ℕ) (bytes : List ℕ) (relaxed : Bool)
    → Holds log (told_of log) (path_with link session sides) → StepHolds log (path_with link session sides) (Write side at bytes relaxed)
write_holds log Down session sides side at bytes relaxed holds = nothing_changes log _ _ holds
write_holds log Closing session sides side at bytes relaxed holds = nothing_changes log _ _ holds
write_holds log Up session sides A at bytes relaxed holds =
    let told = told_of log in
    let e : PathEntry = record { step = Write A at bytes relaxed; answer = Wrote PostOk } in
    record {
      up = holds.up;
      sides = by_side _ (side_posts log e told.dropped told.landed A told.sides.a sides.a told.made at bytes relaxed (holds.sides A)) (other_same log e (path_with Up session sides) B holds);
    }
write_holds log Up session sides B at bytes relaxed holds =
    let told = told_of log in
    let e : PathEntry = record { step = Write B at bytes relaxed; answer = Wrote PostOk } in
    record {
      up = holds.up;
      sides = by_side _ (other_same log e (path_with Up session sides) A holds) (side_posts log e told.dropped told.landed B told.sides.b sides.b told.made at bytes relaxed (holds.sides B));
    }

read_holds : (log : List PathEntry) (link : LinkState) (session : ℕ) (sides : Both SideState) (side : Side) (at len : ℕ)
    → Holds log (told_of log) (path_with link session sides) → StepHolds log (path_with link session sides) (Read side at len)
read_holds log Down session sides side at len holds = nothing_changes log _ _ holds
read_holds log Closing session sides side at len holds = nothing_changes log _ _ holds
read_holds log Up session sides A at len holds =
    let told = told_of log in
    record {
      up = holds.up;
      sides =
          by_side _ (side_asks log told.dropped told.landed A told.sides.a sides.a told.made at len refl refl (holds.sides A))
          (other_same log (read_entry A at len sides.a.reads) (path_with Up session sides) B holds);
    }
read_holds log Up session sides B at len holds =
    let told = told_of log in
    record {
      up = holds.up;
      sides =
          by_side _ (other_same log (read_entry B at len sides.b.reads) (path_with Up session sides) A holds)
          (side_asks log told.dropped told.landed B told.sides.b sides.b told.made at len refl refl (holds.sides B));
    }

-- the link comes up or is lost, and no side changes
link_holds : (log : List PathEntry) (e : PathEntry) (path : PathState) (link : LinkState) (session : ℕ) (up : Bool) → up ≡ is_up link → Holds log (told_of log) path
    → Holds (log ++ e ∷ []) (with_step (path_with_link (told_of log) up)) (path_with link session path.sides)
link_holds log e path link session up same holds = record { up = same; sides = λ side. other_same log e path side holds }

break_holds : (log : List PathEntry) (link : LinkState) (session : ℕ) (sides : Both SideState) → Holds log (told_of log) (path_with link session sides) → StepHolds log (path_with link session sides) Break
break_holds log Down session sides holds = nothing_changes log _ _ holds
break_holds log Closing session sides holds = nothing_changes log _ _ holds
break_holds log Up session sides holds = link_holds log _ (path_with Up session sides) Closing session false refl holds

drop_holds : (log : List PathEntry) (link : LinkState) (session : ℕ) (sides : Both SideState) → Holds log (told_of log) (path_with link session sides) → StepHolds log (path_with link session sides) DropDone
drop_holds log Down session sides holds = nothing_changes log _ _ holds
drop_holds log Up session sides holds = nothing_changes log _ _ holds
drop_holds log Closing session sides holds =
    let told = told_of log in
    let e : PathEntry = record { step = DropDone; answer = Linked None } in
    record {
      up = holds.up;
      sides =
          by_side _ (side_drops (log ++ e ∷ []) (told.dropped + 1) told.landed A told.sides.a sides.a (holds.sides A).memory)
          (side_drops (log ++ e ∷ []) (told.dropped + 1) told.landed B told.sides.b sides.b (holds.sides B).memory);
    }

-- what a relink has to keep, if the sessions are spent or aren't
abbrev RelinkHolds : List PathEntry → PathState → Option LinkRefusal → Type 0
RelinkHolds log path refusal =
    Holds (log ++ record { step = Relink; answer = Linked refusal } ∷ []) (told_after (told_of log) (record { step = Relink; answer = Linked refusal }))
    (unless refusal path (path_with Up (path.session + 1) path.sides))

relink_holds : (log : List PathEntry) (link : LinkState) (session : ℕ) (sides : Both SideState) → Holds log (told_of log) (path_with link session sides) → StepHolds log (path_with link session sides) Relink
relink_holds log Up session sides holds = nothing_changes log _ _ holds
relink_holds log Closing session sides holds = nothing_changes log _ _ holds
relink_holds log Down session sides holds = by_refusal (refused_where (session == most_sessions) SessionsSpent None) where
  by_refusal : (refusal : Option LinkRefusal) → RelinkHolds log (path_with Down session sides) refusal
  by_refusal None = link_holds log _ (path_with Down session sides) Up (session + 1) true refl holds
  by_refusal (Some refusal) = nothing_changes log _ _ holds

step_holds : (log : List PathEntry) (path : PathState) (step : PathStep) → Holds log (told_of log) path → StepHolds log path step
step_holds log path (Write side at bytes relaxed) holds = write_holds log path.link path.session path.sides side at bytes relaxed holds
step_holds log path (Read side at len) holds = read_holds log path.link path.session path.sides side at len holds
step_holds log path (Land side place) holds = landing_holds log path side place holds
step_holds log path (Show side at len) holds = nothing_changes log _ path holds
step_holds log path Break holds = break_holds log path.link path.session path.sides holds
step_holds log path DropDone holds = drop_holds log path.link path.session path.sides holds
step_holds log path Relink holds = relink_holds log path.link path.session path.sides holds

-- what holds before a step holds after it
pub after_one : (log : List PathEntry) (path : PathState) (step : PathStep) → Holds log (told_of log) path → Holds (log ++ entry_of path step ∷ []) (told_of (log ++ entry_of path step ∷ [])) (path_after_step path step)
after_one log path step holds =
    subst (λ (told : Told). Holds (log ++ entry_of path step ∷ []) told (path_after_step path step)) (sym (fold-append told_after told_at_start log (entry_of path step ∷ []))) (step_holds log path step holds)

-- it holds at the start
pub at_start : Holds [] (told_of []) fresh_path
at_start = record {
  up = refl;
  sides = by_side _ (record { memory = refl; flight = refl; facts = tt; writes = λ w none. absurd (omega (arith, none.1)) }) (record { memory = refl; flight = refl; facts = tt; writes = λ w none. absurd (omega (arith, none.1)) });
}
