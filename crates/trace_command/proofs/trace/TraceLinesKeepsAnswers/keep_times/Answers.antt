use Rattle.std.proofs.Common.{◌≡◌, ◌∙◌, ◌++◌, ℕ, List, ap, arith, replicate}
use Rattle.std.specs.List.{fold}
use Rattle.step_kinds.specs.AnsweredSteps.{AnsweredStep}
use Rattle.trace_command.specs.Trace.{Traced, with_line}
use Rattle.trace_command.proofs.RefusedLines.{line_apart, line_more, traced_is}
use Rattle.trace_command.proofs.trace.TraceLinesKeepsAnswers.keep_times.Goals as goal

pub loop-preserved : goal.loop-preserved
loop-preserved c =
    let answered : AnsweredStep = record { step = c.args.step.now; made = c.args.made.now } in
    record {
      plan = c.loop.invariant.plan;
      writes = c.loop.invariant.writes;
      line = c.loop.invariant.line;
      text =
          c.in_ok-extend_from_slice.ensures.items
          ∙ ap (λ (line : List ℕ). c.loop.self-inside.text.items ++ line) (c.deref.ensures.value ∙ c.loop.invariant.line)
          ∙ line_more c.args.self.now answered c.loop.counter c.loop.self-inside.text.items c.requires c.loop.invariant.text;
    }

pub returns : goal.returns
returns c =
    let answered : AnsweredStep = record { step = c.args.step.now; made = c.args.made.now } in
    let all : c.loop.counter ≡ c.args.count = omega arith in
    traced_is c.args.self.now answered c.args.count _ _ _ c.requires c.loop.invariant.plan c.loop.invariant.writes
    (c.loop.invariant.text ∙ ap (λ (count : ℕ). (fold with_line c.args.self.now (replicate count answered)).text) all)

pub loop-init : goal.loop-init
loop-init c = record {
  plan = ap (λ (traced : Traced). traced.plan) c.self.view_is;
  writes = ap (λ (traced : Traced). traced.writes) c.self.view_is;
  line = line_apart _ c.args.self.now c.args.step.now c.args.made.now _ _ c.self.view_is c.clear.ensures.items c.in_ok-push_step_line.ensures;
  text = ap (λ (traced : Traced). traced.text) c.self.view_is;
}
