use Rattle.std.proofs.Common.{◌≡◌, ◌*◌, ◌/◌, ◌%◌, ◌^◌, ◌++◌, map}
use Rattle.std.specs.List.{range_with_len}
use Rattle.step_kinds.specs.declared.names.Side.TheVariants.{A}
use Rattle.step_kinds.specs.declared.steps.Step.TheVariants.{Land}
use Rattle.step_list.specs.Compact.{lines_with}
use Rattle.traffic_plan.proofs.steps.push_landings.Given as goal

abbrev pub invariant-loop-i : goal.invariant-loop-i
invariant-loop-i l = l.steps ≡ l.fn.steps ++ lines_with l.line (map (λ i. Land 0 A (l.word / 2 ^ (8 * i) % 4)) (range_with_len 0 l.i))
