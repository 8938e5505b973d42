use Rattle.std.proofs.Common.{◌≡◌, length, take}
use Rattle.step_list.specs.StepLists.{all_lines}
use Rattle.ntb_top.proofs.check.steps_in.Given as goal

abbrev pub invariant-loop-stretch : goal.invariant-loop-stretch
invariant-loop-stretch l = l.steps ≡ length (all_lines (take l.stretch-index l.stretches))
