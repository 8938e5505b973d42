use Rattle.std.proofs.Common.{arith}
use Rattle.std.proofs.lemmas.List.Folds.{length-flat_map-take}
use Rattle.step_list.specs.StepLists.{lines_in}
use Rattle.ntb_top.proofs.check.steps_in.Goals as goal
use Rattle.ntb_top.proofs.check.steps_in.Goals.{in-One, in-Again, in-Received}

pub overflow_add-steps-in-loop-stretch : goal.overflow_add-steps-in-loop-stretch
overflow_add-steps-in-loop-stretch c =
    let so_far = length-flat_map-take lines_in c.args.stretches.now c.loop-stretch.stretch-index c.stretch-item.result (omega arith) in
    elim c.match-stretch.branch [
      | in-One w ↦ omega (arith, so_far)
      | in-Again w ↦ omega (arith, so_far)
      | in-Received w ↦ omega (arith, so_far)
    ]
