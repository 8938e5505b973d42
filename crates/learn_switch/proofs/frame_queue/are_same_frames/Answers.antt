use Rattle.std.proofs.Common.{◌≡◌, [], length, refl, arith}
use Rattle.std.proofs.lemmas.List.{ext_get_or}
use Rattle.learn_switch.proofs.frame_queue.are_same_frames.Goals as goal

pub returns : goal.returns
returns c =
    let frames = c.args.frames.now.items in
    let others = c.args.others.now.items in
    let count : length frames ≡ length others = omega (arith, c.len.ensures, c.len-2.ensures, c.if-len.false) in (
      λ yes. ext_get_or [] frames others count (λ k less. c.loop-place.invariant k (omega (arith, less, c.len-place-end.ensures, c.loop-place-test.false))),
      λ same. refl,
    )
