use Rattle.std.proofs.Common.{[], ◌∷◌, ◌++◌, ◌+◌, take, ap, ◌∙◌, append_assoc, arith}
use Rattle.std.specs.Fmt.{decimal}
use Rattle.trace_command.proofs.Numbers.{numbers_first, numbers_more}
use Rattle.trace_command.proofs.Texts.{grown}
use Rattle.trace_command.specs.Words.{separated}
use Rattle.trace_command.specs.Writes.{numbers_in, write_at}
use Rattle.trace_command.proofs.members.push_numbers_in.Goals as goal
use Rattle.trace_command.proofs.members.push_numbers_in.Goals.{then-place-gt0+in_ok-push_word-2, else-place-gt0}

pub loop-place-preserved : goal.loop-place-preserved
loop-place-preserved c =
    let flight = c.args.side.now.flight in
    let place = c.loop-place.place in
    let n = (write_at flight place).number in
    let text = c.loop-place.text.items in
    let new = c.push_number.new.text.items in
    let old = c.push_word.new.text.items in
    let before = separated (numbers_in (take place flight)) in
    let after = separated (numbers_in (take (place + 1) flight)) in
    let added = ap (λ write. c.if-place-gt0.text.items ++ decimal write.number) c.write_at.ensures in
    elim c.if-place-gt0.branch [
      | then-place-gt0+in_ok-push_word-2 w ↦
          grown text new old before (44 ∷ decimal n) after c.loop-place.invariant
          (c.in_ok-push_number.ensures ∙ added ∙ ap (λ t. t ++ decimal n) (ap (λ t. t.items) w.text-is ∙ w.in_ok-push_word-2.ensures) ∙ append_assoc text (44 ∷ []) (decimal n))
          (numbers_more flight place (omega arith) (omega arith))
      | else-place-gt0 w ↦
          grown text new old before (decimal n) after c.loop-place.invariant
          (c.in_ok-push_number.ensures ∙ added ∙ ap (λ t. t.items ++ decimal n) w.text-is)
          (numbers_first flight place (omega arith) (omega arith))
    ]
