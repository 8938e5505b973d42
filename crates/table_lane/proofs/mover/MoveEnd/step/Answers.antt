use Rattle.std.proofs.Common.{◌≡◌, ℕ, ◌+◌, ◌%◌, ◌<◌, ◌≤◌, Bool, true, false, length, refl, arith, sym, ap, ◌∙◌, subst, if◌then◌else◌}
use mir.Val.{bool_byte}
use Rattle.table_lane.specs.declared.parts.MovePart.{MovePart}
use Rattle.table_lane.specs.MoveChoice.{open_moves}
use Rattle.table_lane.proofs.FirstMove.{makes_first, open_length}
use Rattle.table_lane.proofs.mover.MoveEnd.step.Goals as goal

byte_of : (b : Bool) → bool_byte b ≡ (if b then 1 else 0)
byte_of true = refl
byte_of false = refl

pub returns-clause-moves : goal.returns-clause-moves
returns-clause-moves c =
    let part : MovePart = c.args.self.now.part in
    let total : c.waiting_count.result + c.from.result ≡ length (open_moves part) =
    (λ i. c.waiting_count.ensures.value i + (c.from.ensures ∙ ap bool_byte c.is_flag_open.ensures ∙ byte_of _) i) ∙ sym (open_length part) in
    let chosen : c.waiting_count.result + c.from.result ≤ c.args.choice % (c.waiting_count.result + c.from.result + 1) = subst (λ (k : ℕ). c.waiting_count.result + c.from.result ≤ k) c.reduced-chosen.ensures c.if-chosen-open.false in
    let past : length (open_moves part) ≤ c.args.choice % (length (open_moves part) + 1) = subst (λ (k : ℕ). k ≤ c.args.choice % (k + 1)) total chosen in
    let some : 0 < length (open_moves part) = let none = c.if-open-eq0.false in omega arith in
    let told = c.if-take_posted.ensures in
    makes_first part c.take_posted.new.self.part c.make-2.new.self.part c.take_posted.new.self.part.posted c.args.choice c.make-2.result told.knows (sym told.found) past some c.make-2.ensures.makes
