use Rattle.std.proofs.Common.{◌≡◌, ◌+◌, ◌*◌, ◌==◌, ap, ◌∙◌, sym}
use Rattle.pair_model.specs.Plans.{side_plan}
use Rattle.step_kinds.specs.declared.plan.PairPlan.{PairPlan}
use Rattle.step_kinds.specs.declared.plan.SidePlan.{SidePlan}
use Rattle.bridge_pair.specs.Bridge.{book_of}
use Rattle.bridge_pair.specs.declared.book.SideBook.{SideBook}
use Rattle.hand_shake.proofs.OwnOffers.{own_length}
use Rattle.hand_shake.proofs.offers.is_whole.Goals as goal

pub returns : goal.returns
returns c =
    let own : c.side_plan.result ≡ side_plan c.args.pair.now.plan c.args.side = c.side_plan.ensures ∙ ap (λ (plan : PairPlan). side_plan plan c.args.side) c.plan.ensures.value in
    let whole = own_length c.args.pair.now.plan c.args.side c.plan.ensures.law.plan in
    ap (λ (own : SidePlan). c.book.result.offered == 2 * own.windows + 3) own
    ∙ ap (λ (book : SideBook). book.offered == 2 * (side_plan c.args.pair.now.plan c.args.side).windows + 3) c.book.ensures.value
    ∙ ap (λ count. (book_of c.args.pair.now c.args.side).offered == count) (sym whole)
