use Rattle.std.proofs.Common.{◌≡◌, ap, ◌∙◌, arith}
use Rattle.pair_model.specs.Plans.{side_plan}
use Rattle.step_kinds.specs.declared.plan.PairPlan.{PairPlan}
use Rattle.step_kinds.specs.declared.plan.SidePlan.{SidePlan}
use Rattle.bridge_pair.specs.declared.book.SideBook.{SideBook}
use Rattle.hand_shake.proofs.OwnOffers.{some_left}
use Rattle.hand_shake.proofs.offers.next_pad.Goals as goal

pub offered_pad-requires-clause-within : goal.offered_pad-requires-clause-within
offered_pad-requires-clause-within c =
    let own : c.side_plan.result ≡ side_plan c.args.pair.now.plan c.args.side = c.side_plan.ensures ∙ ap (λ (plan : PairPlan). side_plan plan c.args.side) c.plan.ensures.value in
    let left = some_left c.args.pair.now c.args.side c.plan.ensures.law c.requires in
    let windows = ap (λ (own : SidePlan). own.windows) own in
    let offered = ap (λ (book : SideBook). book.offered) c.book.ensures.value in
    omega (arith, left.0, windows, offered)

pub returns-clause-left : goal.returns-clause-left
returns-clause-left c = (some_left c.args.pair.now c.args.side c.plan.ensures.law c.requires).0

pub returns-clause-few : goal.returns-clause-few
returns-clause-few c = (some_left c.args.pair.now c.args.side c.plan.ensures.law c.requires).1
