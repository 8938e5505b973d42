use Rattle.explore_model.specs.Texts.{differing_line}
use Rattle.explore_command.proofs.Ranges.{text_more}
use Rattle.explore_command.proofs.text.push_differing.Goals as goal

pub loop-k-preserved : goal.loop-k-preserved
loop-k-preserved c =
    text_more (differing_line c.args.plan.now c.args.outcomes.now c.args.outcome.now) c.loop-k.k c.loop-k.text.items c.push_unless.new.text.items c.args.text.now.items
    c.loop-k.invariant (c.in_ok-push_unless.ensures c.args.outcomes.now c.was_agreed.ensures)
