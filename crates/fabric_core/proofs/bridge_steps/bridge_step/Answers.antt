use Rattle.fabric_core.proofs.MorePages.{checked_more, more_pages, on_err}
use Rattle.fabric_core.proofs.bridge_steps.bridge_step.Goals as goal

pub returns-in_err-check-in-Check-clause-err : goal.returns-in_err-check-in-Check-clause-err
returns-in_err-check-in-Check-clause-err c =
    on_err _ (more_pages c.args.pair.now c.check.new.pair c.in-Check.side c.in_err-check-in-Check.ensures.err c.check.ensures.pages.stay)

pub returns-in_ok-check-in-Check-clause-after : goal.returns-in_ok-check-in-Check-clause-after
returns-in_ok-check-in-Check-clause-after c =
    rw c.in-Check.is (checked_more c.args.pair.now c.check.new.pair c.in-Check.side c.in_ok-check-in-Check.ensures.after c.check.ensures.pages.stay)
