use Rattle.std.proofs.Common.{sym, ◌∙◌}
use Rattle.hand_shake.proofs.ComingUp.{where_up}
use Rattle.hand_shake.proofs.checks.check.Goals as goal

pub returns-in_err-come_up-clause-pages : goal.returns-in_err-come_up-clause-pages
returns-in_err-come_up-clause-pages c = where_up c.args.pair.now c.args.side _ _ (sym c.check_answer-answer.ensures ∙ c.in-Up.is) c.come_up.ensures.pages

pub returns-in_ok-come_up-clause-pages : goal.returns-in_ok-come_up-clause-pages
returns-in_ok-come_up-clause-pages c = where_up c.args.pair.now c.args.side _ _ (sym c.check_answer-answer.ensures ∙ c.in-Up.is) c.come_up.ensures.pages
