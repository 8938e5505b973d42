use Rattle.std.proofs.Common.{◌≡◌, ◌∙◌, ◌+◌, ◌-◌, ◌^◌, ◌≤◌, min, sym, arith}
use Rattle.replay_command.proofs.BlockedAnswers.{blocked_times, others_times}
use Rattle.replay_command.proofs.load.BlockedCountKeepsAnswers.keep_times.Goals as goal

pub returns-then-is_blocked : goal.returns-then-is_blocked
returns-then-is_blocked c =
    let most : c.args.self.now ≤ 2 ^ 64 - 1 = omega arith in
    let sum : c.saturating_add-self-inside.result ≡ min (c.args.self.now + c.args.count) (2 ^ 64 - 1) = omega (arith, c.saturating_add-self-inside.ensures, c.from.ensures, c.self.view_is) in
    sum ∙ sym (blocked_times (record { step = c.args._step.now; made = c.args.made.now }) c.args.count c.args.self.now (sym c.is_blocked.ensures ∙ c.if-is_blocked.true) most)

pub returns-else-is_blocked : goal.returns-else-is_blocked
returns-else-is_blocked c = sym (others_times (record { step = c.args._step.now; made = c.args.made.now }) c.args.count c.args.self.now (sym c.is_blocked.ensures ∙ c.if-is_blocked.false))
