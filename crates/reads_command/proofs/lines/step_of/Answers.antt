use Rattle.std.proofs.Common.{map}
use Rattle.std.proofs.lemmas.List.{length-map}
use Rattle.reads_command.proofs.LineLemmas.{step_long}
use Rattle.reads_command.proofs.lines.step_of.Goals as goal

pub returns-in_default-clause-step : goal.returns-in_default-clause-step
returns-in_default-clause-step c = step_long (map (λ word. word.now) c.args.words.now) (rw (length-map c.args.words.now (λ word. word.now)) c.in_default.len_at_least)
