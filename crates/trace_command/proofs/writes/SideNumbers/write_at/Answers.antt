use Rattle.std.proofs.Common.{ap, ◌∙◌}
use Rattle.std.proofs.lemmas.Option.{unwrap_or-slice_get}
use Rattle.std.specs.List.{slice_get}
use Rattle.std.specs.Option.{unwrap_or}
use Rattle.trace_command.specs.Writes.{no_write}
use Rattle.trace_command.proofs.writes.SideNumbers.write_at.Goals as goal

pub returns : goal.returns
returns c =
    let within = c.copied.ensures ∙ c.label_at.ensures.write ∙ ap (λ side. slice_get side.flight c.args.place) c.self.view_is in
    c.unwrap_or.ensures ∙ ap (λ found. unwrap_or found no_write) within ∙ unwrap_or-slice_get c.args.self.now.flight c.args.place no_write
