use Rattle.std.proofs.Common.{◌∙◌, ap}
use Rattle.script_words.specs.Before.{has_name}
use Rattle.script_plan.proofs.NameNumbers.{list_any-named}
use Rattle.script_plan.proofs.names.Names.contains.Goals as goal

pub returns : goal.returns
returns c = c.contains.ensures ∙ (list_any-named (λ k. k.items) c.args.name.now c.self.inside.names.keys ∙ ap (λ names. has_name names c.args.name.now) c.self.view_is)
