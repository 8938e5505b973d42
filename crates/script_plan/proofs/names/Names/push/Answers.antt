use Rattle.script_plan.proofs.NameNumbers.{named-last}
use Rattle.script_plan.proofs.names.Names.push.Goals as goal

pub returns-clause-ok : goal.returns-clause-ok
returns-clause-ok c =
    named-last (λ k. k.items) c.args.name.now c.self.inside.names.keys c.insert.new.self.keys c.in_ok-kept.kept c.args.self.now c.self.view_is c.in_ok-kept.ensures.items
    c.requires.new c.in_ok-insert.ensures.keys
