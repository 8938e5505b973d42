use Rattle.std.proofs.Common.{sym, ◌∙◌}
use Rattle.pair_model.proofs.Facade.{found-port}
use Rattle.learn_switch.proofs.switch.route.Goals as goal

pub returns-in-Some-2-clause-below : goal.returns-in-Some-2-clause-below
returns-in-Some-2-clause-below c =
    found-port c.args.ports c.args.fdb.now c.args.header.now.src c.args.port c.args.header.now.dst c.in-Some.target c.requires.stations c.requires.port
    (sym c.in-Some.is ∙ c.lookup_with.ensures)
