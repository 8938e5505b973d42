use Rattle.read_path.proofs.PathLemmas.{a_seen, b_seen}
use Rattle.read_path.proofs.path.Path.land.Goals as goal

pub returns-in-A-clause-after : goal.returns-in-A-clause-after
returns-in-A-clause-after c =
    a_seen c.self.inside.link.state c.self.inside.link.session c.self.inside.a c.self.inside.b c.land_between.new.from c.land_between.new.to c.args.self.now c.args.side c.args.place c.is_up-up.result
    c.self.view_is c.in-A.is c.is_up-up.ensures c.land_between.ensures.from c.land_between.ensures.to

pub returns-in-B-clause-after : goal.returns-in-B-clause-after
returns-in-B-clause-after c =
    b_seen c.self.inside.link.state c.self.inside.link.session c.self.inside.a c.self.inside.b c.land_between-in-B.new.to c.land_between-in-B.new.from c.args.self.now c.args.side c.args.place c.is_up-up.result
    c.self.view_is c.in-B.is c.is_up-up.ensures c.land_between-in-B.ensures.from c.land_between-in-B.ensures.to
