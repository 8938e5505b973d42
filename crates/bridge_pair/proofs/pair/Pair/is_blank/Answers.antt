use Rattle.bridge_pair.proofs.pair.Pair.is_blank.Goals as goal

pub returns-in-A-clause-absent : goal.returns-in-A-clause-absent
returns-in-A-clause-absent c = rw (c.in-A.is, ← c.self.view_is) c.is_blank.ensures.absent

pub returns-in-B-clause-absent : goal.returns-in-B-clause-absent
returns-in-B-clause-absent c = rw (c.in-B.is, ← c.self.view_is) c.is_blank-in-B.ensures.absent
