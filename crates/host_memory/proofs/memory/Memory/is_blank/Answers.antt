use Rattle.host_memory.proofs.Blank.{told_blank}
use Rattle.host_memory.proofs.memory.Memory.is_blank.Goals as goal

pub returns-then-len-last-clause-absent : goal.returns-then-len-last-clause-absent
returns-then-len-last-clause-absent c =
    (told_blank c.self.inside c.args.self.now c.args.at c.args.len c.promises_none.result c.self.invariant c.self.view_is c.requires c.if-len-eq0.false c.promises_none.ensures).0

pub returns-then-len-last-clause-zeros : goal.returns-then-len-last-clause-zeros
returns-then-len-last-clause-zeros c =
    (told_blank c.self.inside c.args.self.now c.args.at c.args.len c.promises_none.result c.self.invariant c.self.view_is c.requires c.if-len-eq0.false c.promises_none.ensures).1

pub returns-else-len-last-clause-absent : goal.returns-else-len-last-clause-absent
returns-else-len-last-clause-absent c =
    (told_blank c.self.inside c.args.self.now c.args.at c.args.len c.has_none.result c.self.invariant c.self.view_is c.requires c.if-len-eq0.false c.has_none.ensures).0

pub returns-else-len-last-clause-zeros : goal.returns-else-len-last-clause-zeros
returns-else-len-last-clause-zeros c =
    (told_blank c.self.inside c.args.self.now c.args.at c.args.len c.has_none.result c.self.invariant c.self.view_is c.requires c.if-len-eq0.false c.has_none.ensures).1
