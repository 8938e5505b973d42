use Rattle.std.proofs.Common.{IsTrue, ◌↔◌, subst}
use Rattle.host_memory.specs.Memory.{AreAbsent}
use Rattle.bridge_pair.specs.Ends.{End}
use Rattle.bridge_pair.proofs.endpoint.Endpoint.is_blank.Goals as goal

pub returns-clause-absent : goal.returns-clause-absent
returns-clause-absent c =
    subst (λ (end : End). IsTrue c.is_blank.result ↔ AreAbsent c.args.at c.args.len end.memory.promised) c.self.view_is c.is_blank.ensures.absent
