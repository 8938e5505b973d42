use Rattle.std.proofs.Common.{ap, ◌∙◌}
use Rattle.host_memory.specs.Memory.{Contents}
use Rattle.read_path.proofs.EndLemmas.{fresh_seen}
use Rattle.read_path.proofs.end.End.new.Goals as goal

pub returns-clause-fresh : goal.returns-clause-fresh
returns-clause-fresh c =
    fresh_seen c.promise.new.self.bytes c.new-2.result (c.in_ok-promise.ensures.bytes ∙ ap (λ (memory : Contents). memory.bytes) c.in_ok-memory.ensures.zeros) c.new-2.ensures
