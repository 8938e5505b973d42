use Rattle.std.proofs.Common.{ap}
use Rattle.bridge_pair.specs.Ends.{End}
use Rattle.bridge_pair.specs.Views.{bridge_seen}
use Rattle.bridge_pair.proofs.pair.Pair.promise_range.Goals as goal

pub returns-in-A-clause-ok : goal.returns-in-A-clause-ok
returns-in-A-clause-ok c = rw c.in-A.is c.promise_range.ensures.ok

pub returns-in-A-clause-had : goal.returns-in-A-clause-had
returns-in-A-clause-had c = rw (c.in-A.is, ← c.self.view_is) (λ had. let kept = c.promise_range.ensures.had had in (kept.0, ap (λ (end : End). bridge_seen (record c.self.inside { a = end })) kept.1))

pub returns-in-B-clause-ok : goal.returns-in-B-clause-ok
returns-in-B-clause-ok c = rw c.in-B.is c.promise_range-in-B.ensures.ok

pub returns-in-B-clause-had : goal.returns-in-B-clause-had
returns-in-B-clause-had c = rw (c.in-B.is, ← c.self.view_is) (λ had. let kept = c.promise_range-in-B.ensures.had had in (kept.0, ap (λ (end : End). bridge_seen (record c.self.inside { b = end })) kept.1))
