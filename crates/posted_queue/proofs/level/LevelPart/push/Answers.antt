use Rattle.std.proofs.Common.{suc, arith}
use Rattle.posted_queue.proofs.LevelLemmas.{behind-later}
use Rattle.posted_queue.proofs.level.LevelPart.push.Goals as goal

pub push_at-requires-clause-behind : goal.push_at-requires-clause-behind
push_at-requires-clause-behind g c =
    behind-later c.self.inside.row.items (suc c.self.inside.last) (suc c.first_with_room-self-inside.result) (omega arith) c.self.invariant.behind
