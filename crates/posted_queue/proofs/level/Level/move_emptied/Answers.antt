use Rattle.std.proofs.Common.{ap, ◌∙◌, arith}
use Rattle.posted_queue.proofs.LevelLemmas.{level-moved, no_writes}
use Rattle.posted_queue.proofs.level.Level.move_emptied.Goals as goal

pub returns-then-len-eq0-clause-writes : goal.returns-then-len-eq0-clause-writes
returns-then-len-eq0-clause-writes g c = c.move_last-room.ensures.writes ∙ ap (λ level. level.writes) c.self.view_is

pub returns-then-len-eq0-clause-room : goal.returns-then-len-eq0-clause-room
returns-then-len-eq0-clause-room g c = omega (arith, ap (λ level. level.spare) c.self.view_is, c.self.ranges)

pub index-requires : goal.index-requires
index-requires g c = omega (arith, c.self.invariant.in_row)

pub move_last-room-requires-clause-none : goal.move_last-room-requires-clause-none
move_last-room-requires-clause-none g c = no_writes c.self.inside.row.items c.args.part c.len.result c.index.result.now (omega (arith, c.self.invariant.in_row)) c.index.ensures c.len.ensures c.if-len-eq0.true

pub invariant_of-self : goal.invariant_of-self
invariant_of-self g c =
    level-moved c.self.inside.row.items c.move_last-room.new.row.items c.self.inside.last c.self.inside.room c.args.part c.move_last-room.result c.saturating_add-self-inside.result c.self.invariant c.if-part-self.true c.move_last-room.ensures (omega arith)
