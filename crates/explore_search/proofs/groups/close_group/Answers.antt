use Rattle.std.proofs.Common.{arith}
use Rattle.explore_search.proofs.groups.close_group.Goals as goal

pub returns-clause-closed : goal.returns-clause-closed
returns-clause-closed g c =
    let room = c.in_ok-close.ensures.room.0 c.if-not-branch.false in
    (c.len.ensures, omega (arith, c.len.ensures), c.in_ok-close.ensures.closed c.if-not-branch.false)
