use Rattle.std.proofs.Common.{sym}
use Rattle.posted_queue.proofs.LandingLemmas.{may_land-found, none_within}
use Rattle.posted_queue.proofs.block_queue.class_awaited_at.Goals as goal

pub returns-in-Some-clause-lands : goal.returns-in-Some-clause-lands
returns-in-Some-clause-lands g c =
    may_land-found g.W.Ordered.order c.args.blocks.now.writes c.args.place c.in-Some.write.now c.class_awaited.result (sym c.in-Some.ensures) c.class_awaited.ensures.class

pub returns-in-None-clause-lands : goal.returns-in-None-clause-lands
returns-in-None-clause-lands g c = absurd (none_within c.args.blocks.now.writes c.args.place c.requires c.in-None.ensures)
