use Rattle.std.proofs.Common.{subst, sym}
use Rattle.step_kinds.specs.Sides.{other_side}
use Rattle.bridge_pair.specs.Bridge.{Bridge, pages_of}
use Rattle.bridge_pair.specs.Calls.{HasPages}
use Rattle.bridge_pair.specs.Flights.{arrival_of}
use Rattle.fabric_core.proofs.bridge_steps.post_aside.Goals as goal

pub post-requires-clause-pages : goal.post-requires-clause-pages
post-requires-clause-pages c =
    subst (λ (bridge : Bridge). HasPages (pages_of bridge (other_side c.args.side)) (arrival_of bridge.plan c.args.side c.args.write.target)) (sym c.in_ok-promise.ensures.ok) c.requires.pages
