use Rattle.std.proofs.Common.{◌<◌, subst}
use Rattle.ring_geometry.specs.Geometry.{Layout, entries_of}
use Rattle.hand_shake.proofs.HeaderPages.{at_header}
use Rattle.hand_shake.proofs.headers.header_at.Goals as goal

pub returns-clause-value : goal.returns-clause-value
returns-clause-value c =
    let ring = c.args.ring.now in
    at_header c.args.plan.now c.args.side ring.queue c.args.n c.window_of.result c.header_at.result c.own_address.result ring c.requires.ring.0 c.window_of.ensures c.header_at.ensures.value
    (subst (λ (l : Layout). c.args.n < entries_of l) c.requires.ring.0 c.requires.slot) c.own_address.ensures.value
