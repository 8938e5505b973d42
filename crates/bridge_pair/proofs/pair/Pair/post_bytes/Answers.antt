use Rattle.std.proofs.Common.{subst, sym}
use Rattle.step_kinds.specs.Sides.{other_side}
use Rattle.step_kinds.specs.declared.names.Side.{Side}
use Rattle.bridge_pair.specs.Bridge.{Bridge, pages_of}
use Rattle.bridge_pair.specs.Calls.{HasPages}
use Rattle.bridge_pair.specs.Flights.{arrival_of}
use Rattle.bridge_pair.specs.Views.{bridge_seen}
use Rattle.bridge_pair.specs.declared.write.Target.TheVariants.{ThroughWindow}
use Rattle.bridge_pair.proofs.Places.{translated}
use Rattle.bridge_pair.proofs.pair.Pair.post_bytes.Goals as goal

pub post_bytes-requires-clause-place : goal.post_bytes-requires-clause-place
post_bytes-requires-clause-place c =
    let target = ThroughWindow c.args.window c.args.offset c.args.bytes.now in
    let pages = subst (λ (bridge : Bridge). HasPages (pages_of bridge (other_side c.args.side)) (arrival_of bridge.plan c.args.side target)) (sym c.self.view_is) c.requires.pages in
    let at_peer = subst (λ (side : Side). HasPages (pages_of (bridge_seen c.self.inside) (other_side side)) (arrival_of c.self.inside.plan.value c.args.side target)) c.in-A.is pages in
    rw c.own_address-at.ensures.value (rw c.other.ensures (rw c.as_ref.ensures
    (translated c.self.inside.plan.value c.args.side c.self.inside.b.memory target (rw c.in-A.is c.self.invariant.memory_b) (c.requires.some, c.requires.few)
    (rw (← c.self.view_is) at c.requires.translates) at_peer)))

pub post_bytes-requires-in-B-clause-place : goal.post_bytes-requires-in-B-clause-place
post_bytes-requires-in-B-clause-place c =
    let target = ThroughWindow c.args.window c.args.offset c.args.bytes.now in
    let pages = subst (λ (bridge : Bridge). HasPages (pages_of bridge (other_side c.args.side)) (arrival_of bridge.plan c.args.side target)) (sym c.self.view_is) c.requires.pages in
    let at_peer = subst (λ (side : Side). HasPages (pages_of (bridge_seen c.self.inside) (other_side side)) (arrival_of c.self.inside.plan.value c.args.side target)) c.in-B.is pages in
    rw c.own_address-at.ensures.value (rw c.other.ensures (rw c.as_ref.ensures
    (translated c.self.inside.plan.value c.args.side c.self.inside.a.memory target (rw c.in-B.is c.self.invariant.memory_a) (c.requires.some, c.requires.few)
    (rw (← c.self.view_is) at c.requires.translates) at_peer)))
