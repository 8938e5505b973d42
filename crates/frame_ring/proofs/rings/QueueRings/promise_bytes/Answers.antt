use Rattle.std.proofs.Common.{◌∙◌, ap}
use Rattle.bridge_pair.specs.Bridge.{pages_of}
use Rattle.host_memory.specs.Memory.{ArePromised}
use Rattle.step_kinds.specs.Sides.{other_side}
use Rattle.frame_ring.specs.Promises.{IsRangePromised, ReachesPeer}
use Rattle.frame_ring.proofs.EntryPages.{at_offset, lies_inside, ok_map, range_grows, range_promised}
use Rattle.frame_ring.proofs.rings.QueueRings.promise_bytes.Goals as goal

pub promise_range-requires : goal.promise_range-requires
promise_range-requires c =
    let peer = c.other-peer.ensures ∙ ap other_side c.side.ensures.value in
    lies_inside c.args.self.now c.args.pair.now c.other-peer.result c.own_address-at.result c.args.offset c.args.len c.law.ensures c.requires.plan peer c.requires.fit c.requires.within
    (rw c.plan.ensures at c.own_address-at.ensures.within)

pub returns-clause-pages : goal.returns-clause-pages
returns-clause-pages c =
    let peer = c.other-peer.ensures ∙ ap other_side c.side.ensures.value in
    let at = at_offset c.args.self.now c.other-peer.result c.own_address-at.result c.out_window.result c.args.offset peer c.out_window.ensures (rw c.plan.ensures at c.own_address-at.ensures.value) in
    let reach : ReachesPeer c.args.self.now = cc (c.reaches.ensures, c.if-not-reaches.false) in
    range_grows c.args.self.now c.args.pair.now c.promise_range.new.self c.other-peer.result c.own_address-at.result c.args.offset c.args.len peer reach at c.promise_range.ensures.pages

pub returns-clause-ok : goal.returns-clause-ok
returns-clause-ok c =
    let peer = c.other-peer.ensures ∙ ap other_side c.side.ensures.value in
    let at = at_offset c.args.self.now c.other-peer.result c.own_address-at.result c.out_window.result c.args.offset peer c.out_window.ensures (rw c.plan.ensures at c.own_address-at.ensures.value) in
    ok_map (ArePromised c.own_address-at.result c.args.len (pages_of c.promise_range.new.self c.other-peer.result))
    (IsRangePromised c.args.self.now c.args.offset c.args.len (pages_of c.promise_range.new.self (other_side c.args.self.now.side))) c.promise_range.result
    (range_promised c.args.self.now c.promise_range.new.self c.other-peer.result c.own_address-at.result c.args.offset c.args.len peer at) c.promise_range.ensures.ok
