use Rattle.std.proofs.Common.{◌∙◌, ap}
use Rattle.bridge_pair.specs.Bridge.{pages_of}
use Rattle.pair_model.specs.Sizes.{header_bytes}
use Rattle.step_kinds.specs.Sides.{other_side}
use Rattle.frame_ring.specs.Promises.{IsEntryPromised, IsRangePromised}
use Rattle.frame_ring.proofs.EntryPages.{entry_promised, header_grows, ok_map, payload_grows}
use Rattle.frame_ring.proofs.rings.QueueRings.promise_entry.Goals as goal

pub returns-in_err-promise_bytes-clause-pages : goal.returns-in_err-promise_bytes-clause-pages
returns-in_err-promise_bytes-clause-pages c = payload_grows c.args.self.now c.args.n c.args.len c.slot_offset_of.result _ _ c.slot_offset_of.ensures.value c.promise_bytes.ensures.pages

pub returns-clause-pages : goal.returns-clause-pages
returns-clause-pages c =
    let size = c.from-header.ensures ∙ c.header_bytes.ensures ∙ ap header_bytes c.plan.ensures in
    header_grows c.args.self.now c.args.n c.args.len c.header_offset_of.result c.from-header.result _ _ _ c.header_offset_of.ensures.value size
    (payload_grows c.args.self.now c.args.n c.args.len c.slot_offset_of.result _ _ c.slot_offset_of.ensures.value c.promise_bytes.ensures.pages) c.promise_bytes-2.ensures.pages

pub returns-clause-ok : goal.returns-clause-ok
returns-clause-ok c =
    let size = c.from-header.ensures ∙ c.header_bytes.ensures ∙ ap header_bytes c.plan.ensures in
    let peer = other_side c.args.self.now.side in
    ok_map (IsRangePromised c.args.self.now c.header_offset_of.result c.from-header.result (pages_of c.promise_bytes-2.new.pair peer)) (IsEntryPromised c.args.self.now c.args.n c.args.len (pages_of c.promise_bytes-2.new.pair peer)) c.promise_bytes-2.result
    (entry_promised c.args.self.now c.args.n c.args.len c.slot_offset_of.result c.header_offset_of.result c.from-header.result _ _ c.slot_offset_of.ensures.value c.header_offset_of.ensures.value size c.in_ok-promise_bytes.ensures.ok c.promise_bytes-2.ensures.pages)
    c.promise_bytes-2.ensures.ok
