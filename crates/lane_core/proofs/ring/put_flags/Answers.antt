use Rattle.std.proofs.Common.{◌%◌, get_or, sym, ap, ◌∙◌, refl, arith}
use Rattle.lane_model.specs.Lane.{with_flags}
use Rattle.lane_core.specs.declared.slot.Slot.{Slot}
use Rattle.lane_core.proofs.StoredSlots.{place_stored}
use Rattle.lane_core.proofs.ring.put_flags.Goals as goal

pub returns : goal.returns
returns c =
    let n = c.args.number in
    let old : Slot = get_or c.args.ring.now c.position_of.result c.index-ring-position_of.result in
    let new : Slot = record old { flags = c.args.flags } in
    place_stored c.args.ring.now n c.position_of.result new c.index-ring-position_of.result (λ place. with_flags place c.args.flags)
    (c.position_of.ensures.value ∙ ap (λ count. n % count) (sym c.requires.ring)) (omega arith) refl
