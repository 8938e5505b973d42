use Rattle.std.proofs.Common.{◌%◌, map, get_or, sym, ap, ◌∙◌, arith}
use Rattle.lane_model.specs.Lane.{with_field, flags_of}
use Rattle.lane_model.specs.declared.Write.TheVariants.{Data, Flag}
use Rattle.lane_core.specs.Parts.{CanStore, core_entry_in, entry_seen, place_seen, with_flags_at}
use Rattle.lane_core.proofs.StoredSlots.{entry_read, place_stored}
use Rattle.lane_core.specs.declared.slot.Slot.{Slot}
use Rattle.lane_core.proofs.ring.store.Goals as goal

pub returns-in-Data : goal.returns-in-Data
returns-in-Data c =
    let sent = map entry_seen c.args.sent.now in
    let n = c.in-Data.number in
    let can : CanStore (map place_seen c.args.ring.now) sent (Data n c.in-Data.field) = rw c.in-Data.is at c.requires.can in
    let entry = entry_read c.args.sent.now n c.index-sent-number.result can.1 c.index-sent-number.is in
    let old : Slot = get_or c.args.ring.now c.position_of.result c.index-ring-position_of.result in
    rw c.in-Data.is
    (place_stored c.args.ring.now n c.position_of.result c.put.new.self c.index-ring-position_of.result (λ place. with_field place n (core_entry_in sent n) c.in-Data.field)
    (c.position_of.ensures.value ∙ ap (λ count. n % count) (sym c.requires.ring)) (omega arith)
    (c.put.ensures ∙ ap (λ e. with_field (place_seen old) n e c.in-Data.field) (sym entry)))

pub returns-in-Flag : goal.returns-in-Flag
returns-in-Flag c =
    let sent = map entry_seen c.args.sent.now in
    let n = c.in-Flag.number in
    let can : CanStore (map place_seen c.args.ring.now) sent (Flag n) = rw c.in-Flag.is at c.requires.can in
    let entry = entry_read c.args.sent.now n c.index-sent-number-in-Flag.result can.1 c.index-sent-number-in-Flag.is in
    rw c.in-Flag.is (c.put_flags.ensures ∙ ap (with_flags_at (map place_seen c.args.ring.now) n) (c.flags-flags.ensures ∙ ap flags_of (sym entry)))
