use Rattle.std.proofs.Common.{◌≡◌, ◌++◌, ◌+◌, take, get_or, sym, subst}
use Rattle.step_kinds.specs.declared.plan.Counters.{Counters}
use Rattle.report_text.specs.Report.{device_line, device_lines}
use Rattle.report_text.proofs.Devices.{device_lines_more, grown}
use Rattle.report_text.proofs.whole.push_devices.Goals as goal

abbrev no_counts : Counters
no_counts = record { tx = 0; tx_bytes = 0; refused = 0; rx = 0; rx_bytes = 0; short = 0 }

pub loop-place-preserved : goal.loop-place-preserved
loop-place-preserved c =
    let counts : Counters = get_or c.args.counters.now c.loop-place.place no_counts in
    let after = device_lines (take (c.loop-place.place + 1) c.args.devs.now) (take (c.loop-place.place + 1) c.args.counters.now) in
    let before = device_lines (take c.loop-place.place c.args.devs.now) (take c.loop-place.place c.args.counters.now) in
    let more = device_lines_more c.args.devs.now c.args.counters.now c.loop-place.place c.index-devs-place.result no_counts c.loop-place-test.true c.requires in
    grown c.loop-place.text.items c.push_device.new.text.items c.args.text.now.items before (device_line c.index-devs-place.result counts) after c.loop-place.invariant
    c.in_ok-push_device.ensures (subst (λ dev. after ≡ before ++ device_line dev counts) (sym c.index-devs-place.is) more)
