-- What is still to be added are the lines of the devices and counters that are left.
use Rattle.std.proofs.Common.{◌≡◌, ◌++◌}
use Rattle.trace_command.specs.Lines.{trace_device_lines}
use Rattle.trace_command.proofs.ending.push_devices.Given as goal

abbrev pub invariant-loop-dev : goal.invariant-loop-dev
invariant-loop-dev l =
    l.text.items ++ trace_device_lines l.dev-iterator.a.rest.now l.dev-iterator.b.rest.now ≡ l.initial.text.items ++ trace_device_lines l.devs l.counters
