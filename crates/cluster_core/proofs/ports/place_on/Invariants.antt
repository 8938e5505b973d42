use Rattle.std.proofs.Common.{◌≡◌, drop}
use Rattle.std.specs.List.{position_from}
use Rattle.cluster_core.specs.Parts.{is_device_on}
use Rattle.cluster_core.proofs.ports.place_on.Given as goal

abbrev pub invariant-loop-place : goal.invariant-loop-place
invariant-loop-place l = position_from (is_device_on l.devs l.own) 0 l.ports ≡ position_from (is_device_on l.devs l.own) l.place (drop l.place l.ports)
