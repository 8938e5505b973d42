use Rattle.std.proofs.Common.{◌≡◌, drop}
use Rattle.std.specs.List.{position_from}
use Rattle.std.specs.Str.{bytes_eq}
use Rattle.script_plan.proofs.names.place_in_turn.Given as goal

abbrev pub invariant-loop-place : goal.invariant-loop-place
invariant-loop-place l =
    position_from (λ other. bytes_eq l.name other.items) 0 l.names ≡ position_from (λ other. bytes_eq l.name other.items) l.place (drop l.place l.names)
