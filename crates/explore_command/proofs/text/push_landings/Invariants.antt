-- The lines of the landings before the index are in the text.
use Rattle.std.proofs.Common.{◌≡◌, ◌++◌, take}
use Rattle.std.specs.List.{flat_map}
use Rattle.explore_model.specs.Texts.{landing_line}
use Rattle.explore_command.proofs.text.push_landings.Given as goal

abbrev pub invariant-loop-landing : goal.invariant-loop-landing
invariant-loop-landing l = l.text.items ≡ l.initial.text.items ++ flat_map (landing_line l.plan) (take l.landing-index l.landings)
