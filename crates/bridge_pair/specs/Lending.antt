-- A doorbell that is lent: what is written to it is the side's.
use Rattle.std.specs.Borrow.{Lends, MutBor, Fml}
use Rattle.step_kinds.specs.declared.names.Side.{Side}
use Rattle.bridge_regs.specs.Doorbell.{Doorbell}
use Rattle.bridge_regs.specs.contracts.Bells.{the_row as bells_row}
use Rattle.bridge_pair.specs.Bridge.{Bridge, with_bells}
use Rattle.bridge_pair.specs.Ends.{End}
use Rattle.bridge_pair.specs.contracts.endpoint.Endpoint.{the_row as endpoint_row}
use Rattle.bridge_pair.specs.contracts.pair.Pair.{the_row as pair_row}

abbrev pub LendsBells : MutBor End → MutBor Doorbell → Fml
LendsBells end result = Lends endpoint_row bells_row end result (λ bells. record end.now { bells = bells })

abbrev pub LendsBellsOf : MutBor Bridge → Side → MutBor Doorbell → Fml
LendsBellsOf bridge side result = Lends pair_row bells_row bridge result (λ bells. with_bells bridge.now side bells)
