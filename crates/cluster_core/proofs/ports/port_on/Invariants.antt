use Rattle.std.proofs.Common.{◌≡◌, drop}
use Rattle.ledger_model.specs.Ports.{port_from}
use Rattle.cluster_core.proofs.ports.port_on.Given as goal

abbrev pub invariant-loop-switch : goal.invariant-loop-switch
invariant-loop-switch l = port_from l.devs l.own 0 l.plans ≡ port_from l.devs l.own l.switch (drop l.switch l.plans)
