use Rattle.std.proofs.Common.{◌≡◌, ◌∙◌, ℕ, ap, subst, sym, length}
use Rattle.bridge_pair.specs.Bridge.{flight_of}
use Rattle.fabric_rule.specs.Parts.{PairState}
use Rattle.fabric_core.specs.Fabric.{pair_of}
use Rattle.fabric_core.specs.InFlight.{LandsNoneFrom}
use Rattle.fabric_core.proofs.InFlight.{lands_none}
use Rattle.fabric_core.proofs.fabric.Fabric.in_flight.Goals as goal

pub returns-clause-beyond : goal.returns-clause-beyond
returns-clause-beyond c =
    let count : c.in_flight.result ≡ length (flight_of (pair_of c.args.self.now c.args.pair).bridge c.args.side).writes =
    c.in_flight.ensures ∙ ap (λ (pair : PairState). length (flight_of pair.bridge c.args.side).writes) c.pair.ensures in
    subst (λ (count : ℕ). LandsNoneFrom c.args.self.now c.args.pair c.args.side count) (sym count) (lands_none c.args.self.now c.args.pair c.args.side c.requires)
