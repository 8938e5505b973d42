-- What contracts see of a pair that a fabric keeps.
use Rattle.fabric_rule.specs.Parts.{PairState}
use Rattle.fabric_core.specs.Parts.{IsPairWhole}
use Rattle.fabric_core.specs.declared.pairs.PairBox.TheInside.{Inside}

abbrev pub pair_seen : Inside → PairState
pair_seen kept = record { bridge = kept.pair; queues = record { a = kept.queues_a.items; b = kept.queues_b.items } }

abbrev pub IsPairBox : Inside → Type 0
IsPairBox kept = IsPairWhole (pair_seen kept)
