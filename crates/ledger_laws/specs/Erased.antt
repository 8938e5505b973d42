-- What a network is without the origins of its frames.
use Rattle.std.specs.Prelude.{ℕ, List, map}
use Rattle.pair_model.specs.Switch.{Switch}
use Rattle.ledger_model.specs.Network.{Network}
use Rattle.ledger_model.specs.Origins.{Carried}

-- the same switch with other frames in the place of its own
abbrev pub switch_with_frames : {F G : Type 0} → (F → G) → Switch F → Switch G
switch_with_frames change switch = record { inboxes = map (map change) switch.inboxes; waiting = map (map change) switch.waiting; fdb = switch.fdb }

-- the same network, whose frames are their bytes
abbrev pub erased : Network Carried → Network (List ℕ)
erased net =
    record {
      steps = net.steps;
      switches = map (switch_with_frames (λ frame. frame.bytes)) net.switches;
      passages = map (λ passage. record { frame = passage.frame.bytes; begun = passage.begun }) net.passages;
    }
