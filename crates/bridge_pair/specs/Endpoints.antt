-- One end of a bridge as it is kept.
use Rattle.std.specs.Prelude.{◌≤◌, All, vec_len}
use Rattle.bridge_pair.specs.Ends.{End, HasPlace}
use Rattle.bridge_pair.specs.Flights.{Flying}
use Rattle.bridge_pair.specs.declared.endpoint.Endpoint.TheInside.{Inside}

abbrev pub end_seen : Inside → End
end_seen end = record { pads = end.pads; bells = end.bells; memory = end.memory; coming = end.coming }

-- each write in flight has its place, and for each that is promised there is a buffer
pub record IsHeld (end : Inside) : Type 0 where
  pub places : All (λ (flying : Flying). HasPlace end.memory flying.arrival) end.coming.writes
  pub buffers : end.coming.spare ≤ vec_len end.buffers
