use Rattle.std.proofs.Common.{subst, sym}
use Rattle.bridge_pair.specs.Ends.{HasPlace}
use Rattle.bridge_pair.specs.Flights.{Flying, flying_order}
use Rattle.bridge_pair.proofs.Places.{landed_is, rest_is, spare_is}
use Rattle.bridge_pair.proofs.endpoint.Endpoint.land.Goals as goal

pub invariant_of-self-in-Landed : goal.invariant_of-self-in-Landed
invariant_of-self-in-Landed c = record {
  places = rw c.land.ensures.after (rest_is (λ (flying : Flying). HasPlace c.self.inside.memory flying.arrival) c.self.inside.coming _ c.args.place c.self.invariant.places);
  buffers = rw c.land.ensures.after (spare_is c.self.inside.coming _ c.args.place c.self.invariant.buffers);
}

pub arrive-requires : goal.arrive-requires
arrive-requires c =
    subst (λ (flying : Flying). HasPlace c.self.inside.memory flying.arrival) (sym c.write.view_is)
    (landed_is (λ (flying : Flying). HasPlace c.self.inside.memory flying.arrival) flying_order c.self.inside.coming c.args.place c.in-Landed.write
    (rw c.in-Landed.is at c.land.ensures.answer) c.self.invariant.places)
