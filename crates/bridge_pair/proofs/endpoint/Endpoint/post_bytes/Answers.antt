use Rattle.std.proofs.Common.{arith, subst, sym}
use Rattle.std.proofs.lemmas.List.Elements.{All-push}
use Rattle.bridge_pair.specs.Ends.{End, HasPlace}
use Rattle.bridge_pair.specs.Flights.{Flying}
use Rattle.bridge_pair.specs.declared.flying_write.Arrival.TheVariants.{AtAddress}
use Rattle.bridge_pair.proofs.endpoint.Endpoint.post_bytes.Goals as goal

pub invariant_of-self : goal.invariant_of-self
invariant_of-self c =
    let at_end : HasPlace c.self.inside.memory (AtAddress c.args.at c.args.bytes.now) =
    subst (λ (end : End). HasPlace end.memory (AtAddress c.args.at c.args.bytes.now)) (sym c.self.view_is) c.requires.place in
    let here : HasPlace c.self.inside.memory c.new.result.arrival = rw c.new.ensures (rw c.flying_bytes-bytes.ensures.value at_end) in
    record {
      places = rw c.push.ensures (All-push (λ (flying : Flying). HasPlace c.self.inside.memory flying.arrival) c.self.inside.coming.writes c.new.result c.self.invariant.places here);
      buffers = rw c.push.ensures (omega (arith, c.self.invariant.buffers, c.flying_bytes-bytes.ensures.one));
    }
