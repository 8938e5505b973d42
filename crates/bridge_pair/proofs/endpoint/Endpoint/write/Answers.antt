use Rattle.bridge_pair.proofs.Places.{still_have_places}
use Rattle.bridge_pair.proofs.endpoint.Endpoint.write.Goals as goal

pub write-requires-clause-promised : goal.write-requires-clause-promised
write-requires-clause-promised c = rw (← c.self.view_is) at c.requires.promised

pub invariant_of-self : goal.invariant_of-self
invariant_of-self c = record {
  places = still_have_places c.self.inside.memory c.write.new.self c.self.inside.coming.writes c.write.ensures.size (λ page there. rw c.write.ensures.promised there) c.self.invariant.places;
  buffers = c.self.invariant.buffers;
}
