use Rattle.bridge_pair.proofs.Places.{still_have_places}
use Rattle.bridge_pair.proofs.endpoint.Endpoint.set_word.Goals as goal

pub set_u32-requires-clause-promised : goal.set_u32-requires-clause-promised
set_u32-requires-clause-promised c = rw (← c.self.view_is) at c.requires.promised

pub invariant_of-self : goal.invariant_of-self
invariant_of-self c = record {
  places = still_have_places c.self.inside.memory c.set_u32.new.self c.self.inside.coming.writes c.set_u32.ensures.size (λ page there. rw c.set_u32.ensures.promised there) c.self.invariant.places;
  buffers = c.self.invariant.buffers;
}
