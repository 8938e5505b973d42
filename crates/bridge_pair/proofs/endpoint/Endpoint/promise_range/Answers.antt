use Rattle.std.proofs.Common.{length, ap}
use Rattle.host_memory.specs.Memory.{Contents}
use Rattle.bridge_pair.proofs.Places.{still_have_places}
use Rattle.bridge_pair.proofs.endpoint.Endpoint.promise_range.Goals as goal

pub invariant_of-self : goal.invariant_of-self
invariant_of-self c = record {
  places = still_have_places c.self.inside.memory c.promise.new.self c.self.inside.coming.writes (ap length c.promise.ensures.bytes) c.promise.ensures.stay c.self.invariant.places;
  buffers = c.self.invariant.buffers;
}

pub returns-clause-pages : goal.returns-clause-pages
returns-clause-pages c = rw (← c.self.view_is) (record { stay = c.promise.ensures.stay; only = c.promise.ensures.only })

pub returns-clause-had : goal.returns-clause-had
returns-clause-had c =
    rw (← c.self.view_is) (λ had. let kept = c.promise.ensures.had had in (kept.0, ap (λ (memory : Contents). record { pads = c.self.inside.pads; bells = c.self.inside.bells; memory = memory; coming = c.self.inside.coming }) kept.1))
