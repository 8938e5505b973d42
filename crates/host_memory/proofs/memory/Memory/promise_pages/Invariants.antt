use Rattle.std.proofs.Common.{◌≡◌, ◌≤◌, ◌<◌, ◌⊎◌, ℕ, Contains, ◌/◌}
use Rattle.host_memory.specs.Memory.{ArePromised, Touches}
use Rattle.host_memory.proofs.memory.Memory.promise_pages.Given as goal

abbrev pub invariant-loop-page : goal.invariant-loop-page
invariant-loop-page l = record {
  bytes : l.self.bytes ≡ l.initial.self.bytes;
  so_far : (page : ℕ) → l.at / 512 ≤ page → page < l.page → Contains l.self.promised page;
  stay : (page : ℕ) → Contains l.initial.self.promised page → Contains l.self.promised page;
  only : (page : ℕ) → Contains l.self.promised page → Contains l.initial.self.promised page ⊎ Touches l.at l.len page;
  had : ArePromised l.at l.len l.initial.self.promised → l.self ≡ l.initial.self;
}
