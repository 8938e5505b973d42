-- What contracts see of this crate's types.
use Rattle.std.specs.Prelude.{◌≡◌, length}
use Rattle.step_kinds.specs.declared.names.Side.TheVariants.{A, B}
use Rattle.pair_model.specs.DeclaredPlans.{IsPair}
use Rattle.plan_numbers.specs.Memories.{memory_size}
use Rattle.bridge_pair.specs.Bridge.{Bridge, IsBook}
use Rattle.bridge_pair.specs.declared.pair.Pair.TheInside.{Inside}

abbrev pub bridge_seen : Inside → Bridge
bridge_seen pair =
    record {
      plan = pair.plan.value;
      link = pair.link;
      books = record { a = pair.book_a; b = pair.book_b };
      pads = record { a = pair.a.pads; b = pair.b.pads };
      bells = record { a = pair.a.bells; b = pair.b.bells };
      memories = record { a = pair.a.memory; b = pair.b.memory };
      flights = record { a = pair.b.coming; b = pair.a.coming };
    }

-- what a pair keeps beside what its two ends keep
pub record IsJoined (pair : Inside) : Type 0 where
  pub plan : IsPair pair.plan.value
  pub book_a : IsBook pair.plan.value A pair.book_a
  pub book_b : IsBook pair.plan.value B pair.book_b
  pub memory_a : length pair.a.memory.bytes ≡ memory_size pair.plan.value A
  pub memory_b : length pair.b.memory.bytes ≡ memory_size pair.plan.value B
