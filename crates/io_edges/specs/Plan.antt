-- Which calls of a stream in memory fail.
use Rattle.std.specs.Prelude.{ℕ, ◌+◌, ◌-◌, ◌^◌, min, Bool, ◌==◌, List}
use Rattle.std.specs.List.{list_any}

-- the numbers of the calls that fail (0 is the first), the calls so far and the faults so far
pub record Plan : Type 0 where
  pub fails : List ℕ
  pub calls : ℕ
  pub faults : ℕ

-- one more, up to the last value of a u64
abbrev pub fault_one_more : ℕ → ℕ
fault_one_more count = min (count + 1) (2 ^ 64 - 1)

-- whether the next call is one of those that fail
abbrev pub is_due : Plan → Bool
is_due plan = list_any (λ call. call == plan.calls) plan.fails

-- after a call that went well
abbrev pub after_call : Plan → Plan
after_call plan = record plan { calls = fault_one_more plan.calls }

-- after a call that failed
abbrev pub after_fault : Plan → Plan
after_fault plan = record plan { calls = fault_one_more plan.calls; faults = fault_one_more plan.faults }
