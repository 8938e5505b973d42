use Rattle.std.specs.Prelude.{Bool}
use Rattle.pair_model.specs.Both.{Both}
use Rattle.link_state.specs.declared.flags.Flags.{Flags}

-- a flag for each side
abbrev pub both_flags : Flags → Both Bool
both_flags flags = record { a = flags.a; b = flags.b }
