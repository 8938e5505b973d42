-- What a `Link` keeps, as the link of a pair.
use Rattle.std.specs.Prelude.{◌≤◌}
use Rattle.step_kinds.specs.Limits.{most_sessions}
use Rattle.pair_model.specs.Link.{Link as PairLink}
use Rattle.link_state.specs.Flags.{both_flags}
use Rattle.link_state.specs.declared.Link.TheInside.{Inside}

-- the link of a pair
abbrev pub link_of : Inside → PairLink
link_of link = record {
  state = link.state;
  session = link.session;
  enabled = both_flags link.enabled;
  clean = both_flags link.clean;
}

-- no session is numbered past the last
abbrev pub IsNumbered : Inside → Type 0
IsNumbered link = link.session ≤ most_sessions

-- what is kept, from the link of a pair
abbrev pub link_inside_of : PairLink → Inside
link_inside_of link = record {
  state = link.state;
  session = link.session;
  enabled = record { a = link.enabled.a; b = link.enabled.b };
  clean = record { a = link.clean.a; b = link.clean.b };
}
