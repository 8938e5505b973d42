-- What contracts see of the counts that are kept of the sessions.
use Rattle.std.specs.Prelude.{◌≡◌, ◌<◌, ◌≤◌, true, length, map, vec_capacity}
use Rattle.step_kinds.specs.Limits.{most_count}
use Rattle.fabric_core.specs.Sessions.{AreApart, AreFew, AreUpTo, Tallied, count_seen}
use Rattle.fabric_core.specs.declared.counts.SessionCounts.TheInside.{Inside}

abbrev pub tallied_seen : Inside → Tallied
tallied_seen tally = record { counts = map count_seen tally.counts.items; has_room = tally.has_room }

pub record IsTally (tally : Inside) : Type 0 where
  pub apart : AreApart (map count_seen tally.counts.items)
  pub most : AreUpTo (map count_seen tally.counts.items) tally.most
  pub few : AreFew (map count_seen tally.counts.items) tally.made
  pub made : tally.made ≤ most_count
  pub room : tally.has_room ≡ true → length tally.counts.items < vec_capacity tally.counts
  pub more : tally.has_room ≡ true → tally.made < most_count
