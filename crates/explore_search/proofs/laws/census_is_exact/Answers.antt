use Rattle.explore_search.proofs.CountedStates.{no_more_states, one_census}
use Rattle.explore_search.proofs.laws.census_is_exact.Goals as goal

pub returns-clause-no_more : goal.returns-clause-no_more
returns-clause-no_more g c = no_more_states g.M.Machine.has_made g.met.M.Machine.same_steps

pub returns-clause-one : goal.returns-clause-one
returns-clause-one g c = one_census g.M.Machine.has_made g.met.M.Machine.same_steps
