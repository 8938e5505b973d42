use Rattle.trace_command.proofs.laws.landings_are_of_their_labels.Goals as goal
use Rattle.trace_command.proofs.LandingsOfLabels.{landings_are_of_their_labels}

pub returns : goal.returns
returns c = landings_are_of_their_labels
