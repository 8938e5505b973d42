use Rattle.trace_command.proofs.laws.each_number_stands_once.Goals as goal
use Rattle.trace_command.proofs.NumbersStandOnce.{each_number_stands_once}

pub returns : goal.returns
returns c = each_number_stands_once
