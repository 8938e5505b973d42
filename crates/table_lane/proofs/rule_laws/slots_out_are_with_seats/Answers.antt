use Rattle.table_lane.proofs.SeatedSlots.{slots_out_are_with_seats, seats_have_slots_out}
use Rattle.table_lane.proofs.rule_laws.slots_out_are_with_seats.Goals as goal

-- a slot that is out is with the seat whose part says so
pub returns-clause-out : goal.returns-clause-out
returns-clause-out c = slots_out_are_with_seats

-- and each of these has it out
pub returns-clause-had : goal.returns-clause-had
returns-clause-had c = seats_have_slots_out
