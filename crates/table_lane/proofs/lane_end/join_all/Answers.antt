use Rattle.std.proofs.Common.{rules}
use Rattle.table_lane.proofs.Facade.{seats_join}
use Rattle.table_lane.proofs.lane_end.join_all.Goals as goal

pub join_seat-requires : goal.join_seat-requires
join_seat-requires c = (search rules, search rules, search rules, search rules, seats_join _ _ _ _ _)

pub join_seat-requires-2 : goal.join_seat-requires-2
join_seat-requires-2 c = (search rules, search rules, search rules, search rules, seats_join _ _ _ _ _)

pub join_seat-requires-3 : goal.join_seat-requires-3
join_seat-requires-3 c = (search rules, search rules, search rules, search rules, seats_join _ _ _ _ _)

pub join_seat-requires-4 : goal.join_seat-requires-4
join_seat-requires-4 c = (search rules, search rules, search rules, search rules, seats_join _ _ _ _ _)
