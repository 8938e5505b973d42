use Rattle.std.proofs.Common.{rules}
use Rattle.table_lane.specs.Views.{OfMover, OfReceiver, OfWayBack, OfCut}
use Rattle.table_lane.proofs.Facade.{splits_off}
use Rattle.table_lane.proofs.ends.split_off.Goals as goal

pub split_seat-mover-requires : goal.split_seat-mover-requires
split_seat-mover-requires c = (search rules, search rules, splits_off OfMover _ _ _)

pub split_seat-recv-requires : goal.split_seat-recv-requires
split_seat-recv-requires c = (search rules, search rules, splits_off OfReceiver _ _ _)

pub split_seat-back-requires : goal.split_seat-back-requires
split_seat-back-requires c = (search rules, search rules, splits_off OfWayBack _ _ _)

pub split_seat-cut-requires : goal.split_seat-cut-requires
split_seat-cut-requires c = (search rules, search rules, splits_off OfCut _ _ _)
