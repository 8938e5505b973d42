-- Numbers that could grow without end: where one of them is this large, out of memory is answered before it is needed.
use Rattle.std.specs.Prelude.{◌<◌}
use Rattle.step_kinds.specs.Limits.{most_count}
use Rattle.step_kinds.specs.declared.plan.Counters.{Counters}

-- one more frame can be counted as sent or refused
pub record HasRoomToSend (counters : Counters) : Type 0 where
  pub tx : counters.tx < most_count
  pub tx_bytes : counters.tx_bytes < most_count
  pub refused : counters.refused < most_count

-- and one more as delivered
pub record HasRoomToDeliver (counters : Counters) : Type 0 where
  pub rx : counters.rx < most_count
  pub rx_bytes : counters.rx_bytes < most_count
  pub short : counters.short < most_count
