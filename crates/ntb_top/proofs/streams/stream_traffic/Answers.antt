use Rattle.ntb_top.proofs.Endings.{streams_ended}
use Rattle.ntb_top.proofs.streams.stream_traffic.Goals as goal

pub returns-in-Ok : goal.returns-in-Ok
returns-in-Ok g c = streams_ended _ _ c.in-Ok.streams _ _ c.in-Ok.ensures c.streams_written.ensures.text c.streams_written.ensures.told c.streams_written.ensures.alone
