use Rattle.std.proofs.Common.{◌*◌, arith}
use Rattle.lane_core.proofs.Bytes.{put_chunk_is}
use Rattle.lane_core.proofs.slot.put_chunk.Goals as goal

pub returns : goal.returns
returns c = put_chunk_is c.args.payload.now c.args.bytes.now c.copy_from_slice.new.self c.args.part (c.args.part * 128) c.min-end.result (omega arith) c.min-end.ensures (omega arith) c.copy_from_slice.ensures.after
