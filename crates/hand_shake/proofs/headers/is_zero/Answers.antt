use Rattle.std.proofs.Common.{refl}
use Rattle.bridge_pair.specs.Bridge.{bridge_bytes_of}
use Rattle.hand_shake.proofs.ZeroHeaders.{zeros_told}
use Rattle.hand_shake.proofs.headers.is_zero.Goals as goal

pub returns : goal.returns
returns g c =
    zeros_told g.row.MOST c.args.at c.args.len _ _ (bridge_bytes_of c.args.pair.now c.args.side) c.local_read.new.out c.eq.result refl refl c.requires.few c.requires.within
    c.local_read.ensures c.eq.ensures
