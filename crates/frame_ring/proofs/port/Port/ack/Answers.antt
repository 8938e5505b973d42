use Rattle.std.proofs.Common.{◌∙◌, ap, sym, subst}
use Rattle.pair_model.specs.RingWrites.{index_write}
use Rattle.lane_model.specs.Tests.{is_cleared}
use Rattle.step_kinds.specs.Sides.{other_side}
use Rattle.bridge_pair.specs.Bridge.{pages_of}
use Rattle.frame_ring.specs.Ports.{port_seen}
use Rattle.frame_ring.specs.PortView.{IsReadyToLand}
use Rattle.frame_ring.proofs.Ready.{cleared_index_word, pages_seen}
use Rattle.frame_ring.proofs.port.Port.ack.Goals as goal

pub post_index-requires-clause-pages : goal.post_index-requires-clause-pages
post_index-requires-clause-pages c =
    let port = port_seen c.self.inside in
    let pair = c.args.pair.now in
    subst (λ n. IsReadyToLand port.plan port.side (pages_of pair (other_side port.side)) (index_write port.plan port.side port.queue n)) (sym c.last_got-number.ensures)
    (cleared_index_word port _ _ (ap is_cleared (sym c.phase.ensures ∙ c.in-Cleared.is)) (pages_seen port c.args.self.now pair c.self.view_is c.requires.pages))
