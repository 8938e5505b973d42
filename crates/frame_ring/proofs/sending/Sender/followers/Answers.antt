use Rattle.std.proofs.Common.{ap, ◌∙◌}
use Rattle.lane_model.specs.Lane.{left_of}
use Rattle.frame_ring.specs.Outgoing.{Outgoing}
use Rattle.frame_ring.proofs.Entries.{followers_are}
use Rattle.frame_ring.proofs.sending.Sender.followers.Goals as goal

pub returns : goal.returns
returns c =
    let kept = c.self.inside in
    followers_are kept.largest kept.frame kept.piece kept.pieces c.self.invariant.pieces c.self.invariant.piece ∙ ap (λ (outgoing : Outgoing). left_of outgoing.sending.entry) c.self.view_is
