use Rattle.std.proofs.Common.{arith, ap}
use Rattle.ring_geometry.specs.Geometry.{Layout, frame_size, entries_of}
use Rattle.ring_geometry.proofs.Within.{kept_slot_within}
use Rattle.ring_geometry.proofs.Geometry.slot_at.Goals as goal

pub returns-clause-within : goal.returns-clause-within
returns-clause-within c =
    let same_window = ap (λ (l : Layout). l.window) c.self.view_is in
    let same_frame = ap frame_size c.self.view_is in
    let same_entries = ap entries_of c.self.view_is in
    let within = kept_slot_within c.self.inside c.self.invariant c.args.i (omega arith) in
    rw (c.from.ensures, c.from-2.ensures) (omega arith)
