use Rattle.std.proofs.Common.{◌≡◌, ◌∙◌, ◌+◌, ℕ, ap, sym, subst}
use Rattle.pair_model.specs.Addresses.{own_header}
use Rattle.pair_model.specs.Headers.{flags_offset}
use Rattle.host_memory.specs.Memory.{ArePromised}
use Rattle.step_kinds.specs.declared.names.Side.{Side}
use Rattle.bridge_pair.specs.Bridge.{pages_of}
use Rattle.frame_ring.proofs.posting.clear_flags.Goals as goal

pub local_write-requires-clause-promised : goal.local_write-requires-clause-promised
local_write-requires-clause-promised c =
    let rings = c.args.rings.now in
    let at : c.header_at.result + c.flags_offset.result ≡ own_header rings.plan rings.side rings.queue c.args.n + flags_offset rings.plan =
    ap (λ at. at + c.flags_offset.result) c.header_at.ensures.value ∙ ap (λ offset. own_header rings.plan rings.side rings.queue c.args.n + offset) c.flags_offset.ensures.value in
    subst (λ (at : ℕ). ArePromised at 4 (pages_of c.args.pair.now c.side.result)) (sym at)
    (subst (λ (side : Side). ArePromised (own_header rings.plan rings.side rings.queue c.args.n + flags_offset rings.plan) 4 (pages_of c.args.pair.now side)) (sym c.side.ensures.value) c.requires.promised)
