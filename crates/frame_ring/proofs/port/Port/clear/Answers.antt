use Rattle.std.proofs.Common.{◌∙◌, ◌+◌, ap, sym, subst, rules, arith}
use Rattle.std.proofs.lemmas.Grind.{common_steps}
use Rattle.pair_model.specs.Addresses.{own_header}
use Rattle.pair_model.specs.Headers.{flags_offset}
use Rattle.host_memory.specs.Memory.{ArePromised}
use Rattle.lane_model.specs.Tests.{is_copied}
use Rattle.step_kinds.specs.Sides.{other_side}
use Rattle.bridge_pair.specs.Bridge.{Bridge, pages_of}
use Rattle.frame_ring.specs.Port.{Receiving, with_receiving}
use Rattle.frame_ring.specs.Ports.{port_seen}
use Rattle.frame_ring.specs.PortView.{HasPortPages}
use Rattle.frame_ring.proofs.Ready.{cleared_ready, copied_flags, pages_seen, pages_with_bytes}
use Rattle.frame_ring.proofs.port.Port.clear.Goals as goal

pub clear_flags-requires-clause-promised : goal.clear_flags-requires-clause-promised
clear_flags-requires-clause-promised c =
    let port = port_seen c.self.inside in
    let pair = c.args.pair.now in
    subst (λ n. ArePromised (own_header port.plan port.side port.queue n + flags_offset port.plan) 4 (pages_of pair port.side)) (sym c.last_got-number.ensures)
    (copied_flags port _ _ (ap is_copied (sym c.phase.ensures ∙ c.in-Copied.is)) (pages_seen port c.args.self.now pair c.self.view_is c.requires.pages))

pub returns : goal.returns
returns c =
    let port = port_seen c.self.inside in
    let pair = c.args.pair.now in
    let own = ap (λ (bridge : Bridge). pages_of bridge port.side) c.clear_flags.ensures ∙ pages_with_bytes pair port.side port.side _ in
    let peer = ap (λ (bridge : Bridge). pages_of bridge (other_side port.side)) c.clear_flags.ensures ∙ pages_with_bytes pair port.side (other_side port.side) _ in
    record {
      answer = first_of (search rules, grind (arith, common_steps));
      after = first_of (search rules, grind (arith, common_steps));
      pair = first_of (search rules, grind (arith, common_steps));
      ready =
          subst (λ (receiving : Receiving). HasPortPages (with_receiving port receiving) (pages_of c.clear_flags.new.pair port.side) (pages_of c.clear_flags.new.pair (other_side port.side))) (sym c.cleared.ensures)
          (rw (own, peer) (cleared_ready port _ _ (ap is_copied (sym c.phase.ensures ∙ c.in-Copied.is)) (pages_seen port c.args.self.now pair c.self.view_is c.requires.pages)));
    }
