use Rattle.std.proofs.Common.{◌∙◌, ap, sym, subst, rules, arith}
use Rattle.std.proofs.lemmas.Grind.{common_steps}
use Rattle.lane_model.specs.Tests.{is_copying}
use Rattle.step_kinds.specs.Sides.{other_side}
use Rattle.bridge_pair.specs.Bridge.{pages_of}
use Rattle.frame_ring.specs.Port.{Receiving, with_receiving}
use Rattle.frame_ring.specs.Ports.{port_seen}
use Rattle.frame_ring.specs.PortView.{HasPortPages}
use Rattle.frame_ring.proofs.Ready.{copied_ready, pages_seen}
use Rattle.frame_ring.proofs.port.Port.copy.Goals as goal

pub returns : goal.returns
returns c =
    let port = port_seen c.self.inside in
    let pair = c.args.pair.now in
    record {
      answer = first_of (search rules, grind (arith, common_steps));
      after = first_of (search rules, grind (arith, common_steps));
      ready = λ there.
          subst (λ (receiving : Receiving). HasPortPages (with_receiving port receiving) (pages_of pair port.side) (pages_of pair (other_side port.side))) (sym c.copy.ensures.after)
          (copied_ready port _ _ _ (ap is_copying (sym c.phase.ensures ∙ c.in-Copying.is)) (pages_seen port c.args.self.now pair c.self.view_is there));
    }
