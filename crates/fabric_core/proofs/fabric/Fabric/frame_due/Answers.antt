use Rattle.std.proofs.Common.{◌≡◌, ℕ, IfOk, List, OnErr, Option, subst}
use Rattle.std.specs.Prelude.{IsSome}
use Rattle.frame_ring.specs.Calls.{port_frame_due}
use Rattle.fabric_rule.specs.Parts.{PairState, queue_of}
use Rattle.fabric_core.proofs.FramesDue.{due_is}
use Rattle.fabric_core.proofs.fabric.Fabric.frame_due.Goals as goal

pub returns-clause-value : goal.returns-clause-value
returns-clause-value c =
    subst (λ (frame : Option (List ℕ)). IfOk c.frame_due.result (λ due. due ≡ frame)) (due_is c.args.self.now c.args.own)
    (subst (λ (pair : PairState). IfOk c.frame_due.result (λ due. due ≡ port_frame_due (queue_of pair c.args.own.from c.args.own.queue).queue.port pair.bridge)) c.pair.ensures c.frame_due.ensures.value)

pub returns-clause-wants : goal.returns-clause-wants
returns-clause-wants c =
    subst (λ (frame : Option (List ℕ)). OnErr c.frame_due.result (IsSome frame)) (due_is c.args.self.now c.args.own)
    (subst (λ (pair : PairState). OnErr c.frame_due.result (IsSome (port_frame_due (queue_of pair c.args.own.from c.args.own.queue).queue.port pair.bridge))) c.pair.ensures c.frame_due.ensures.wants)
