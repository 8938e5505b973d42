use Rattle.std.proofs.Common.{◌≡◌, ℕ, length, rules, arith}
use Rattle.std.proofs.lemmas.Grind.{common_steps}
use Rattle.queue_pair.specs.Gates.{begin_answer}
use Rattle.queue_pair.specs.declared.BeginAnswer.TheVariants.{Ok as QueueBegun}
use Rattle.fabric_core.proofs.FrameTurns.{refused_begin}
use Rattle.fabric_core.proofs.QueueCalls.{refused_turn}
use Rattle.fabric_core.proofs.queues.QueueBox.begin.Goals as goal

-- a refusal changes nothing
pub returns : goal.returns
returns c =
    let other : (number : ℕ) → begin_answer c.args.self.now.queue c.args.pair.now (length c.args.frame.now) ≡ QueueBegun number → ⊥ =
    λ number is. c.in_default.not-Ok number (first_of (search (rules, is), grind (arith, common_steps))) in
    refused_turn _ _ c.args.self.now c.args.pair.now (first_of (search rules, grind (arith, common_steps)))
    (refused_begin c.args.self.now c.args.pair.now c.args.frame.now other) c.requires.ready.pages
