use Rattle.std.proofs.Common.{◌≡◌, ◌∙◌, IsTrue, ap, sym, subst, rules, arith}
use Rattle.std.proofs.lemmas.Grind.{common_steps}
use Rattle.queue_pair.specs.Gates.{look_answer}
use Rattle.queue_pair.specs.declared.LookAnswer.{LookAnswer}
use Rattle.queue_pair.specs.declared.LookAnswer.TheVariants.{Ready}
use Rattle.fabric_rule.specs.Answers.{of_look}
use Rattle.fabric_rule.specs.Parts.{QueuePart}
use Rattle.fabric_core.specs.QueueCalls.{is_found}
use Rattle.fabric_core.specs.Sessions.{Tallied}
use Rattle.fabric_core.proofs.UnusedPromises.{look_more}
use Rattle.fabric_core.proofs.PromisesOfQueues.{look_wanted_keeps, looked_keeps, plain_grown_both}
use Rattle.fabric_core.proofs.MorePages.{on_err}
use Rattle.fabric_core.proofs.Phases.{look_place, ready_next}
use Rattle.fabric_core.proofs.QueueCalls.{turn_taken}
use Rattle.fabric_core.proofs.queues.QueueBox.find.Goals as goal

pub find-requires-clause-found : goal.find-requires-clause-found
find-requires-clause-found c =
    let found = subst (λ (part : QueuePart). look_answer part.queue c.args.pair.now ≡ Ready c.args.number c.args.len) (sym c.self.view_is) c.requires.found in
    found ∙ ap (λ number. Ready number c.args.len) (ready_next c.self.inside.queue c.args.pair.now c.args.number c.args.len found)

pub returns-in_err-find : goal.returns-in_err-find
returns-in_err-find c = record {
  answer = first_of (search rules, grind (arith, common_steps));
  after = first_of (search rules, grind (arith, common_steps));
  err = first_of (search rules, grind (arith, common_steps));
  wants = on_err _ (ap (λ (answer : LookAnswer). is_found (of_look answer)) c.requires.found);
  plain = plain_grown_both c.self.inside.queue.port c.find.new.self.port c.args.pair.now c.find.new.pair c.find.ensures.rest;
  keeps = look_wanted_keeps _ _ c.find.new.self c.args.pair.now c.find.new.pair _ _ c.self.view_is c.in_err-find.ensures.err c.find.ensures.rest c.find.ensures.pages c.find.ensures.flags c.requires.ready.pages;
}

-- room was taken for the frame that the entry may be the last of
pub invariant_of-self-2 : goal.invariant_of-self-2
invariant_of-self-2 c =
    let can : IsTrue c.can_deliver.result = search rules in
    record {
      room = λ later. ap (λ (tally : Tallied). tally.has_room) c.in_ok-make_room.ensures.ok;
      numbers = λ later. c.can_deliver.ensures.0 can;
    }

pub returns : goal.returns
returns c =
    turn_taken _ _ _ _ _ _ (sym (ap of_look c.requires.found)) (first_of (search rules, grind (arith, common_steps)))
    (plain_grown_both c.self.inside.queue.port c.find.new.self.port c.args.pair.now c.find.new.pair c.find.ensures.rest)
    (looked_keeps _ _ c.find.new.self _ c.args.pair.now c.find.new.pair _ _ c.self.view_is c.in_ok-find.ensures.after (look_place c.self.inside.queue c.args.pair.now) (look_more c.self.inside.queue c.args.pair.now) c.find.ensures.rest
    c.find.ensures.pages c.find.ensures.flags c.in_ok-find.ensures.ready c.requires.ready.pages)
