use Rattle.std.proofs.Common.{arith}
use Rattle.std.proofs.lemmas.Grind.{common_steps}
use Rattle.script_words.specs.Tests.{and_then}
use Rattle.script_words.proofs.FewSettings.{apart_push}
use Rattle.script_words.proofs.options.read_settings.Goals as goal

pub loop-word-preserved : goal.loop-word-preserved
unfolding and_then
loop-word-preserved c =
    let is_new = rw c.as_slice.ensures at c.in_ok-setting.ensures.is_new in
    record {
      read = grind (arith, common_steps);
      apart = rw c.in_ok-push.ensures.ok (apart_push c.loop-word.settings c.in_ok-setting.setting c.loop-word.invariant.apart is_new);
    }
