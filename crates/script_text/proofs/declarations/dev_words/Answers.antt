use Rattle.std.proofs.Common.{◌≡◌}
use Rattle.script_words.specs.Compact.{given_of}
use Rattle.script_words.specs.Declarations.{dev_words}
use Rattle.script_words.specs.Reads.{result_map}
use Rattle.script_text.proofs.FewWords.{of_seven}
use Rattle.script_text.proofs.declarations.dev_words.Goals as goal

pub returns-in-len7 : goal.returns-in-len7
returns-in-len7 c =
    of_seven (λ words. result_map given_of c.dev_line.result ≡ dev_words c.args.before.now words) c.args.words.now c.in-len7.len_at_least c.in-len7.len_below c.dev_line.ensures
