use Rattle.std.proofs.Common.{◌≡◌, ◌++◌, ◌+◌, ◌==◌, [], map, filter, length}
use Rattle.std.specs.List.{slice_split}
use Rattle.std.specs.Option.{option_map_or}
use Rattle.script_words.specs.Words as spelled
use Rattle.script_text.proofs.lines.read_long.Given as goal

abbrev pub invariant-loop-rest : goal.invariant-loop-rest
invariant-loop-rest l =
    spelled.words_of l.line ≡ map (λ word. word.now) l.words.items ++ filter spelled.is_filled (option_map_or (λ text. slice_split (λ b. b == 32) text.now) l.rest [])

abbrev pub decreases-loop-rest : goal.decreases-loop-rest
decreases-loop-rest l = option_map_or (λ text. length text.now + 1) l.rest 0
