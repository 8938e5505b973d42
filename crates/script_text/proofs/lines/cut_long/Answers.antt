use Rattle.std.proofs.Common.{◌+◌, ◌==◌, ◌∷◌, ◌∙◌, ap, sym, take}
use Rattle.std.proofs.lemmas.List.{take_rest}
use Rattle.std.specs.List.{slice_split}
use Rattle.script_text.proofs.Splits.{split_nowhere, split_first}
use Rattle.script_text.proofs.lines.cut_long.Goals as goal

pub returns-in-Some-clause-parts : goal.returns-in-Some-clause-parts
returns-in-Some-clause-parts c =
    let text = c.args.text.now in
    let i = c.in-Some.i in
    split_first (λ b. b == c.args.at) text i c.in-Some.ensures.0 c.in-Some.ensures.1 ∙ ap (λ rest. take i text ∷ slice_split (λ b. b == c.args.at) rest) (sym (take_rest text (i + 1)))

pub returns-in-None-clause-parts : goal.returns-in-None-clause-parts
returns-in-None-clause-parts c = split_nowhere (λ b. b == c.args.at) c.args.text.now c.in-None.ensures
