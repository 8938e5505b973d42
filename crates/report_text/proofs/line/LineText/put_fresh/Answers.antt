use Rattle.std.proofs.Common.{◌∙◌, ◌∷◌, ◌++◌, ap, append-nil, sym}
use Rattle.std.proofs.lemmas.Fmt.{decimal_digit}
use Rattle.std.specs.Fmt.{decimal}
use Rattle.report_text.proofs.line.LineText.put_fresh.Goals as goal

pub returns-then-number-lt10-clause-text : goal.returns-then-number-lt10-clause-text
returns-then-number-lt10-clause-text c =
    let n = c.args.number in
    c.put_word.ensures.text ∙ ap (λ digits. c.args.self.now ++ 32 ∷ digits) (sym (append-nil (decimal n) ∙ decimal_digit n c.if-number-lt10.true))
