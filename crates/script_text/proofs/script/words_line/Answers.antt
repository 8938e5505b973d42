use Rattle.std.proofs.Common.{◌≡◌, ℕ, ◌-◌, ◌≤◌, Ok, List, [], ◌∷◌, length, get_or, take, drop, map, Bor, refl, sym, ◌∙◌, ap, subst, arith}
use Rattle.std.proofs.lemmas.List.{take_all}
use Rattle.script_words.specs.Before.{Before, with_given}
use Rattle.script_words.specs.Compact.{given_of}
use Rattle.script_words.specs.declared.line_gives.Given.{Given}
use Rattle.script_words.specs.declared.parts.Part.{Part}
use Rattle.script_words.specs.declared.parts.Part.TheVariants.{Declarations, Steps, Traffic}
use Rattle.script_words.specs.Reads.{result_map}
use Rattle.script_plan.specs.Sound.{Suits}
use Rattle.script_text.specs.Script.{words_line}
use Rattle.script_text.specs.SoundLines.{Held, Filled}
use Rattle.script_text.proofs.AddedLines.{adds_by, adds_none, adds_error}
use Rattle.script_text.proofs.FewWords.{no_word, of_none}
use Rattle.script_text.proofs.LinesSuit.{suits}
use Rattle.script_text.proofs.Whole.{words_fit}
use Rattle.script_text.proofs.script.words_line.Goals as goal

some_words : (words : List (Bor (List ℕ))) (other : Bor (List ℕ)) → 1 ≤ length words
    → map (λ word. word.now) words ≡ (get_or words 0 other).now ∷ map (λ word. word.now) (take (length words - 1) (drop 1 words))
some_words [] other some = absurd (omega arith)
some_words (word ∷ words) other some = ap (λ rest. word.now ∷ map (λ word. word.now) rest) (sym (take_all (length (word ∷ words) - 1) words (omega arith)))

-- the words of a line, the first of them apart, in that part of the script
line_in : (before : Before) (part : Part) (words : List (Bor (List ℕ))) (other : Bor (List ℕ)) → 1 ≤ length words → before.part ≡ part
    → words_line before before.part (map (λ word. word.now) words) ≡ words_line before part ((get_or words 0 other).now ∷ map (λ word. word.now) (take (length words - 1) (drop 1 words)))
line_in before part words other some here =
    ap (λ part. words_line before part (map (λ word. word.now) words)) here ∙ ap (words_line before part) (some_words words other some)

-- what the words of a line give in a part of the script
given_suits : (before : Before) (part : Part) (words rest : List (List ℕ)) (word : List ℕ) (given : Given) → Held before → before.part ≡ part → words ≡ word ∷ rest → Filled words
    → words_line before part (word ∷ rest) ≡ Ok (given_of given) → Suits before given
given_suits before part words rest word given held here same filled gives =
    suits before given held ((words_fit before held part here (word ∷ rest) (subst Filled same filled)).holds (given_of given) gives)

pub add-requires : goal.add-requires
add-requires c = record {
  suits =
      given_suits c.args.before.now Declarations _ _ _ c.in_ok-given-in-Declarations.given c.requires.held (sym c.part.ensures ∙ c.in-Declarations.is)
      (some_words c.args.words.now _ c.in-len1-up.len_at_least) c.requires.filled c.in_ok-given-in-Declarations.ensures;
}

pub add-requires-in-Traffic : goal.add-requires-in-Traffic
add-requires-in-Traffic c = record {
  suits =
      given_suits c.args.before.now Traffic _ _ _ c.in_ok-given-in-Traffic.given c.requires.held (sym c.part.ensures ∙ c.in-Traffic.is)
      (some_words c.args.words.now _ c.in-len1-up.len_at_least) c.requires.filled c.in_ok-given-in-Traffic.ensures;
}

pub returns-in_default : goal.returns-in_default
returns-in_default c =
    of_none (λ words. result_map (with_given c.args.line c.args.before.now) (words_line c.args.before.now c.args.before.now.part words) ≡ Ok c.args.before.now) c.args.words.now c.in_default.len_below refl

pub returns-in-Steps : goal.returns-in-Steps
returns-in-Steps c =
    adds_by c.args.line c.args.before.now c.step_line.new.before c.step_line.result _ _
    (line_in c.args.before.now Steps c.args.words.now no_word c.in-len1-up.len_at_least (sym c.part.ensures ∙ c.in-Steps.is)) c.step_line.ensures

pub returns-in_ok-add-in-Declarations : goal.returns-in_ok-add-in-Declarations
returns-in_ok-add-in-Declarations c =
    ap (result_map (with_given c.args.line c.args.before.now))
    (line_in c.args.before.now Declarations c.args.words.now no_word c.in-len1-up.len_at_least (sym c.part.ensures ∙ c.in-Declarations.is) ∙ c.in_ok-given-in-Declarations.ensures)
    ∙ ap Ok (sym c.in_ok-add-in-Declarations.ensures)

pub returns-in_err-add-in-Declarations : goal.returns-in_err-add-in-Declarations
returns-in_err-add-in-Declarations c = adds_none c.args.line c.args.before.now c.add.new.self c.from_residual-in_err-add-in-Declarations.result _ c.from_residual-in_err-add-in-Declarations.ensures.1

pub returns-in_err-given-in-Declarations : goal.returns-in_err-given-in-Declarations
returns-in_err-given-in-Declarations c =
    adds_error c.args.line c.args.before.now c.args.before.now c.from_residual.result c.in_err-given-in-Declarations.field-0.0 _ _ c.from_residual.ensures.1
    (line_in c.args.before.now Declarations c.args.words.now no_word c.in-len1-up.len_at_least (sym c.part.ensures ∙ c.in-Declarations.is)) c.in_err-given-in-Declarations.ensures

pub returns-in_ok-add-in-Traffic : goal.returns-in_ok-add-in-Traffic
returns-in_ok-add-in-Traffic c =
    ap (result_map (with_given c.args.line c.args.before.now))
    (line_in c.args.before.now Traffic c.args.words.now no_word c.in-len1-up.len_at_least (sym c.part.ensures ∙ c.in-Traffic.is) ∙ c.in_ok-given-in-Traffic.ensures)
    ∙ ap Ok (sym c.in_ok-add-in-Traffic.ensures)

pub returns-in_err-add-in-Traffic : goal.returns-in_err-add-in-Traffic
returns-in_err-add-in-Traffic c = adds_none c.args.line c.args.before.now c.add-in-Traffic.new.self c.from_residual-in_err-add-in-Traffic.result _ c.from_residual-in_err-add-in-Traffic.ensures.1

pub returns-in_err-given-in-Traffic : goal.returns-in_err-given-in-Traffic
returns-in_err-given-in-Traffic c =
    adds_error c.args.line c.args.before.now c.args.before.now c.from_residual-in_err-given-in-Traffic.result c.in_err-given-in-Traffic.field-0.0 _ _ c.from_residual-in_err-given-in-Traffic.ensures.1
    (line_in c.args.before.now Traffic c.args.words.now no_word c.in-len1-up.len_at_least (sym c.part.ensures ∙ c.in-Traffic.is)) c.in_err-given-in-Traffic.ensures
