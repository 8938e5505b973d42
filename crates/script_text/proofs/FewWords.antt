-- Lines of few words: what is so of a line of one word, of two or more, is so of words of which there are as many.
use Rattle.std.proofs.Common.{◌≡◌, ℕ, ◌<◌, ◌≤◌, Bool, Result, List, [], ◌∷◌, length, get_or, map, Bor, sym, ◌∙◌, ap, subst, arith}
use Rattle.std.specs.Str.{bytes_eq}
use Rattle.script_words.specs.Before.{Given}
use Rattle.script_words.specs.Reads.{ReadsLine, result_map}
use Rattle.script_words.specs.declared.fault.LineError.{LineError}
use Rattle.script_words.specs.declared.fault.LineFault.{LineFault}

-- a word where none stands
abbrev pub no_word : Bor (List ℕ)
no_word = record { ref_ptr = (0, 0); now = [] }

module _ (P : List (List ℕ) → Type 0) where
  pub of_none : (words : List (Bor (List ℕ))) → length words < 1 → P [] → P (map (λ word. word.now) words)
  of_none [] few p = p
  of_none (a ∷ words) few p = absurd (omega arith)

  pub of_one : (words : List (Bor (List ℕ))) → 1 ≤ length words → length words < 2 → P ((get_or words 0 no_word).now ∷ []) → P (map (λ word. word.now) words)
  of_one [] some few p = absurd (omega arith)
  of_one (a ∷ []) some few p = p
  of_one (a ∷ b ∷ words) some few p = absurd (omega arith)

  pub of_two : (words : List (Bor (List ℕ))) → 2 ≤ length words → length words < 3 → P ((get_or words 0 no_word).now ∷ (get_or words 1 no_word).now ∷ []) → P (map (λ word. word.now) words)
  of_two [] some few p = absurd (omega arith)
  of_two (a ∷ []) some few p = absurd (omega arith)
  of_two (a ∷ b ∷ []) some few p = p
  of_two (a ∷ b ∷ c ∷ words) some few p = absurd (omega arith)

  pub of_three : (words : List (Bor (List ℕ))) → 3 ≤ length words → length words < 4 → P ((get_or words 0 no_word).now ∷ (get_or words 1 no_word).now ∷ (get_or words 2 no_word).now ∷ []) → P (map (λ word. word.now) words)
  of_three [] some few p = absurd (omega arith)
  of_three (a ∷ []) some few p = absurd (omega arith)
  of_three (a ∷ b ∷ []) some few p = absurd (omega arith)
  of_three (a ∷ b ∷ c ∷ []) some few p = p
  of_three (a ∷ b ∷ c ∷ d ∷ words) some few p = absurd (omega arith)

  pub of_four : (words : List (Bor (List ℕ))) → 4 ≤ length words → length words < 5 → P ((get_or words 0 no_word).now ∷ (get_or words 1 no_word).now ∷ (get_or words 2 no_word).now ∷ (get_or words 3 no_word).now ∷ []) → P (map (λ word. word.now) words)
  of_four [] some few p = absurd (omega arith)
  of_four (a ∷ []) some few p = absurd (omega arith)
  of_four (a ∷ b ∷ []) some few p = absurd (omega arith)
  of_four (a ∷ b ∷ c ∷ []) some few p = absurd (omega arith)
  of_four (a ∷ b ∷ c ∷ d ∷ []) some few p = p
  of_four (a ∷ b ∷ c ∷ d ∷ e ∷ words) some few p = absurd (omega arith)

  pub of_five : (words : List (Bor (List ℕ))) → 5 ≤ length words → length words < 6 → P ((get_or words 0 no_word).now ∷ (get_or words 1 no_word).now ∷ (get_or words 2 no_word).now ∷ (get_or words 3 no_word).now ∷ (get_or words 4 no_word).now ∷ []) → P (map (λ word. word.now) words)
  of_five [] some few p = absurd (omega arith)
  of_five (a ∷ []) some few p = absurd (omega arith)
  of_five (a ∷ b ∷ []) some few p = absurd (omega arith)
  of_five (a ∷ b ∷ c ∷ []) some few p = absurd (omega arith)
  of_five (a ∷ b ∷ c ∷ d ∷ []) some few p = absurd (omega arith)
  of_five (a ∷ b ∷ c ∷ d ∷ e ∷ []) some few p = p
  of_five (a ∷ b ∷ c ∷ d ∷ e ∷ f ∷ words) some few p = absurd (omega arith)

  pub of_seven : (words : List (Bor (List ℕ))) → 7 ≤ length words → length words < 8
      → P ((get_or words 0 no_word).now ∷ (get_or words 1 no_word).now ∷ (get_or words 2 no_word).now ∷ (get_or words 3 no_word).now ∷ (get_or words 4 no_word).now ∷ (get_or words 5 no_word).now ∷ (get_or words 6 no_word).now ∷ []) → P (map (λ word. word.now) words)
  of_seven [] some few p = absurd (omega arith)
  of_seven (a ∷ []) some few p = absurd (omega arith)
  of_seven (a ∷ b ∷ []) some few p = absurd (omega arith)
  of_seven (a ∷ b ∷ c ∷ []) some few p = absurd (omega arith)
  of_seven (a ∷ b ∷ c ∷ d ∷ []) some few p = absurd (omega arith)
  of_seven (a ∷ b ∷ c ∷ d ∷ e ∷ []) some few p = absurd (omega arith)
  of_seven (a ∷ b ∷ c ∷ d ∷ e ∷ f ∷ []) some few p = absurd (omega arith)
  of_seven (a ∷ b ∷ c ∷ d ∷ e ∷ f ∷ g ∷ []) some few p = p
  of_seven (a ∷ b ∷ c ∷ d ∷ e ∷ f ∷ g ∷ h ∷ words) some few p = absurd (omega arith)

-- what a comparison of a word with a text gave, told of the text itself
pub compared : (word read text : List ℕ) (result outcome : Bool) → result ≡ bytes_eq word read → read ≡ text → result ≡ outcome → bytes_eq word text ≡ outcome
compared word read text result outcome tested same is = sym (tested ∙ ap (bytes_eq word) same) ∙ is

-- what is due of a line is due of it where it gives the same as another
pub reads_by : {X : Type 0} (seen : X → Given) (result : Result X LineError) (due other : Result Given LineFault) → due ≡ other → ReadsLine (result_map seen result) other → ReadsLine (result_map seen result) due
reads_by seen result due other same reads = subst (λ r. ReadsLine (result_map seen result) r) (sym same) reads
