-- Texts as they are put together.
use Rattle.std.proofs.Common.{◌≡◌, ℕ, List, [], ◌∷◌, ◌++◌, append_assoc}
use Rattle.std.specs.Prelude.{codes}
use Rattle.std.specs.Fmt.{decimal}
use Rattle.std.proofs.lemmas.List.{append-nil}
use Rattle.replay_command.specs.Replays.{summary_text}

-- words and numbers between them, joined from the right, are those joined from the left
regrouped : (sp load acc del blk s f t g b last : List ℕ) →
    (load ++ sp) ++ (s ++ (sp ++ (f ++ ((acc ++ sp) ++ (t ++ ((del ++ sp) ++ (g ++ ((blk ++ sp) ++ (b ++ last)))))))))
    ≡ (((((((load ++ ((sp ++ s) ++ ((sp ++ f) ++ []))) ++ acc) ++ ((sp ++ t) ++ [])) ++ del) ++ ((sp ++ g) ++ [])) ++ blk) ++ ((sp ++ b) ++ [])) ++ last
regrouped sp load acc del blk s f t g b last = simp (append_assoc, append-nil)

-- The words and numbers of a load's summary, put together one by one, are the line that its definition has.
pub summary_is : (seed frames taken given blocked : ℕ) →
    codes "load " ++ (decimal seed ++ (codes " " ++ (decimal frames ++ (codes " accepted " ++ (decimal taken ++ (codes " delivered " ++ (decimal given ++ (codes " blocked " ++ (decimal blocked ++ 10 ∷ [])))))))))
    ≡ summary_text seed frames taken given blocked
summary_is seed frames taken given blocked =
    regrouped (32 ∷ []) (codes "load") (codes " accepted") (codes " delivered") (codes " blocked") (decimal seed) (decimal frames) (decimal taken) (decimal given) (decimal blocked) (10 ∷ [])
