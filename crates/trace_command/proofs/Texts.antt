-- Texts that grow by parts.
use Rattle.std.proofs.Common.{◌≡◌, ℕ, List, ◌++◌, sym, ap, ◌∙◌, append_assoc}

-- a loop's text, one part more
pub grown : (text new old before part after : List ℕ) → text ≡ old ++ before → new ≡ text ++ part → after ≡ before ++ part → new ≡ old ++ after
grown text new old before part after was is more = is ∙ ap (λ t. t ++ part) was ∙ append_assoc old before part ∙ ap (λ t. old ++ t) (sym more)
