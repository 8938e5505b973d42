-- What a word has after a key, by its parts.
use Rattle.std.proofs.Common.{◌≡◌, ℕ, Bool, true, false, ◌&&◌, Some, None, List, [], ◌∷◌, length, take, drop, nat_eq, cond, refl}
use Rattle.std.specs.Cmp.Lexicographic.{pointwise}
use Rattle.script_words.specs.Words.{behind}

-- What a word has after a key is the word without its front, if that front is the key, and else nothing.
pub behind-cuts : (key word : List ℕ) → behind key word ≡ cond (pointwise nat_eq (take (length key) word) key) (Some (drop (length key) word)) None
behind-cuts [] word = refl
behind-cuts (k ∷ key) [] = refl
behind-cuts (k ∷ key) (b ∷ word) = same (nat_eq b k) (behind-cuts key word)
  where
    same : (t : Bool) → behind key word ≡ cond (pointwise nat_eq (take (length key) word) key) (Some (drop (length key) word)) None
        → cond t (behind key word) None ≡ cond (t && pointwise nat_eq (take (length key) word) key) (Some (drop (length key) word)) None
    same true e = e
    same false e = refl
