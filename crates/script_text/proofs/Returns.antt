-- A line with and without the carriage return that may end it.
use Rattle.std.proofs.Common.{◌≡◌, ◌≢◌, ℕ, zero, suc, ◌==◌, false, List, [], ◌∷◌, length, get_or, take, refl, ap, arith}
use Rattle.std.proofs.lemmas.Bool.Decides.{nat_tests}
use Rattle.script_words.specs.Words.{without_return}

-- A line that ends with a carriage return, without its last byte, is the line without its return.
pub return_dropped : (line : List ℕ) (n : ℕ) → length line ≡ suc n → get_or line n 0 ≡ 13 → take n line ≡ without_return line
return_dropped [] n h e = absurd (omega arith)
return_dropped (b ∷ []) zero h e = rw e refl
return_dropped (b ∷ []) (suc n) h e = absurd (omega arith)
return_dropped (b ∷ c ∷ bytes) zero h e = absurd (omega arith)
return_dropped (b ∷ c ∷ bytes) (suc n) h e = ap (λ line. b ∷ line) (return_dropped (c ∷ bytes) n (omega arith) e)

lone_byte : (b : ℕ) → b ≢ 13 → (b == 13) ≡ false
lone_byte b e = grind (arith, nat_tests)

-- A line whose last byte isn't a carriage return is the same line without its return.
pub return_missing : (line : List ℕ) (n : ℕ) → length line ≡ suc n → get_or line n 0 ≢ 13 → line ≡ without_return line
return_missing [] n h e = absurd (omega arith)
return_missing (b ∷ []) zero h e = rw (lone_byte b e) refl
return_missing (b ∷ []) (suc n) h e = absurd (omega arith)
return_missing (b ∷ c ∷ bytes) zero h e = absurd (omega arith)
return_missing (b ∷ c ∷ bytes) (suc n) h e = ap (λ line. b ∷ line) (return_missing (c ∷ bytes) n (omega arith) e)
