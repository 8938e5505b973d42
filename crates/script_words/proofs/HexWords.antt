-- Words of this many bytes.
use Rattle.std.proofs.Common.{◌≡◌, ℕ, ◌*◌, Bool, true, false, not, ◌==◌, List, length, Result, Ok, Err, refl, sym, ◌∙◌, ap, arith}
use Rattle.std.proofs.lemmas.Bool.{eqb-true}
use Rattle.hex.specs.Hex.{decode_of, decode_sized}
use Rattle.hex.specs.declared.error.FromHexError.{FromHexError}
use Rattle.hex.proofs.HexLemmas.{decode_of-ok, decode_sized-twice}
use Rattle.script_words.specs.Tests.{and_then, fault_if, found_or}
use Rattle.script_words.specs.Words.{hex_of}
use Rattle.std.specs.Result.{result_ok, is_err, MatchResult}
use Rattle.script_words.specs.declared.fault.Cause.{Cause}
use Rattle.script_words.specs.declared.fault.Cause.TheVariants.{BadHex}

after_bytes : ℕ → Result (List ℕ) FromHexError → Result (List ℕ) Cause
after_bytes n r = and_then (found_or (result_ok r) BadHex) (λ bytes. and_then (fault_if (not (length bytes == n)) BadHex) (λ _. Ok bytes))

refused_bytes : (word : List ℕ) (n : ℕ) (e : FromHexError) → decode_sized word n ≡ Err e → (r : Result (List ℕ) FromHexError) → decode_of word ≡ r → after_bytes n r ≡ Err BadHex
unfolding after_bytes and_then
refused_bytes word n e h (Err d) same = refl
refused_bytes word n e h (Ok bytes) same = at_test (length bytes == n) refl
  where
    at_test : (t : Bool) → (length bytes == n) ≡ t → and_then (fault_if (not t) BadHex) (λ _. Ok bytes) ≡ Err BadHex
    at_test false is = refl
    at_test true is =
        let twice = (decode_of-ok word bytes same).2 in
        let equal = eqb-true (length bytes) n is in
        let long : length word ≡ 2 * n = omega arith in
        cc (sym h ∙ (decode_sized-twice word n long ∙ same))

-- a word that doesn't spell this many bytes
pub hex_of_refused : (word : List ℕ) (n : ℕ) (e : FromHexError) → decode_sized word n ≡ Err e → hex_of n word ≡ Err BadHex
unfolding after_bytes
hex_of_refused word n e h = refused_bytes word n e h (decode_of word) refl

-- and so a decoder into an array finds it
pub array_refused : (word : List ℕ) (n room : ℕ) (result : Result (Unit {0}) FromHexError) (out : List ℕ) → room ≡ n
    → MatchResult (decode_sized word room) (λ bytes. (result ≡ Ok tt) × (out ≡ bytes)) (λ e. result ≡ Err e) → is_err result ≡ true → hex_of n word ≡ Err BadHex
array_refused word n room result out fits told failed = by (decode_sized word room) refl told
  where
    by : (r : Result (List ℕ) FromHexError) → decode_sized word room ≡ r → MatchResult r (λ bytes. (result ≡ Ok tt) × (out ≡ bytes)) (λ e. result ≡ Err e) → hex_of n word ≡ Err BadHex
    by (Ok bytes) same (done, _) = cc (sym failed ∙ ap is_err done)
    by (Err e) same h = hex_of_refused word n e (ap (decode_sized word) (sym fits) ∙ same)
