-- What a test that was answered says.
use Rattle.std.proofs.Common.{◌≡◌, ℕ, ◌<◌, Bool, true, false, not, nat_lt, refl}
use Rattle.std.proofs.lemmas.Bool.Decides.{Decides-ltb}

-- A test whose negation is true is false.
pub not-true : (b : Bool) → not b ≡ true → b ≡ false
not-true true e = cc e
not-true false e = refl

-- A test whose negation is false is true.
pub not-false : (b : Bool) → not b ≡ false → b ≡ true
not-false true e = refl
not-false false e = cc e

-- The test `nat_lt` of two numbers is true where the first is less than the second.
pub room-for : (few most : ℕ) → few < most → nat_lt few most ≡ true
room-for few most h = (Decides-ltb few most).1 h
