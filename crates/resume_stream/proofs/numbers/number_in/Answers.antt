use Rattle.std.proofs.Common.{◌≡◌, ℕ, Bool, true, false, cond, eqb, List, Some, None, length, ap, sym, arith}
use Rattle.std.proofs.lemmas.Bool.Decides.{nat_tests}
use Rattle.byteorder.specs.Endian.{little_number}
use Rattle.stream_model.specs.Numbers.{number_in}
use Rattle.resume_stream.proofs.numbers.number_in.Goals as goal

with_test : (bytes : List ℕ) (b : Bool) → eqb (length bytes) 4 ≡ b → number_in bytes ≡ cond b (Some (little_number 4 bytes)) None
unfolding number_in
with_test bytes b e = ap (λ (t : Bool). cond t (Some (little_number 4 bytes)) None) e

pub returns-then-len-eq4 : goal.returns-then-len-eq4
returns-then-len-eq4 c =
    let bytes = c.args.frame.now in
    let four : eqb (length bytes) 4 ≡ true = grind (arith, nat_tests) in
    let e = with_test bytes true four in
    cc

pub returns-else-len-eq4 : goal.returns-else-len-eq4
returns-else-len-eq4 c =
    let bytes = c.args.frame.now in
    let other : eqb (length bytes) 4 ≡ false = grind (arith, nat_tests) in
    sym (with_test bytes false other)
