-- The frames of a session, in the hands of its workers and after its end.
use Rattle.std.proofs.Common.{◌≡◌, ◌+◌, ◌^◌, ◌<◌, List, ◌++◌, length, ap, arith, length-append}

-- what was sent and what is to be sent are as many frames after a pass as before it
pub counted_after : {X : Type 0} (sent todo sent' todo' : List X) → sent' ++ todo' ≡ sent ++ todo → length sent + length todo < 2 ^ 62 → length sent' + length todo' < 2 ^ 62
counted_after sent todo sent' todo' order few =
    let before = length-append sent todo in
    let after = length-append sent' todo' in
    let same = ap length order in
    omega arith
