-- A number of four bytes reads back.
use Rattle.std.proofs.Common.{◌≡◌, ℕ, ◌<◌, ◌^◌, [], Some, ap}
use Rattle.byteorder.specs.Numbers.{little_number-reads_back}
use Rattle.stream_model.specs.Numbers.{number_frame, number_in}

-- A number below 2^32 is what its frame of four bytes says when it is read back.
pub number_in-number_frame : (n : ℕ) → n < 2 ^ 32 → number_in (number_frame n) ≡ Some n
unfolding number_frame number_in
number_in-number_frame n below = ap (λ (m : ℕ). Some m) (little_number-reads_back 4 n [] below)
