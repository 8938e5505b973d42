-- The search for the first window that is too large, window by window.
use Rattle.std.proofs.Common.{◌≡◌, ℕ, suc, ◌+◌, ◌-◌, ◌<◌, Bool, false, find, arith}
use Rattle.lane_model.specs.Lane.{count_from}

passed : (test : ℕ → Bool) (m next more left : ℕ) → test m ≡ false → next ≡ suc m → more ≡ suc left → find test (count_from m more) ≡ find test (count_from next left)
passed test m next more left fits is_next is_more = rw (is_next, is_more, fits)

-- where one passes, the search goes on with the next
pub next_size : (test : ℕ → Bool) (m windows : ℕ) → m < windows → test m ≡ false → find test (count_from m (windows - m)) ≡ find test (count_from (m + 1) (windows - (m + 1)))
next_size test m windows within fits = passed test m (m + 1) (windows - m) (windows - (m + 1)) fits (omega arith) (omega arith)
