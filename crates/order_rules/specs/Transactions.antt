-- Which transactions may overtake which, after PCI Express Base 4.0, section 2.4: posted writes, and what isn't posted,
-- of kind 2, read requests, and kind 3, completions.
use Rattle.std.specs.Prelude.{ℕ, Bool, ◌==◌, ◌&&◌, ◌||◌, not, if◌then◌else◌}
use Rattle.order_rules.specs.Order.{may_pass, relaxed, strict}

abbrev pub read_request : ℕ
read_request = 2

abbrev pub completion : ℕ
completion = 3

-- the kinds of posted writes
abbrev pub is_posted : ℕ → Bool
is_posted kind = kind == relaxed || kind == strict

-- Whether a later transaction may overtake an earlier one, of these kinds. A posted write is passed by relaxed posted
-- writes alone. What isn't posted is passed by everything, but completions keep their order.
abbrev pub may_overtake : ℕ → ℕ → Bool
may_overtake later earlier =
    if is_posted earlier then may_pass later earlier else not (later == completion && earlier == completion)
