-- Answers that are `blocked`, counted one after another.
use Rattle.std.proofs.Common.{◌≡◌, ◌∙◌, ℕ, zero, suc, replicate, ◌+◌, ◌-◌, ◌^◌, ◌≤◌, Bool, true, false, List, [], ◌∷◌, cond, count_by, length, min, refl, ap, arith}
use Rattle.std.specs.List.{fold}
use Rattle.step_kinds.specs.declared.plan.Line.{Line}
use Rattle.ledger_model.specs.Log.{Answered}
use Rattle.step_kinds.specs.AnsweredSteps.{AnsweredStep}
use Rattle.replay_command.specs.Replays.{is_blocked, with_blocked}
use Rattle.ledger_model.specs.PlanLog.{answered_steps}

-- how many of a log were blocked
abbrev pub blocked_in : List Answered → ℕ
blocked_in log = count_by (λ made. is_blocked made.answer) log

abbrev one_more : ℕ → Answered → ℕ
one_more count made = count + cond (is_blocked made.answer) 1 0

counted_one : (b : Bool) (n : ℕ) → n + 1 ≤ 2 ^ 64 - 1 → cond b (min (n + 1) (2 ^ 64 - 1)) n ≡ n + cond b 1 0
counted_one true n few = omega arith
counted_one false n few = omega arith

one_at_most : (b : Bool) → cond b 1 0 ≤ 1
one_at_most true = omega arith
one_at_most false = omega arith

-- far below 2^64 the count is exact
pub blocked_counted : (lines : List Line) (log : List Answered) (n : ℕ) → length log ≡ length lines → n + length log ≤ 2 ^ 64 - 1 →
    fold with_blocked n (answered_steps lines log) ≡ fold one_more n log
blocked_counted [] [] n same few = refl
blocked_counted [] (made ∷ log) n same few = absurd (omega arith)
blocked_counted (line ∷ lines) [] n same few = absurd (omega arith)
blocked_counted (line ∷ lines) (made ∷ log) n same few =
    let most = one_at_most (is_blocked made.answer) in
    ap (λ (count : ℕ). fold with_blocked count (answered_steps lines log)) (counted_one (is_blocked made.answer) n (omega arith))
    ∙ blocked_counted lines log (n + cond (is_blocked made.answer) 1 0) (omega arith) (omega arith)

-- The same answer, this many times

-- Counting a blocked answer a number of times adds that number to the count, up to 2^64 - 1.
pub blocked_times : (answered : AnsweredStep) (count n : ℕ) → is_blocked answered.made.answer ≡ true → n ≤ 2 ^ 64 - 1 → fold with_blocked n (replicate count answered) ≡ min (n + count) (2 ^ 64 - 1)
blocked_times answered zero n blocked few = omega arith
blocked_times answered (suc count) n blocked few =
    let one : with_blocked n answered ≡ min (n + 1) (2 ^ 64 - 1) = ap (λ (b : Bool). cond b (min (n + 1) (2 ^ 64 - 1)) n) blocked in
    let most : min (n + 1) (2 ^ 64 - 1) ≤ 2 ^ 64 - 1 = omega arith in
    let sum : min (min (n + 1) (2 ^ 64 - 1) + count) (2 ^ 64 - 1) ≡ min (n + suc count) (2 ^ 64 - 1) = omega arith in
    ap (λ (now : ℕ). fold with_blocked now (replicate count answered)) one ∙ blocked_times answered count (min (n + 1) (2 ^ 64 - 1)) blocked most ∙ sum

-- Counting an answer that isn't blocked, however often, leaves the count as it was.
pub others_times : (answered : AnsweredStep) (count n : ℕ) → is_blocked answered.made.answer ≡ false → fold with_blocked n (replicate count answered) ≡ n
others_times answered zero n other = refl
others_times answered (suc count) n other =
    ap (λ (b : Bool). fold with_blocked (cond b (min (n + 1) (2 ^ 64 - 1)) n) (replicate count answered)) other ∙ others_times answered count n other
