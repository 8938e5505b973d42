-- A header, by the words that stand from its place on.
use Rattle.std.proofs.Common.{◌≡◌, ◌∙◌, ◌+◌, ℕ, Bool, true, false, ◌==◌, sym, ap, arith, if◌then◌else◌}
use Rattle.pair_model.specs.Headers.{header_with}
use Rattle.pair_model.specs.Sizes.{agreed_version, header_bytes}
use Rattle.step_kinds.specs.declared.plan.PairPlan.{PairPlan}

-- On version 5 the number of entries that follow stands first, then version, length and flags.
pub header_on_five : (plan : PairPlan) (word : ℕ → ℕ) (place at left ver len flags : ℕ) → agreed_version plan == 5 ≡ true → at ≡ place → left ≡ word at → ver ≡ word (at + 4) → len ≡ word (at + 8) → flags ≡ word (at + 12)
    → record { left = left; ver = ver; len = len; flags = flags } ≡ header_with plan (λ offset. word (place + offset))
header_on_five plan word place at left ver len flags five is_at is_left is_ver is_len is_flags =
    let first : at ≡ place + 0 = omega (arith, is_at) in
    rw five (cc (is_left ∙ ap word first, is_ver ∙ ap (λ (at : ℕ). word (at + 4)) is_at, is_len ∙ ap (λ (at : ℕ). word (at + 8)) is_at, is_flags ∙ ap (λ (at : ℕ). word (at + 12)) is_at))

-- On version 4 no such number stands there, and none follows.
pub header_on_four : (plan : PairPlan) (word : ℕ → ℕ) (place at ver len flags : ℕ) → agreed_version plan == 5 ≡ false → at ≡ place → ver ≡ word at → len ≡ word (at + 4) → flags ≡ word (at + 8)
    → record { left = 0; ver = ver; len = len; flags = flags } ≡ header_with plan (λ offset. word (place + offset))
header_on_four plan word place at ver len flags four is_at is_ver is_len is_flags =
    let first : at ≡ place + 0 = omega (arith, is_at) in
    rw four (cc (is_ver ∙ ap word first, is_len ∙ ap (λ (at : ℕ). word (at + 4)) is_at, is_flags ∙ ap (λ (at : ℕ). word (at + 8)) is_at))

-- A header has 16 bytes on version 5, and else 12.
pub header_size : (plan : PairPlan) (told five : Bool) → told ≡ (agreed_version plan == 5) → told ≡ five → header_bytes plan ≡ (if five then 16 else 12)
header_size plan told five is is_five = ap (λ (five : Bool). if five then 16 else 12) (sym is ∙ is_five)
