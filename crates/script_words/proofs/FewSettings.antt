-- The options of a pair, of which none stands twice, are few.
use Rattle.std.proofs.Common.{◌≡◌, ℕ, ◌+◌, ◌*◌, ◌<◌, ◌≤◌, true, false, inl, inr, nat_eq, Option, Some, None, List, [], ◌∷◌, ◌++◌, length, map, refl, sym, subst, arith}
use Rattle.std.proofs.lemmas.Bool.{and_from, both_ways, eqb-true, ne_eqb, or_cases, or_from, or_parts}
use Rattle.std.proofs.lemmas.Cmp.{nat_eq_equiv}
use Rattle.std.proofs.lemmas.List.{length-map, map-append}
use Rattle.std.proofs.lemmas.Map.Keys.{IsDistinct-push}
use Rattle.std.proofs.lemmas.Map.Steps.{length-le_from_distinct_below}
use Rattle.std.specs.List.{IsDistinct, list_any}
use Rattle.step_kinds.specs.declared.names.Side.{Side}
use Rattle.step_kinds.specs.declared.names.Side.TheVariants.{A, B}
use Rattle.pair_settings.specs.Settings.{same_key, same_scope, same_setting, has_setting}
use Rattle.pair_settings.specs.declared.settings.SideKey.{SideKey}
use Rattle.pair_settings.specs.declared.settings.SideKey.TheVariants.{Size, Cap, Windows, Queues, Version}
use Rattle.pair_settings.specs.declared.settings.Setting.{Setting}
use Rattle.pair_settings.specs.declared.settings.Setting.TheVariants.{Up, Strict, Raw, Mtu, OfSide}

-- Options by numbers

key_number : SideKey → ℕ
key_number Size = 0
key_number Cap = 1
key_number Windows = 2
key_number Queues = 3
key_number Version = 4

scope_number : Option Side → ℕ
scope_number None = 0
scope_number (Some A) = 1
scope_number (Some B) = 2

-- the number of an option, whatever its own number is
setting_number : Setting → ℕ
setting_number Up = 0
setting_number Strict = 1
setting_number Raw = 2
setting_number (Mtu n) = 3
setting_number (OfSide key side n) = 4 + (key_number key * 3 + scope_number side)

key_below : (key : SideKey) → key_number key < 5
unfolding key_number
key_below Size = omega arith
key_below Cap = omega arith
key_below Windows = omega arith
key_below Queues = omega arith
key_below Version = omega arith

scope_below : (side : Option Side) → scope_number side < 3
unfolding scope_number
scope_below None = omega arith
scope_below (Some A) = omega arith
scope_below (Some B) = omega arith

setting_below : (setting : Setting) → setting_number setting < 19
unfolding setting_number
setting_below Up = omega arith
setting_below Strict = omega arith
setting_below Raw = omega arith
setting_below (Mtu n) = omega arith
setting_below (OfSide key side n) = let keys = key_below key in let scopes = scope_below side in omega arith

same_key_by_number : (one other : SideKey) → key_number one ≡ key_number other → same_key one other ≡ true
unfolding key_number
same_key_by_number Size Size e = refl
same_key_by_number Size Cap e = absurd (omega (arith, e))
same_key_by_number Size Windows e = absurd (omega (arith, e))
same_key_by_number Size Queues e = absurd (omega (arith, e))
same_key_by_number Size Version e = absurd (omega (arith, e))
same_key_by_number Cap Size e = absurd (omega (arith, e))
same_key_by_number Cap Cap e = refl
same_key_by_number Cap Windows e = absurd (omega (arith, e))
same_key_by_number Cap Queues e = absurd (omega (arith, e))
same_key_by_number Cap Version e = absurd (omega (arith, e))
same_key_by_number Windows Size e = absurd (omega (arith, e))
same_key_by_number Windows Cap e = absurd (omega (arith, e))
same_key_by_number Windows Windows e = refl
same_key_by_number Windows Queues e = absurd (omega (arith, e))
same_key_by_number Windows Version e = absurd (omega (arith, e))
same_key_by_number Queues Size e = absurd (omega (arith, e))
same_key_by_number Queues Cap e = absurd (omega (arith, e))
same_key_by_number Queues Windows e = absurd (omega (arith, e))
same_key_by_number Queues Queues e = refl
same_key_by_number Queues Version e = absurd (omega (arith, e))
same_key_by_number Version Size e = absurd (omega (arith, e))
same_key_by_number Version Cap e = absurd (omega (arith, e))
same_key_by_number Version Windows e = absurd (omega (arith, e))
same_key_by_number Version Queues e = absurd (omega (arith, e))
same_key_by_number Version Version e = refl

same_scope_by_number : (one other : Option Side) → scope_number one ≡ scope_number other → same_scope one other ≡ true
unfolding scope_number
same_scope_by_number None None e = refl
same_scope_by_number None (Some A) e = absurd (omega (arith, e))
same_scope_by_number None (Some B) e = absurd (omega (arith, e))
same_scope_by_number (Some A) None e = absurd (omega (arith, e))
same_scope_by_number (Some A) (Some A) e = refl
same_scope_by_number (Some A) (Some B) e = absurd (omega (arith, e))
same_scope_by_number (Some B) None e = absurd (omega (arith, e))
same_scope_by_number (Some B) (Some A) e = absurd (omega (arith, e))
same_scope_by_number (Some B) (Some B) e = refl

same_by_number : (one other : Setting) → setting_number one ≡ setting_number other → same_setting one other ≡ true
unfolding setting_number
same_by_number Up Up e = refl
same_by_number Up Strict e = absurd (omega (arith, e))
same_by_number Up Raw e = absurd (omega (arith, e))
same_by_number Up (Mtu m) e = absurd (omega (arith, e))
same_by_number Up (OfSide other scope m) e = absurd (omega (arith, e))
same_by_number Strict Up e = absurd (omega (arith, e))
same_by_number Strict Strict e = refl
same_by_number Strict Raw e = absurd (omega (arith, e))
same_by_number Strict (Mtu m) e = absurd (omega (arith, e))
same_by_number Strict (OfSide other scope m) e = absurd (omega (arith, e))
same_by_number Raw Up e = absurd (omega (arith, e))
same_by_number Raw Strict e = absurd (omega (arith, e))
same_by_number Raw Raw e = refl
same_by_number Raw (Mtu m) e = absurd (omega (arith, e))
same_by_number Raw (OfSide other scope m) e = absurd (omega (arith, e))
same_by_number (Mtu n) Up e = absurd (omega (arith, e))
same_by_number (Mtu n) Strict e = absurd (omega (arith, e))
same_by_number (Mtu n) Raw e = absurd (omega (arith, e))
same_by_number (Mtu n) (Mtu m) e = refl
same_by_number (Mtu n) (OfSide other scope m) e = absurd (omega (arith, e))
same_by_number (OfSide key side n) Up e = absurd (omega (arith, e))
same_by_number (OfSide key side n) Strict e = absurd (omega (arith, e))
same_by_number (OfSide key side n) Raw e = absurd (omega (arith, e))
same_by_number (OfSide key side n) (Mtu m) e = absurd (omega (arith, e))
same_by_number (OfSide key side n) (OfSide other scope m) e =
    let low : scope_number side < 3 = scope_below side in
    let lower : scope_number scope < 3 = scope_below scope in
    let keys : key_number key ≡ key_number other = omega arith in
    let scopes : scope_number side ≡ scope_number scope = omega arith in
    and_from (same_key key other) (same_scope side scope) (same_key_by_number key other keys) (same_scope_by_number side scope scopes)

-- Options none of which stands twice

-- no two of them are the same one
pub Apart : List Setting → Type 0
Apart settings = IsDistinct nat_eq (map setting_number settings)

-- In an empty list of settings none stands twice.
pub apart_none : Apart []
unfolding Apart IsDistinct
apart_none = tt

other_number : (one other : Setting) → same_setting one other ≡ false → nat_eq (setting_number one) (setting_number other) ≡ false
other_number one other e = ne_eqb (setting_number one) (setting_number other) (λ same. both_ways (same_setting one other) e (same_by_number one other same))

other_numbers : (setting : Setting) (settings : List Setting) → has_setting setting settings ≡ false → list_any (nat_eq (setting_number setting)) (map setting_number settings) ≡ false
other_numbers setting [] e = refl
other_numbers setting (first ∷ settings) e =
    let parts = or_parts (same_setting setting first) (has_setting setting settings) e in
    or_from (nat_eq (setting_number setting) (setting_number first)) (list_any (nat_eq (setting_number setting)) (map setting_number settings)) (other_number setting first parts.0) (other_numbers setting settings parts.1)

-- one more, which isn't there yet
pub apart_push : (settings : List Setting) (setting : Setting) → Apart settings → has_setting setting settings ≡ false → Apart (settings ++ setting ∷ [])
unfolding Apart
apart_push settings setting apart e =
    subst (IsDistinct nat_eq) (sym (map-append setting_number settings (setting ∷ [])))
    (IsDistinct-push nat_eq_equiv (map setting_number settings) (setting_number setting) apart (other_numbers setting settings e))

numbers_below : (settings : List Setting) (q : ℕ) → list_any (nat_eq q) (map setting_number settings) ≡ true → q < 19
numbers_below [] q e = cc e
numbers_below (first ∷ settings) q e = elim (or_cases (nat_eq q (setting_number first)) (list_any (nat_eq q) (map setting_number settings)) e) [
  | inl here ↦ let same : q ≡ setting_number first = eqb-true q (setting_number first) here in let low = setting_below first in omega arith
  | inr later ↦ numbers_below settings q later
]

-- they are few
pub few_settings : (settings : List Setting) → Apart settings → length settings ≤ 19
unfolding Apart
few_settings settings apart =
    let same = length-map settings setting_number in
    let few = length-le_from_distinct_below (map setting_number settings) 19 apart (numbers_below settings) in
    omega arith
