-- A pair whose options are in their ranges and go together is as a script can declare it.
use Rattle.std.proofs.Common.{◌≡◌, ℕ, zero, suc, ◌≤◌, ◌%◌, ◌==◌, Bool, true, false, not, ◌&&◌, ◌||◌, cond, ◌⊎◌, inl, inr, Option, Some, None, List, [], ◌∷◌, nat_le, unwrap_or, replicate, slice_index, refl, sym, ◌∙◌, ap, lit≤, lit<}
use Rattle.std.proofs.lemmas.Bool.{eqb-true, eq-eqb, leb-true, and_parts, or_cases, or_left, or_right, not-true, both_ways}
use Rattle.std.specs.List.{list_all}
use Rattle.std.specs.Option.{option_or}
use Rattle.step_kinds.specs.Limits.{most_queues, size_step, IsSize, IsMtu, IsClass}
use Rattle.step_kinds.specs.Sides.{other_side}
use Rattle.step_kinds.specs.declared.names.Side.{Side}
use Rattle.step_kinds.specs.declared.names.Side.TheVariants.{A, B}
use Rattle.step_kinds.specs.declared.plan.PairPlan.{PairPlan}
use Rattle.pair_model.specs.DeclaredPlans.{IsSide, IsPair, Agree, SizesFit}
use Rattle.pair_settings.specs.Settings.{same_key, same_scope, is_within, is_stepped, mtu_range, key_range, in_range, setting_number_at, side_number, default_version, default_queues, default_windows, default_size, size_of, side_with, mtu_in, sizes_fit, agrees, has_room_for_header, goes_together, pair_with}
use Rattle.pair_settings.specs.declared.settings.Range.{Range}
use Rattle.pair_settings.specs.declared.settings.SideKey.{SideKey}
use Rattle.pair_settings.specs.declared.settings.SideKey.TheVariants.{Size, Cap, Windows, Queues, Version}
use Rattle.pair_settings.specs.declared.settings.Setting.{Setting}
use Rattle.pair_settings.specs.declared.settings.Setting.TheVariants.{Up, Strict, Raw, Mtu, OfSide}

-- keys with one text are one key
same_key_is : (one other : SideKey) → same_key one other ≡ true → one ≡ other
same_key_is Size Size h = refl
same_key_is Size Cap h = cc
same_key_is Size Windows h = cc
same_key_is Size Queues h = cc
same_key_is Size Version h = cc
same_key_is Cap Size h = cc
same_key_is Cap Cap h = refl
same_key_is Cap Windows h = cc
same_key_is Cap Queues h = cc
same_key_is Cap Version h = cc
same_key_is Windows Size h = cc
same_key_is Windows Cap h = cc
same_key_is Windows Windows h = refl
same_key_is Windows Queues h = cc
same_key_is Windows Version h = cc
same_key_is Queues Size h = cc
same_key_is Queues Cap h = cc
same_key_is Queues Windows h = cc
same_key_is Queues Queues h = refl
same_key_is Queues Version h = cc
same_key_is Version Size h = cc
same_key_is Version Cap h = cc
same_key_is Version Windows h = cc
same_key_is Version Queues h = cc
same_key_is Version Version h = refl

-- a range doesn't ask which side it is for
in_range_scope : (key : SideKey) (one other : Option Side) (n : ℕ) → in_range (OfSide key one n) ≡ in_range (OfSide key other n)
in_range_scope key one other n = refl

here_or_later : (key other : SideKey) (side scope : Option Side) (m : ℕ) (settings : List Setting) (n : ℕ) (t : Bool) → (same_key key other && same_scope side scope) ≡ t → in_range (OfSide other scope m) ≡ true
    → (setting_number_at key side settings ≡ Some n → in_range (OfSide key None n) ≡ true) → cond t (Some m) (setting_number_at key side settings) ≡ Some n → in_range (OfSide key None n) ≡ true
here_or_later key other side scope m settings n true is here later e =
    let same : key ≡ other = same_key_is key other (and_parts (same_key key other) (same_scope side scope) is).0 in
    let number : m ≡ n = cc in
    ap (λ k. in_range (OfSide k None n)) same ∙ (ap (λ j. in_range (OfSide other None j)) (sym number) ∙ (in_range_scope other None scope m ∙ here))
here_or_later key other side scope m settings n false is here later e = later e

-- the number of an option in its range
number_in_range : (key : SideKey) (side : Option Side) (settings : List Setting) (n : ℕ) → list_all in_range settings ≡ true → setting_number_at key side settings ≡ Some n
    → in_range (OfSide key None n) ≡ true
number_in_range key side [] n all h = cc
number_in_range key side (Up ∷ settings) n all h = number_in_range key side settings n all h
number_in_range key side (Strict ∷ settings) n all h = number_in_range key side settings n all h
number_in_range key side (Raw ∷ settings) n all h = number_in_range key side settings n all h
number_in_range key side (Mtu m ∷ settings) n all h = number_in_range key side settings n (and_parts (in_range (Mtu m)) (list_all in_range settings) all).1 h
number_in_range key side (OfSide other scope m ∷ settings) n all h =
    let parts = and_parts (in_range (OfSide other scope m)) (list_all in_range settings) all in
    here_or_later key other side scope m settings n (same_key key other && same_scope side scope) refl parts.0 (number_in_range key side settings n parts.1) h

-- a side's number is in its range where the default is
side_in_range : (settings : List Setting) (key : SideKey) (side : Side) (default : ℕ) → list_all in_range settings ≡ true → in_range (OfSide key None default) ≡ true
    → in_range (OfSide key None (side_number settings key side default)) ≡ true
side_in_range settings key side default all h = by (setting_number_at key (Some side) settings) refl (setting_number_at key None settings) refl
  where
    by : (own : Option ℕ) → setting_number_at key (Some side) settings ≡ own → (plain : Option ℕ) → setting_number_at key None settings ≡ plain
        → in_range (OfSide key None (unwrap_or (option_or own plain) default)) ≡ true
    by (Some n) is plain e = number_in_range key (Some side) settings n all is
    by None is (Some n) e = number_in_range key None settings n all e
    by None is None e = h

within : (range : Range) (n : ℕ) → is_within range n ≡ true → (range.least ≤ n) × (n ≤ range.most)
within range n h = let parts = and_parts (nat_le range.least n) (nat_le n range.most) h in (leb-true range.least n parts.0, leb-true n range.most parts.1)

within_key : (key : SideKey) (n : ℕ) → in_range (OfSide key None n) ≡ true → ((key_range key).least ≤ n) × (n ≤ (key_range key).most)
within_key key n h = within (key_range key) n (and_parts (is_within (key_range key) n) (is_stepped key n) h).0

sized : (n : ℕ) → in_range (OfSide Size None n) ≡ true → IsSize n
sized n h =
    let range = within_key Size n h in
    (range.0, range.1, eqb-true (n % size_step) 0 (and_parts (is_within (key_range Size) n) (is_stepped Size n) h).1)

-- each side
size_in_range : (settings : List Setting) (side : Side) → list_all in_range settings ≡ true → in_range (OfSide Size None (size_of settings side)) ≡ true
size_in_range settings side all = side_in_range settings Size side default_size all refl

side_fits : (settings : List Setting) (side : Side) → list_all in_range settings ≡ true → IsSide (side_with settings side)
side_fits settings side all = record {
  known_version = within_key Version (side_number settings Version side default_version) (side_in_range settings Version side default_version all refl);
  queues = within_key Queues (side_number settings Queues side default_queues) (side_in_range settings Queues side default_queues all refl);
  windows = within_key Windows (side_number settings Windows side default_windows) (side_in_range settings Windows side default_windows all refl);
  size = sized (size_of settings side) (size_in_range settings side all);
  cap = sized (side_number settings Cap side (size_of settings (other_side side)))
      (side_in_range settings Cap side (size_of settings (other_side side)) all (size_in_range settings (other_side side) all));
}

mtu_fits : (settings : List Setting) → list_all in_range settings ≡ true → IsMtu (mtu_in settings)
mtu_fits [] all = (lit≤ tt, lit≤ tt)
mtu_fits (Up ∷ settings) all = mtu_fits settings all
mtu_fits (Strict ∷ settings) all = mtu_fits settings all
mtu_fits (Raw ∷ settings) all = mtu_fits settings all
mtu_fits (Mtu n ∷ settings) all = within mtu_range n (and_parts (in_range (Mtu n)) (list_all in_range settings) all).0
mtu_fits (OfSide key side n ∷ settings) all = mtu_fits settings (and_parts (in_range (OfSide key side n)) (list_all in_range settings) all).1

-- The tests of the pair as a whole

sizes_agree : (pair : PairPlan) → sizes_fit pair ≡ true → SizesFit pair
sizes_agree pair h =
    let parts = and_parts (nat_le pair.a.size pair.b.cap) (nat_le pair.b.size pair.a.cap) h in
    (leb-true pair.a.size pair.b.cap parts.0, leb-true pair.b.size pair.a.cap parts.1)

-- A pair that passes the test `agrees` has versions from 4 on, equal queues and windows, and sizes that fit.
pub sides_agree : (pair : PairPlan) → agrees pair ≡ true → Agree pair
sides_agree pair h =
    let versions_rest = and_parts (nat_le 4 pair.a.version && nat_le 4 pair.b.version) ((pair.a.queues == pair.b.queues) && ((pair.a.windows == pair.b.windows) && sizes_fit pair)) h in
    let versions = and_parts (nat_le 4 pair.a.version) (nat_le 4 pair.b.version) versions_rest.0 in
    let queues_rest = and_parts (pair.a.queues == pair.b.queues) ((pair.a.windows == pair.b.windows) && sizes_fit pair) versions_rest.1 in
    let windows_rest = and_parts (pair.a.windows == pair.b.windows) (sizes_fit pair) queues_rest.1 in
    record {
      versions = (leb-true 4 pair.a.version versions.0, leb-true 4 pair.b.version versions.1);
      queues = eqb-true pair.a.queues pair.b.queues queues_rest.0;
      windows = eqb-true pair.a.windows pair.b.windows windows_rest.0;
      sizes = sizes_agree pair windows_rest.1;
    }

known : (a b : ℕ) → (nat_le 4 a || nat_le 4 b) ≡ true → (4 ≤ a) ⊎ (4 ≤ b)
known a b h = elim (or_cases (nat_le 4 a) (nat_le 4 b) h) [ inl x ↦ inl (leb-true 4 a x) | inr y ↦ inr (leb-true 4 b y) ]

long_header : (a b mtu : ℕ) → (not ((a == 5) || (b == 5)) || nat_le 20 mtu) ≡ true → (a ≡ 5) ⊎ (b ≡ 5) → 20 ≤ mtu
long_header a b mtu h (inl x) = by (or_cases (not ((a == 5) || (b == 5))) (nat_le 20 mtu) h) where
  by : (not ((a == 5) || (b == 5)) ≡ true) ⊎ (nat_le 20 mtu ≡ true) → 20 ≤ mtu
  by (inl no_five) = absurd (both_ways ((a == 5) || (b == 5)) (not-true ((a == 5) || (b == 5)) no_five) (or_left (a == 5) (b == 5) (eq-eqb a 5 x)))
  by (inr room) = leb-true 20 mtu room
long_header a b mtu h (inr y) = by (or_cases (not ((a == 5) || (b == 5))) (nat_le 20 mtu) h) where
  by : (not ((a == 5) || (b == 5)) ≡ true) ⊎ (nat_le 20 mtu ≡ true) → 20 ≤ mtu
  by (inl no_five) = absurd (both_ways ((a == 5) || (b == 5)) (not-true ((a == 5) || (b == 5)) no_five) (or_right (a == 5) (b == 5) (eq-eqb b 5 y)))
  by (inr room) = leb-true 20 mtu room

-- an option that asks for a test
asked : (option test : Bool) → (not option || test) ≡ true → option ≡ true → test ≡ true
asked true test h e = h
asked false test h e = cc e

no_classes : (n k : ℕ) → IsClass (slice_index (replicate n 0) k)
no_classes zero k = lit< tt
no_classes (suc n) zero = lit< tt
no_classes (suc n) (suc k) = no_classes n k

-- A pair whose options are each in their range and go together is one that a script can declare.
pub pair_fits : (name : List ℕ) (settings : List Setting) → list_all in_range settings ≡ true → goes_together (pair_with name settings) ≡ true → IsPair (pair_with name settings)
pair_fits name settings all together =
    let pair : PairPlan = pair_with name settings in
    let version_rest = and_parts (nat_le 4 pair.a.version || nat_le 4 pair.b.version)
    (has_room_for_header pair && ((not pair.up || agrees pair) && (not pair.raw || sizes_fit pair))) together in
    let header_rest = and_parts (has_room_for_header pair) ((not pair.up || agrees pair) && (not pair.raw || sizes_fit pair)) version_rest.1 in
    let up_raw = and_parts (not pair.up || agrees pair) (not pair.raw || sizes_fit pair) header_rest.1 in
    record {
      side_a = side_fits settings A all;
      side_b = side_fits settings B all;
      known_transport = known pair.a.version pair.b.version version_rest.0;
      mtu = mtu_fits settings all;
      long_header = long_header pair.a.version pair.b.version pair.mtu header_rest.0;
      classes_a = no_classes most_queues;
      classes_b = no_classes most_queues;
      up = λ e. sides_agree pair (asked pair.up (agrees pair) up_raw.0 e);
      raw = λ e. sizes_agree pair (asked pair.raw (sizes_fit pair) up_raw.1 e);
    }
