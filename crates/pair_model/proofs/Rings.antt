-- Each queue of a declared pair has a ring: an area has 256 bytes at least.
use Rattle.std.proofs.Common.{◌≡◌, ℕ, zero, suc, ◌+◌, ◌-◌, ◌*◌, ◌/◌, ◌%◌, ◌<◌, ◌≤◌, ◌⊎◌, inl, inr, true, false, Bool, min, nat_lt, if◌then◌else◌, refl, arith, ◌==◌, ◌&&◌}
use Rattle.std.proofs.Math.Nat.{le-mul_of_pos_right, mod-eq_of_lt, mod-eq-sub-mul-div, mod-lt}
use Rattle.std.proofs.lemmas.Nat.{le-div}
use Rattle.std.proofs.lemmas.Bool.Decides.{nat_tests}
use Rattle.step_kinds.specs.Limits.{IsMtu, IsQueues, IsSize, IsWindows}
use Rattle.step_kinds.specs.Sides.{other_side}
use Rattle.step_kinds.specs.declared.names.Side.{Side}
use Rattle.step_kinds.specs.declared.names.Side.TheVariants.{A, B}
use Rattle.step_kinds.specs.declared.plan.PairPlan.{PairPlan}
use Rattle.ring_geometry.specs.Geometry.{Layout, IsPlaced, area, window_of, queues_in_window}
use Rattle.pair_model.specs.DeclaredPlans.{IsPair, IsSide}
use Rattle.pair_model.specs.PlanLaws.{EachQueueHasARing}
use Rattle.pair_model.specs.Plans.{side_plan}
use Rattle.pair_model.specs.Sizes.{header_bytes, layout_of, layout_to}

abbrev extra : Bool → ℕ
extra t = if t then 1 else 0

-- the queues of a window, by division: those of all whole turns, and one more where some are left over
shared : (windows queues turns rest more : ℕ) → 0 < windows → windows * turns + rest ≡ queues → queues ≤ 16 → (more ≡ 0) ⊎ ((more ≡ 1) × (0 < rest))
    → 0 < turns + more → (0 < turns + more) × (turns + more ≤ 16)
shared windows queues turns rest more some whole few which first =
    let h : turns ≤ turns * windows = le-mul_of_pos_right {m = windows} turns some in
    (first, grind arith)

-- where no turn is whole, the queue is one of those that are left over
no_turn : (windows queues queue : ℕ) → 0 < windows → queue < queues → queues / windows ≡ 0 → queue % windows < queues % windows
no_turn windows queues queue some among none =
    let all : queues % windows ≡ queues = rw (mod-eq-sub-mul-div queues windows, none) (omega arith) in
    let small : queues < windows = omega (arith, all, mod-lt queues some) in
    let own : queue % windows ≡ queue = mod-eq_of_lt (omega arith) in
    omega arith

one_more : (windows queues queue : ℕ) → 0 < windows → queue < queues →
    (extra (nat_lt (queue % windows) (queues % windows)) ≡ 0) ⊎ ((extra (nat_lt (queue % windows) (queues % windows)) ≡ 1) × (0 < queues % windows))
one_more windows queues queue some among = at_test (nat_lt (queue % windows) (queues % windows)) refl where
  at_test : (t : Bool) → nat_lt (queue % windows) (queues % windows) ≡ t → (extra t ≡ 0) ⊎ ((extra t ≡ 1) × (0 < queues % windows))
  at_test true is = inr (refl, grind (arith, nat_tests))
  at_test false is = inl refl

some_queue : (windows queues queue : ℕ) → 0 < windows → queue < queues → 0 < queues / windows + extra (nat_lt (queue % windows) (queues % windows))
some_queue windows queues queue some among = at_turns (queues / windows) refl where
  at_turns : (turns : ℕ) → queues / windows ≡ turns → 0 < turns + extra (nat_lt (queue % windows) (queues % windows))
  at_turns zero is = let h : queue % windows < queues % windows = no_turn windows queues queue some among is in grind (arith, nat_tests)
  at_turns (suc n) is = omega arith

few_queues : (l : Layout) → 0 < l.windows → l.queue < l.queues → l.queues ≤ 16 → (0 < queues_in_window l) × (queues_in_window l ≤ 16)
few_queues l some among few =
    shared l.windows l.queues (l.queues / l.windows) (l.queues % l.windows) (extra (nat_lt (window_of l) (l.queues % l.windows))) some (omega arith) few
    (one_more l.windows l.queues l.queue some among) (some_queue l.windows l.queues l.queue some among)

large_area : (l : Layout) → 0 < queues_in_window l → queues_in_window l ≤ 16 → 4096 ≤ l.window → 256 ≤ area l
large_area l some few size = le-div 256 l.window (queues_in_window l) some (omega arith)

-- what of a declaration a ring needs
record Fits (windows queues mtu header size : ℕ) : Type 0 where
  are_windows : IsWindows windows
  are_queues : IsQueues queues
  is_size : IsSize size
  is_mtu : IsMtu mtu
  short : (header ≡ 12) ⊎ (header ≡ 16)
  room : header + 4 ≤ mtu

placed : (l : Layout) → l.queue < l.queues → Fits l.windows l.queues l.mtu l.header l.window → IsPlaced l
placed l among fits =
    let few : (0 < queues_in_window l) × (queues_in_window l ≤ 16) = few_queues l fits.are_windows.0 among fits.are_queues.1 in
    let large : 256 ≤ area l = large_area l few.0 few.1 fits.is_size.0 in
    record {
      ring = record { some_window = fits.are_windows.0; a_queue = among; index_fits = omega arith; header_fits = fits_slot (area l) large fits.short fits.room };
      limits = record { window_fits = fits.is_size.1; windows_fit = fits.are_windows.1; queues_fit = fits.are_queues.1; mtu_fits = fits.is_mtu.1; header_fits = grind arith };
    }
  where
    fits_slot : (bytes : ℕ) → 256 ≤ bytes → (l.header ≡ 12) ⊎ (l.header ≡ 16) → l.header + 4 ≤ l.mtu → l.header + 4 ≤ min l.mtu ((bytes - 4) / 2)
    fits_slot bytes large short room = grind arith

-- the header of a declared pair fits its mtu
header_fits : (pair : PairPlan) → IsPair pair → ((header_bytes pair ≡ 12) ⊎ (header_bytes pair ≡ 16)) × (header_bytes pair + 4 ≤ pair.mtu)
header_fits pair declared = at_test (pair.a.version == 5) (pair.b.version == 5) refl refl where
  bytes : Bool → ℕ
  bytes both = if (if both then 5 else 4) == 5 then 16 else 12

  at_test : (a b : Bool) → (pair.a.version == 5) ≡ a → (pair.b.version == 5) ≡ b → ((bytes (a && b) ≡ 12) ⊎ (bytes (a && b) ≡ 16)) × (bytes (a && b) + 4 ≤ pair.mtu)
  at_test true true is_a is_b = (inr refl, omega (arith, declared.long_header (inl (grind (arith, nat_tests)))))
  at_test true false is_a is_b = (inl refl, omega (arith, declared.mtu.0))
  at_test false true is_a is_b = (inl refl, omega (arith, declared.mtu.0))
  at_test false false is_a is_b = (inl refl, omega (arith, declared.mtu.0))

side_of : (pair : PairPlan) → IsPair pair → (side : Side) → IsSide (side_plan pair side)
side_of pair declared A = declared.side_a
side_of pair declared B = declared.side_b

fits : (pair : PairPlan) → IsPair pair → (side from : Side) → Fits (side_plan pair side).windows (side_plan pair side).queues pair.mtu (header_bytes pair) (side_plan pair from).size
fits pair declared side from =
    let own : IsSide (side_plan pair side) = side_of pair declared side in
    let sender : IsSide (side_plan pair from) = side_of pair declared from in
    let header = header_fits pair declared in
    record {
      are_windows = own.windows;
      are_queues = own.queues;
      is_size = sender.size;
      is_mtu = declared.mtu;
      short = header.0;
      room = header.1;
    }

-- Each queue of a side of a pair that a script can declare has a ring to send to and one to receive in.
pub each_queue_has_a_ring : EachQueueHasARing
each_queue_has_a_ring pair side queue declared among =
    (placed (layout_of pair side queue) among (fits pair declared side side), placed (layout_to pair side queue) among (fits pair declared side (other_side side)))
