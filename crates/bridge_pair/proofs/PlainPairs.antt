-- Two sides that make a pair which a script can declare.
use Rattle.std.proofs.Common.{◌≡◌, ℕ, zero, suc, ◌<◌, ◌≤◌, inl, true, List, ◌∷◌, replicate, arith}
use Rattle.pair_model.specs.DeclaredPlans.{Agree, AreClasses, IsPair, IsSide, SizesFit}
use Rattle.step_kinds.specs.Limits.{IsMtu}
use Rattle.step_kinds.specs.declared.plan.PairPlan.{PairPlan}

-- class 0 for each queue
pub no_classes : (n : ℕ) → AreClasses (replicate n 0)
no_classes zero queue = omega arith
no_classes (suc n) zero = omega arith
no_classes (suc n) (suc queue) = no_classes n queue

-- one class more, that of the first queue
pub class_before : (class : ℕ) (classes : List ℕ) → class < 8 → AreClasses classes → AreClasses (class ∷ classes)
class_before class classes small others zero = small
class_before class classes small others (suc queue) = others queue

-- side A speaks version 4 or 5, and the two agree where the pair starts up
pub is_pair : (pair : PairPlan) → IsSide pair.a → IsSide pair.b → 4 ≤ pair.a.version → IsMtu pair.mtu → 20 ≤ pair.mtu
    → AreClasses pair.class_a → AreClasses pair.class_b → (pair.up ≡ true → Agree pair) → SizesFit pair → IsPair pair
is_pair pair a b version mtu long class_a class_b up sizes =
    record {
      side_a = a;
      side_b = b;
      known_transport = inl version;
      mtu = mtu;
      long_header = λ _. long;
      classes_a = class_a;
      classes_b = class_b;
      up = up;
      raw = λ _. sizes;
    }
