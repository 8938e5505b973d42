-- The lines of devices, one device more at a time.
use Rattle.std.proofs.Common.{◌≡◌, ℕ, zero, suc, ◌+◌, ◌<◌, ◌≤◌, List, [], ◌∷◌, ◌++◌, length, get_or, take, refl, sym, ap, ◌∙◌, append_assoc, arith, add-one}
use Rattle.std.proofs.lemmas.Grind.{flat_map-append}
use Rattle.std.proofs.lemmas.List.{append-nil, take_all}
use Rattle.std.specs.List.{flat_map, zip}
use Rattle.step_kinds.specs.declared.plan.Counters.{Counters}
use Rattle.step_kinds.specs.declared.plan.DevPlan.{DevPlan}
use Rattle.report_text.specs.Report.{device_line, device_lines}

zip_more : {X Y : Type 0} (xs : List X) (ys : List Y) (k : ℕ) (d : X) (e : Y) → k < length xs → length ys ≡ length xs →
    zip (take (suc k) xs) (take (suc k) ys) ≡ zip (take k xs) (take k ys) ++ (get_or xs k d, get_or ys k e) ∷ []
zip_more [] ys k d e within same = absurd (omega arith)
zip_more (x ∷ xs) [] k d e within same = absurd (omega arith)
zip_more (x ∷ xs) (y ∷ ys) zero d e within same = refl
zip_more (x ∷ xs) (y ∷ ys) (suc k) d e within same = ap (λ both. (x, y) ∷ both) (zip_more xs ys k d e (omega arith) (omega arith))

joined_more : {X Y : Type 0} (f : X × Y → List ℕ) (xs : List X) (ys : List Y) (k : ℕ) (d : X) (e : Y) → k < length xs → length ys ≡ length xs →
    flat_map f (zip (take (k + 1) xs) (take (k + 1) ys)) ≡ flat_map f (zip (take k xs) (take k ys)) ++ f (get_or xs k d, get_or ys k e)
joined_more f xs ys k d e within same =
    rw (add-one, zip_more xs ys k d e within same, flat_map-append f (zip (take k xs) (take k ys)) ((get_or xs k d, get_or ys k e) ∷ []))
    (ap (λ more. flat_map f (zip (take k xs) (take k ys)) ++ more) (append-nil (f (get_or xs k d, get_or ys k e))))

-- The lines of the first k+1 devices are those of the first k and then that of device k with its counters.
pub device_lines_more : (devs : List DevPlan) (counters : List Counters) (k : ℕ) (d : DevPlan) (e : Counters) → k < length devs → length counters ≡ length devs →
    device_lines (take (k + 1) devs) (take (k + 1) counters) ≡ device_lines (take k devs) (take k counters) ++ device_line (get_or devs k d) (get_or counters k e)
device_lines_more devs counters k d e within same = joined_more (λ both. device_line both.0 both.1) devs counters k d e within same

-- The lines of the first k devices are those of all where there are at most k, with as many counters.
pub device_lines_all : (devs : List DevPlan) (counters : List Counters) (k : ℕ) → length devs ≤ k → length counters ≡ length devs →
    device_lines (take k devs) (take k counters) ≡ device_lines devs counters
device_lines_all devs counters k all same = rw (take_all k devs all, take_all k counters (omega arith)) refl

-- a text that has grown by one line
pub grown : (text new old before line after : List ℕ) → text ≡ old ++ before → new ≡ text ++ line → after ≡ before ++ line → new ≡ old ++ after
grown text new old before line after was is more = is ∙ ap (λ t. t ++ line) was ∙ append_assoc old before line ∙ ap (λ t. old ++ t) (sym more)
