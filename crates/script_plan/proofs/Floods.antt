-- The frames of a flood, one after another, and their sums.
use Rattle.std.proofs.Common.{◌≡◌, ℕ, zero, suc, ◌+◌, ◌*◌, ◌%◌, ◌<◌, ◌≤◌, List, [], ◌∷◌, ◌++◌, length, map, sum, refl, ◌∙◌, ap, add-one, arith}
use Rattle.std.proofs.Math.Nat.{suc-mul, mul-le-mul_right}
use Rattle.std.proofs.lemmas.List.{map-append, length-map}
use Rattle.std.proofs.lemmas.List.Sums.{sum_by-cons, sum_by-append}
use Rattle.step_kinds.specs.declared.names.LaneName.{LaneName}
use Rattle.step_kinds.specs.declared.plan.Traffic.{Traffic}
use Rattle.step_kinds.specs.declared.plan.Traffic.TheVariants.{Send}
use Rattle.lane_model.specs.Lane.{count_from}
use Rattle.script_words.specs.Compact.{flood_of}
use Rattle.pair_model.specs.TrafficPlans.{frames_in, traffic_bytes_in}
use Rattle.script_words.specs.TrafficLines.{flood_frame}

-- The n+1 consecutive numbers from a start are the first n and then the start plus n.
pub count_from-last : (from n : ℕ) → count_from from (suc n) ≡ count_from from n ++ (from + n) ∷ []
count_from-last from zero = ap (λ k. k ∷ []) (omega arith)
count_from-last from (suc n) = ap (λ ks. from ∷ ks) (count_from-last (suc from) n ∙ ap (λ k. count_from (suc from) n ++ k ∷ []) (omega arith))

length-count_from : (from n : ℕ) → length (count_from from n) ≡ n
length-count_from from zero = refl
length-count_from from (suc n) = ap suc (length-count_from (suc from) n)

zero-first : (n : ℕ) → 0 + n ≡ n
zero-first n = omega arith

-- one more byte of a frame, and one more frame
pub flood_frame_more : (len i : ℕ) → flood_frame (len + 1) i ≡ flood_frame len i ++ ((i + len) % 256) ∷ []
flood_frame_more len i =
    ap (λ n. flood_frame n i) (add-one len) ∙ (ap (map (λ j. (i + j) % 256)) (count_from-last 0 len) ∙ (map-append (λ j. (i + j) % 256) (count_from 0 len) ((0 + len) ∷ [])
    ∙ ap (λ k. flood_frame len i ++ ((i + k) % 256) ∷ []) (zero-first len)))

-- A flood of one frame more is the flood and then the item that sends its next frame.
pub flood_of_more : (lane : LaneName) (count len : ℕ) → flood_of lane (count + 1) len ≡ flood_of lane count len ++ Send lane (flood_frame len count) ∷ []
flood_of_more lane count len =
    ap (λ n. flood_of lane n len) (add-one count) ∙ (ap (map (λ i. Send lane (flood_frame len i))) (count_from-last 0 count)
    ∙ (map-append (λ i. Send lane (flood_frame len i)) (count_from 0 count) ((0 + count) ∷ []) ∙ ap (λ k. flood_of lane count len ++ Send lane (flood_frame len k) ∷ []) (zero-first count)))

-- Each frame of a flood has the length that the flood gives.
pub length_flood_frame : (len i : ℕ) → length (flood_frame len i) ≡ len
length_flood_frame len i = length-map (count_from 0 len) (λ j. (i + j) % 256) ∙ length-count_from 0 len

sum-same : (f : Traffic → ℕ) (made : ℕ → Traffic) (v : ℕ) → ((i : ℕ) → f (made i) ≡ v) → (from n : ℕ) → sum (map f (map made (count_from from n))) ≡ n * v
sum-same f made v same from zero = omega arith
sum-same f made v same from (suc n) =
    let parts = sum_by-cons (λ y. y) (f (made from)) (map f (map made (count_from (suc from) n))) in
    let rest = sum-same f made v same (suc from) n in
    let this = same from in
    let whole = suc-mul n v in
    omega arith

-- A sum over two joined lists of traffic is the sum over the first plus the sum over the second.
pub sum-map-append : (f : Traffic → ℕ) (xs ys : List Traffic) → sum (map f (xs ++ ys)) ≡ sum (map f xs) + sum (map f ys)
sum-map-append f xs ys = ap sum (map-append f xs ys) ∙ sum_by-append (λ y. y) (map f xs) (map f ys)

-- A flood has just as many frames as its count says.
pub flood_frames : (lane : LaneName) (count len : ℕ) → sum (map frames_in (flood_of lane count len)) ≡ count
flood_frames lane count len = sum-same frames_in (λ i. Send lane (flood_frame len i)) 1 (λ i. refl) 0 count ∙ omega arith

-- The bytes of a flood's frames are its count times its length.
pub flood_bytes : (lane : LaneName) (count len : ℕ) → sum (map traffic_bytes_in (flood_of lane count len)) ≡ count * len
flood_bytes lane count len = sum-same traffic_bytes_in (λ i. Send lane (flood_frame len i)) len (length_flood_frame len) 0 count

-- the traffic with a part of a flood has room for one frame more of it
pub frames_stay : (old more : List Traffic) (lane : LaneName) (i count len most : ℕ) → i < count → sum (map frames_in old) + count ≤ most → more ≡ old ++ flood_of lane i len
    → sum (map frames_in more) + 1 ≤ most
frames_stay old more lane i count len most h room e =
    let parts = sum-map-append frames_in old (flood_of lane i len) in
    let part = flood_frames lane i len in
    rw e (omega arith)

-- If a whole flood fits the limit of bytes, the traffic with a part of it has room for one frame more of it.
pub bytes_stay : (old more : List Traffic) (lane : LaneName) (i count len most size : ℕ) → i < count → sum (map traffic_bytes_in old) + count * len ≤ most → more ≡ old ++ flood_of lane i len → size ≡ len
    → sum (map traffic_bytes_in more) + size ≤ most
bytes_stay old more lane i count len most size h room e same =
    let parts = sum-map-append traffic_bytes_in old (flood_of lane i len) in
    let part = flood_bytes lane i len in
    let next : suc i * len ≤ count * len = mul-le-mul_right {m = suc i} {n = count} len (omega arith) in
    let step = suc-mul i len in
    rw (e, same) (omega arith)
