-- The addresses in an Ethernet frame.
use Rattle.std.proofs.Common.{◌≡◌, ℕ, ◌≤◌, ◌/◌, ◌%◌, List, ◌∷◌, ◌++◌, length, take, drop, sym, ap, subst, ◌∙◌, arith}
use Rattle.std.proofs.lemmas.List.{drop-append-le, length-append, take-append-le}
use Rattle.std.proofs.Math.Seq.{drop-append_seam, take-append_seam}
use Rattle.pair_model.specs.Ethernet.{ethernet_frame}
use Rattle.pair_model.specs.Fdb.{destination, source}

fits : (dst src : List ℕ) → length dst ≡ 6 → 6 ≤ length (dst ++ src)
fits dst src h = omega (arith, length-append dst src, h)

front : (dst rest : List ℕ) → length dst ≡ 6 → take 6 (dst ++ rest) ≡ dst
front dst rest h = subst (λ n. take n (dst ++ rest) ≡ dst) h (take-append_seam dst rest)

back : (dst rest : List ℕ) → length dst ≡ 6 → drop 6 (dst ++ rest) ≡ rest
back dst rest h = subst (λ n. drop n (dst ++ rest) ≡ rest) h (drop-append_seam dst rest)

-- The destination that is read from an Ethernet frame is the one that it was made with, if that has six bytes.
pub destination-of : (bytes dst src payload : List ℕ) (kind : ℕ) → bytes ≡ ethernet_frame dst src kind payload → length dst ≡ 6 → dst ≡ destination bytes
destination-of bytes dst src payload kind e h =
    let tail = kind / 256 ∷ kind % 256 ∷ payload in
    sym (ap (take 6) e ∙ (take-append-le 6 (dst ++ src) tail (fits dst src h) ∙ front dst src h))

-- The source that is read from an Ethernet frame is the one that it was made with, if both addresses have six bytes.
pub source-of : (bytes dst src payload : List ℕ) (kind : ℕ) → bytes ≡ ethernet_frame dst src kind payload → length dst ≡ 6 → length src ≡ 6 → src ≡ source bytes
source-of bytes dst src payload kind e h k =
    let tail = kind / 256 ∷ kind % 256 ∷ payload in
    let rest : drop 6 bytes ≡ src ++ tail = ap (drop 6) e ∙ (drop-append-le 6 (dst ++ src) tail (fits dst src h) ∙ ap (λ l. l ++ tail) (back dst src h)) in
    sym (ap (take 6) rest ∙ front src tail k)

-- An Ethernet frame that was made with two addresses of six bytes has at least 14 bytes.
pub long-enough : (bytes dst src payload : List ℕ) (kind : ℕ) → bytes ≡ ethernet_frame dst src kind payload → length dst ≡ 6 → length src ≡ 6 → 14 ≤ length bytes
long-enough bytes dst src payload kind e h k =
    let tail = kind / 256 ∷ kind % 256 ∷ payload in
    omega (arith, ap length e, length-append (dst ++ src) tail, length-append dst src, h, k)
