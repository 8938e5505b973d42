-- A frame says its parts.
use Rattle.std.proofs.Common.{◌≡◌, ℕ, ◌/◌, ◌%◌, List, ◌∷◌, ◌++◌, length, take, drop, sym, ◌∙◌, ap, refl, length-append, arith}
use Rattle.std.proofs.lemmas.List.{take_at, drop_at}
use Rattle.net_dev.specs.Laws.{FrameSaysItsParts}

fronts_same : (xs xs' ys ys' : List ℕ) → length xs ≡ length xs' → xs ++ ys ≡ xs' ++ ys' → xs ≡ xs'
fronts_same xs xs' ys ys' len e =
    sym (take_at xs ys (length xs') len) ∙ ap (take (length xs')) e ∙ take_at xs' ys' (length xs') refl

rests_same : (xs xs' ys ys' : List ℕ) → length xs ≡ length xs' → xs ++ ys ≡ xs' ++ ys' → ys ≡ ys'
rests_same xs xs' ys ys' len e =
    sym (drop_at xs ys (length xs') len) ∙ ap (drop (length xs')) e ∙ drop_at xs' ys' (length xs') refl

-- Equal Ethernet frames have equal addresses, kinds and payloads, if addresses have six bytes and kinds fit in two.
pub frame_says_its_parts : FrameSaysItsParts
frame_says_its_parts dst dst' src src' kind kind' payload payload' fits fits' e =
    let front = kind / 256 ∷ kind % 256 ∷ payload in
    let front' = kind' / 256 ∷ kind' % 256 ∷ payload' in
    let lens : length (dst ++ src) ≡ length (dst' ++ src') = grind (arith, length-append) in
    let addresses = fronts_same (dst ++ src) (dst' ++ src') front front' lens e in
    let rest = rests_same (dst ++ src) (dst' ++ src') front front' lens e in
    let dst_len : length dst ≡ length dst' = fits.0 ∙ sym fits'.0 in
    let high : kind / 256 ≡ kind' / 256 = cc in
    let low : kind % 256 ≡ kind' % 256 = cc in (
      fronts_same dst dst' src src' dst_len addresses,
      rests_same dst dst' src src' dst_len addresses,
      omega arith,
      cc,
    )
