-- Two frames have the same entries from two pieces on if and only if they have the same bytes from there on.
use Rattle.std.proofs.Common.{◌≡◌, ◌↔◌, ◌∙◌, ℕ, zero, suc, ◌+◌, ◌-◌, ◌*◌, ◌/◌, ◌<◌, ◌≤◌, Option, Some, None, List, [], ◌∷◌, ◌++◌, length, take, drop, refl, sym, ap, subst, arith, mod-lt}
use Rattle.std.proofs.Math.Nat.{add-mul-div_left, div-add-mod, mul-suc}
use Rattle.std.proofs.lemmas.Nat.{mul-le}
use Rattle.std.proofs.lemmas.List.{drop_all, drop_more, drop-drop, length-drop, take-append-drop}
use Rattle.lane_model.specs.Lane.{Entry, Carries, GoesDown}
use Rattle.pair_model.specs.Pieces.{pieces_of}
use Rattle.pair_model.specs.Sizes.{pieces_in}
use Rattle.frame_ring.specs.Outgoing.{entries_under, entry_at}
use Rattle.frame_ring.proofs.Entries.{length-pieces_of, piece_at}

-- this many pieces of these bytes
abbrev pieces_over : ℕ → List ℕ → ℕ → List Entry
pieces_over largest rest zero = []
pieces_over largest rest (suc more) = Carries (take largest rest) more ∷ pieces_over largest (drop largest rest) more

-- where the next piece begins
next_start : (largest piece : ℕ) → largest * (piece + 1) ≡ largest * piece + largest
next_start largest piece = ap (λ n. largest * n) (let one : piece + 1 ≡ suc piece = omega arith in one) ∙ mul-suc largest piece

-- the pieces of a frame from one on are those of its bytes from there on
rest_pieces : (largest : ℕ) (bytes : List ℕ) (more piece : ℕ) → piece + more ≡ pieces_in largest (length bytes)
    → drop piece (pieces_of largest bytes) ≡ pieces_over largest (drop (largest * piece) bytes) more
rest_pieces largest bytes zero piece all = drop_all piece (pieces_of largest bytes) (omega (arith, all, length-pieces_of largest bytes))
rest_pieces largest bytes (suc more) piece all =
    let rest = drop (largest * piece) bytes in
    let among : piece < pieces_in largest (length bytes) = omega (arith, all) in
    let left : pieces_in largest (length bytes) - 1 - piece ≡ more = omega (arith, all) in
    let later : drop largest rest ≡ drop (largest * (piece + 1)) bytes = drop-drop largest (largest * piece) bytes ∙ ap (λ n. drop n bytes) (sym (next_start largest piece)) in
    drop_more (pieces_of largest bytes) piece GoesDown (omega (arith, among, length-pieces_of largest bytes))
    ∙ ap (λ entry. entry ∷ drop (piece + 1) (pieces_of largest bytes)) (piece_at largest bytes piece among ∙ ap (λ n. Carries (take largest rest) n) left)
    ∙ ap (λ others. Carries (take largest rest) more ∷ others) (rest_pieces largest bytes more (piece + 1) (omega (arith, all)) ∙ ap (λ bytes. pieces_over largest bytes more) (sym later))

-- the same pieces are of the same bytes, if they have all of them
same_rest : (largest more n : ℕ) (rest others : List ℕ) → length rest ≤ largest * more → length others ≤ largest * n
    → pieces_over largest rest more ≡ pieces_over largest others n → rest ≡ others
same_rest largest zero zero [] [] fit fits same = refl
same_rest largest zero zero [] (x ∷ xs) fit fits same = absurd (omega arith)
same_rest largest zero zero (x ∷ xs) others fit fits same = absurd (omega arith)
same_rest largest zero (suc n) rest others fit fits same = absurd (cc same)
same_rest largest (suc more) zero rest others fit fits same = absurd (cc same)
same_rest largest (suc more) (suc n) rest others fit fits same =
    let front : take largest rest ≡ take largest others = cc same in
    let behind : pieces_over largest (drop largest rest) more ≡ pieces_over largest (drop largest others) n = cc same in
    let later : drop largest rest ≡ drop largest others =
    same_rest largest more n (drop largest rest) (drop largest others)
    (omega (arith, fit, length-drop largest rest, mul-suc largest more)) (omega (arith, fits, length-drop largest others, mul-suc largest n)) behind in
    sym (take-append-drop largest rest) ∙ ap (λ bytes. bytes ++ drop largest rest) front ∙ ap (λ bytes. take largest others ++ bytes) later ∙ take-append-drop largest others

-- how many pieces are left, by the bytes that are left
left_over : (largest len piece : ℕ) → 0 < largest → piece < pieces_in largest len → piece + pieces_in largest (len - largest * piece) ≡ pieces_in largest len
left_over largest len zero some among =
    let all : len - largest * 0 ≡ len = omega arith in
    let same : pieces_in largest (len - largest * 0) ≡ pieces_in largest len = ap (λ bytes. pieces_in largest bytes) all in
    omega (arith, same)
left_over largest len (suc piece) some among =
    let all = (len + largest - 1) / largest in
    let times = div-add-mod (len + largest - 1) largest in
    let more : suc piece + 1 ≤ all = omega (arith, among) in
    let below : largest * (suc piece + 1) ≤ largest * all = mul-le largest (suc piece + 1) largest all (omega arith) more in
    let inside : largest * suc piece < len = omega (arith, below, times, next_start largest (suc piece)) in
    let rest = len - largest * suc piece in
    let whole : rest + largest - 1 + largest * suc piece ≡ len + largest - 1 = omega (arith, inside) in
    let split : all ≡ (rest + largest - 1) / largest + suc piece = ap (λ n. n / largest) (sym whole) ∙ add-mul-div_left (rest + largest - 1) (suc piece) some in
    omega (arith, split, more)

-- all bytes fit the pieces
covered : (largest len : ℕ) → 0 < largest → len ≤ largest * pieces_in largest len
covered largest len some =
    let all = (len + largest - 1) / largest in
    let enough = mul-le largest all largest (pieces_in largest len) (omega arith) (omega arith) in
    omega (arith, div-add-mod (len + largest - 1) largest, mod-lt (len + largest - 1) some, enough)

-- from two pieces on the same bytes are the same entries
pub same_from : (largest piece place : ℕ) (one other : List ℕ) → 0 < largest → piece < pieces_in largest (length one) → place < pieces_in largest (length other)
    → (drop (largest * piece) one ≡ drop (largest * place) other) ↔ (drop piece (pieces_of largest one) ≡ drop place (pieces_of largest other))
same_from largest piece place one other some here there = (forth, back)
  where
    more : ℕ
    more = pieces_in largest (length one - largest * piece)

    n : ℕ
    n = pieces_in largest (length other - largest * place)

    ones : drop piece (pieces_of largest one) ≡ pieces_over largest (drop (largest * piece) one) more
    ones = rest_pieces largest one more piece (left_over largest (length one) piece some here)

    others : drop place (pieces_of largest other) ≡ pieces_over largest (drop (largest * place) other) n
    others = rest_pieces largest other n place (left_over largest (length other) place some there)

    forth : drop (largest * piece) one ≡ drop (largest * place) other → drop piece (pieces_of largest one) ≡ drop place (pieces_of largest other)
    forth same =
        let count : more ≡ n = ap (λ len. pieces_in largest len) (sym (length-drop (largest * piece) one) ∙ ap length same ∙ length-drop (largest * place) other) in
        ones ∙ ap (λ bytes. pieces_over largest bytes more) same ∙ ap (λ k. pieces_over largest (drop (largest * place) other) k) count ∙ sym others

    back : drop piece (pieces_of largest one) ≡ drop place (pieces_of largest other) → drop (largest * piece) one ≡ drop (largest * place) other
    back same =
        let fit = covered largest (length one - largest * piece) some in
        let fits = covered largest (length other - largest * place) some in
        same_rest largest more n (drop (largest * piece) one) (drop (largest * place) other)
        (omega (arith, fit, length-drop (largest * piece) one)) (omega (arith, fits, length-drop (largest * place) other)) (sym ones ∙ same ∙ others)

-- the same of frames under way
pub same_frames : (largest piece place : ℕ) (frame with : List ℕ) (one other : Option (List ℕ)) → 0 < largest → one ≡ Some frame → other ≡ Some with
    → piece < length (entries_under largest one) → place < length (entries_under largest other)
    → (drop (largest * piece) frame ≡ drop (largest * place) with) ↔ (drop piece (entries_under largest one) ≡ drop place (entries_under largest other))
same_frames largest piece place frame with one other some is are here there =
    subst (λ (o : Option (List ℕ)). (drop (largest * piece) frame ≡ drop (largest * place) with) ↔ (drop piece (entries_under largest o) ≡ drop place (entries_under largest other))) (sym is)
    (subst (λ (o : Option (List ℕ)). (drop (largest * piece) frame ≡ drop (largest * place) with) ↔ (drop piece (pieces_of largest frame) ≡ drop place (entries_under largest o))) (sym are)
    (same_from largest piece place frame with some
    (omega (arith, here, ap (λ o. length (entries_under largest o)) is, length-pieces_of largest frame))
    (omega (arith, there, ap (λ o. length (entries_under largest o)) are, length-pieces_of largest with))))

-- an entry of a frame is not a link-down entry
carries : (largest piece : ℕ) (bytes : List ℕ) → piece < length (pieces_of largest bytes) → ¬ (drop piece (pieces_of largest bytes) ≡ GoesDown ∷ [])
carries largest piece bytes among same =
    let counted : piece < pieces_in largest (length bytes) = omega (arith, among, length-pieces_of largest bytes) in
    let first : entry_at (pieces_of largest bytes) piece ∷ drop (piece + 1) (pieces_of largest bytes) ≡ GoesDown ∷ [] = sym (drop_more (pieces_of largest bytes) piece GoesDown among) ∙ same in
    let entry : entry_at (pieces_of largest bytes) piece ≡ GoesDown = cc first in
    absurd (cc (sym (piece_at largest bytes piece counted) ∙ entry))

-- so a frame under way and none have other entries
pub none_and_some : (largest piece place : ℕ) (bytes : List ℕ) (one other : Option (List ℕ)) → one ≡ None → other ≡ Some bytes
    → piece < length (entries_under largest one) → place < length (entries_under largest other)
    → ¬ (drop piece (entries_under largest one) ≡ drop place (entries_under largest other))
none_and_some largest piece place bytes one other is are here there same =
    let first : piece ≡ 0 = omega (arith, here, ap (λ o. length (entries_under largest o)) is) in
    let down : drop piece (entries_under largest one) ≡ GoesDown ∷ [] = ap (λ o. drop piece (entries_under largest o)) is ∙ ap (λ n. drop n (GoesDown ∷ [])) first in
    let pieces : drop place (entries_under largest other) ≡ drop place (pieces_of largest bytes) = ap (λ o. drop place (entries_under largest o)) are in
    carries largest place bytes (omega (arith, there, ap (λ o. length (entries_under largest o)) are)) (sym pieces ∙ sym same ∙ down)
