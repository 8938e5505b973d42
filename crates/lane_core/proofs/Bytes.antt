-- Bytes of a payload: a chunk of it, and a payload after a chunk was written.
use Rattle.std.proofs.Common.{◌≡◌, ℕ, ◌+◌, ◌-◌, ◌*◌, ◌≤◌, min, List, ◌++◌, length, take, drop, sym, ap, ◌∙◌, arith, append_assoc, length-take, length-drop, drop-drop}
use Rattle.std.proofs.lemmas.List.{take_min, drop-take, take-take}
use borrow.Rule.Slice.PartMut.{put_mid}
use Rattle.lane_model.specs.Lane.{chunk_of, chunk_size, overwritten}

-- a chunk goes to the next chunk's beginning, or to the end of the bytes
pub chunk_is : (bytes : List ℕ) (part at end : ℕ) → at ≡ chunk_size * part → end ≡ min (length bytes) (at + chunk_size) → take (end - at) (drop at bytes) ≡ chunk_of bytes part
chunk_is bytes part at end begins ends =
    let rest = length-drop at bytes in
    let count : end - at ≡ min chunk_size (length (drop at bytes)) = omega arith in
    ap (λ n. take n (drop at bytes)) count ∙ take_min chunk_size (drop at bytes) ∙ ap (λ n. take chunk_size (drop n bytes)) begins

-- bytes written over part of a payload
pub put_mid-overwritten : (payload written : List ℕ) (at count : ℕ) → length written ≡ count → put_mid at count payload written ≡ overwritten at written payload
put_mid-overwritten payload written at count long =
    sym (append_assoc (take at payload) written (drop count (drop at payload)))
    ∙ ap (λ rest. (take at payload ++ written) ++ rest) (drop-drop count at payload ∙ ap (λ n. drop (at + n) payload) (sym long))

-- Putting a chunk's bytes into a payload, from the chunk's start to its end, writes that chunk over the payload.
pub put_chunk_is : (payload bytes written : List ℕ) (part at end : ℕ) → at ≡ chunk_size * part → end ≡ min (length bytes) (at + chunk_size) → at ≤ length bytes
    → written ≡ take (end - at) (drop at bytes) → put_mid at (end - at) payload written ≡ overwritten (chunk_size * part) (chunk_of bytes part) payload
put_chunk_is payload bytes written part at end begins ends within copied =
    let rest = length-drop at bytes in
    let taken = length-take (end - at) (drop at bytes) in
    let long : length written ≡ end - at = ap length copied ∙ omega arith in
    put_mid-overwritten payload written at (end - at) long
    ∙ ap (λ bs. overwritten at bs payload) (copied ∙ chunk_is bytes part at end begins ends)
    ∙ ap (λ n. overwritten n (chunk_of bytes part) payload) begins

-- the same read from a payload in which the bytes stand
pub chunk_taken : (payload : List ℕ) (len part at end : ℕ) → at ≡ chunk_size * part → end ≡ min len (at + chunk_size) → at ≤ len → len ≤ length payload
    → take (end - at) (drop at payload) ≡ chunk_of (take len payload) part
chunk_taken payload len part at end begins ends within stands =
    let whole = length-take len payload in
    let all : at + (len - at) ≡ len = omega arith in
    let front : end - at ≤ len - at = omega arith in
    sym (take-take (end - at) (len - at) (drop at payload) front)
    ∙ ap (take (end - at)) (sym (drop-take at (len - at) payload) ∙ ap (λ n. drop at (take n payload)) all)
    ∙ chunk_is (take len payload) part at end begins (ends ∙ ap (λ n. min n (at + chunk_size)) (same_length whole stands))
  where
    same_length : length (take len payload) ≡ min len (length payload) → len ≤ length payload → len ≡ length (take len payload)
    same_length e h = omega arith
