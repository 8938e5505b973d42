-- The members of a list of numbers, one more at a time.
use Rattle.std.proofs.Common.{◌≡◌, ℕ, zero, suc, ◌+◌, ◌<◌, List, [], ◌∷◌, ◌++◌, length, get_or, take, sym, ap, ◌∙◌, append_assoc, arith, add-one}
use Rattle.std.proofs.Math.ListN.{get_or-map}
use Rattle.std.proofs.Math.Seq.{take-suc}
use Rattle.std.proofs.lemmas.Grind.{flat_map-append}
use Rattle.std.proofs.lemmas.List.{append-nil, length-map, take-map}
use Rattle.std.specs.Fmt.{decimal}
use Rattle.trace_command.specs.Words.{more_numbers, separated}
use Rattle.trace_command.specs.Writes.{no_write, numbers_in, write_at}
use Rattle.trace_command.specs.declared.writes.FlyingWrite.{FlyingWrite}

more_last : (numbers : List ℕ) (n : ℕ) → more_numbers (numbers ++ n ∷ []) ≡ more_numbers numbers ++ 44 ∷ decimal n
more_last numbers n = flat_map-append (λ n. 44 ∷ decimal n) numbers (n ∷ []) ∙ ap (λ last. more_numbers numbers ++ last) (append-nil (44 ∷ decimal n))

separated_more : (numbers : List ℕ) (k d : ℕ) → 0 < k → k < length numbers → separated (take (suc k) numbers) ≡ separated (take k numbers) ++ 44 ∷ decimal (get_or numbers k d)
separated_more numbers zero d some within = absurd (omega arith)
separated_more [] (suc k) d some within = absurd (omega arith)
separated_more (n ∷ numbers) (suc k) d some within =
    ap (λ more. decimal n ++ more_numbers more) (take-suc numbers k d (omega arith)) ∙ ap (λ more. decimal n ++ more) (more_last (take k numbers) (get_or numbers k d))
    ∙ sym (append_assoc (decimal n) (more_numbers (take k numbers)) (44 ∷ decimal (get_or numbers k d)))

-- the numbers of the writes in flight, one write more
pub numbers_first : (flight : List FlyingWrite) (place : ℕ) → place ≡ 0 → place < length flight
    → separated (numbers_in (take (place + 1) flight)) ≡ separated (numbers_in (take place flight)) ++ decimal (write_at flight place).number
numbers_first [] place first within = absurd (omega arith)
numbers_first (write ∷ flight) zero first within = append-nil (decimal write.number)
numbers_first flight (suc place) first within = absurd (omega arith)

-- The numbers of writes in flight up to a place after the first are those before it, a comma and the number there.
pub numbers_more : (flight : List FlyingWrite) (place : ℕ) → 0 < place → place < length flight
    → separated (numbers_in (take (place + 1) flight)) ≡ separated (numbers_in (take place flight)) ++ 44 ∷ decimal (write_at flight place).number
numbers_more flight place some within =
    let all = numbers_in flight in
    let inside : place < length all = rw length-map within in
    rw add-one
    (ap separated (sym (take-map (λ write. write.number) (suc place) flight)) ∙ separated_more all place 0 some (inside)
    ∙ ap (λ taken. separated taken ++ 44 ∷ decimal (get_or all place 0)) (take-map (λ write. write.number) place flight)
    ∙ ap (λ n. separated (numbers_in (take place flight)) ++ 44 ∷ decimal n) (get_or-map (λ write. write.number) flight place no_write))
