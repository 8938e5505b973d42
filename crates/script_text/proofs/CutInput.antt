-- Scripts that are cut after a line feed, or go on otherwise there.
use Rattle.std.proofs.Common.{◌≡◌, ℕ, suc, ◌+◌, ◌-◌, ◌<◌, ◌≤◌, ◌==◌, Bool, true, false, cond, Result, Ok, Err, List, [], ◌∷◌, ◌++◌, length, get_or, take, drop, map, count_by, refl, sym, ◌∙◌, ap, subst, append_assoc, arith}
use Rattle.std.proofs.Math.ListN.{take-append-drop}
use Rattle.std.proofs.Math.Seq.{take-suc}
use Rattle.std.proofs.lemmas.Bool.{ne_eqb}
use Rattle.std.proofs.lemmas.List.{map-append, length-map}
use Rattle.std.proofs.lemmas.List.Splits.{length-slice_split}
use Rattle.std.proofs.lemmas.List.Sums.{sum_by-append}
use Rattle.std.specs.List.{slice_split, onto_first}
use Rattle.std.specs.Result.{IsOk}
use Rattle.script_words.specs.Before.{Before, Given, nothing_before}
use Rattle.script_words.specs.Words.{lines_of, without_return}
use Rattle.script_words.specs.declared.fault.LineFault.{LineFault}
use Rattle.script_words.specs.declared.fault.ScriptFault.{ScriptFault}
use Rattle.script_text.specs.Laws.{FaultEndsAt}
use Rattle.script_text.specs.ParseClauses.{after_line}
use Rattle.script_text.specs.Script.{line_gives, read_lines, plan_of, script_of}
use Rattle.script_text.proofs.LinesRead.{then_lines, next_line}

-- Lines before a line feed and after it

first_of_split : (p : ℕ → Bool) (xs : List ℕ) → (first : List ℕ) × (rest : List (List ℕ)) × (slice_split p xs ≡ first ∷ rest)
first_of_split p [] = ([], [], refl)
first_of_split p (x ∷ xs) = by (p x) (slice_split p xs)
  where
    by : (t : Bool) (parts : List (List ℕ)) → (first : List ℕ) × (rest : List (List ℕ)) × (cond t ([] ∷ parts) (onto_first x parts) ≡ first ∷ rest)
    by true parts = ([], parts, refl)
    by false [] = (x ∷ [], [], refl)
    by false (part ∷ parts) = (x ∷ part, parts, refl)

onto-append : (x : ℕ) (parts more first : List (List ℕ)) (head : List ℕ) → parts ≡ head ∷ first → onto_first x (parts ++ more) ≡ onto_first x parts ++ more
onto-append x [] more first head e = cc e
onto-append x (part ∷ parts) more first head e = refl

split-append : (p : ℕ → Bool) (xs : List ℕ) (y : ℕ) (ys : List ℕ) → p y ≡ true → slice_split p (xs ++ y ∷ ys) ≡ slice_split p xs ++ slice_split p ys
split-append p [] y ys h = ap (λ t. cond t ([] ∷ slice_split p ys) (onto_first y (slice_split p ys))) h
split-append p (x ∷ xs) y ys h =
    let some = first_of_split p xs in
    ap (λ parts. cond (p x) ([] ∷ parts) (onto_first x parts)) (split-append p xs y ys h) ∙ by (p x) (onto-append x (slice_split p xs) (slice_split p ys) some.1 some.0 some.2)
  where
    by : (t : Bool) → onto_first x (slice_split p xs ++ slice_split p ys) ≡ onto_first x (slice_split p xs) ++ slice_split p ys
        → cond t ([] ∷ (slice_split p xs ++ slice_split p ys)) (onto_first x (slice_split p xs ++ slice_split p ys)) ≡ cond t ([] ∷ slice_split p xs) (onto_first x (slice_split p xs)) ++ slice_split p ys
    by true e = refl
    by false e = e

lines_apart : (front back : List ℕ) → lines_of (front ++ 10 ∷ back) ≡ lines_of front ++ lines_of back
lines_apart front back =
    ap (map without_return) (split-append (λ b. b == 10) front 10 back refl) ∙ map-append without_return (slice_split (λ b. b == 10) front) (slice_split (λ b. b == 10) back)

-- Lines read in two parts

then_rest : ℕ → List (List ℕ) → Result Before ScriptFault → Result Before ScriptFault
then_rest n lines (Ok before) = read_lines n before lines
then_rest n lines (Err fault) = Err fault

read-append : (n : ℕ) (before : Before) (lines more : List (List ℕ)) → read_lines n before (lines ++ more) ≡ then_rest (n + length lines) more (read_lines n before lines)
unfolding then_rest
read-append n before [] more = let same : n ≡ n + 0 = omega arith in ap (λ m. read_lines m before more) same
read-append n before (line ∷ lines) more =
    next_line n before line (lines ++ more) ∙ (by (after_line n before (line_gives n before line)) (λ b. read-append (n + 1) b lines more)
    ∙ ap (then_rest (n + suc (length lines)) more) (sym (next_line n before line lines)))
  where
    by : (r : Result Before ScriptFault) → ((b : Before) → read_lines (n + 1) b (lines ++ more) ≡ then_rest ((n + 1) + length lines) more (read_lines (n + 1) b lines))
        → then_lines n (lines ++ more) r ≡ then_rest (n + suc (length lines)) more (then_lines n lines r)
    by (Ok b) ih = let same : (n + 1) + length lines ≡ n + suc (length lines) = omega arith in ih b ∙ ap (λ m. then_rest m more (read_lines (n + 1) b lines)) same
    by (Err fault) ih = refl

-- the lines of a front that ends with a line feed, and of what comes after it
read_apart : (front back : List ℕ) → read_lines 1 nothing_before (lines_of (front ++ 10 ∷ back)) ≡ then_rest (1 + length (lines_of front)) (lines_of back) (read_lines 1 nothing_before (lines_of front))
read_apart front back = ap (read_lines 1 nothing_before) (lines_apart front back) ∙ read-append 1 nothing_before (lines_of front) (lines_of back)

front_is : (bytes : List ℕ) (k : ℕ) → k < length bytes → get_or bytes k 0 ≡ 10 → take (suc k) bytes ≡ take k bytes ++ 10 ∷ []
front_is bytes k lt e = take-suc bytes k 0 lt ∙ ap (λ b. take k bytes ++ b ∷ []) e

all_is : (bytes front : List ℕ) (k : ℕ) → take (suc k) bytes ≡ front ++ 10 ∷ [] → bytes ≡ front ++ 10 ∷ drop (suc k) bytes
all_is bytes front k e = sym (take-append-drop (suc k) bytes) ∙ (ap (λ t. t ++ drop (suc k) bytes) e ∙ append_assoc front (10 ∷ []) (drop (suc k) bytes))

-- A cut script

some_lines : (front : List ℕ) → 0 < length (lines_of front)
some_lines front =
    let parts = length-slice_split (λ b. b == 10) front in
    let same = length-map (slice_split (λ b. b == 10) front) without_return in
    omega arith

-- an empty line after the first says nothing
empty_line : (n : ℕ) (before : Before) → 1 < n → read_lines n before ([] ∷ []) ≡ Ok before
empty_line n before h = let later : (n == 1) ≡ false = ne_eqb n 1 (λ e. omega arith) in rw later refl

plan_stays : (n : ℕ) (back : List (List ℕ)) (r : Result Before ScriptFault) → 1 < n → IsOk (plan_of (then_rest n back r)) → IsOk (plan_of (then_rest n ([] ∷ []) r))
unfolding then_rest
plan_stays n back (Ok before) h ok = rw (empty_line n before h) refl
plan_stays n back (Err fault) h ok = cc ok

cut_at : (front back : List ℕ) → IsOk (script_of (front ++ 10 ∷ back)) → IsOk (script_of (front ++ 10 ∷ []))
cut_at front back ok =
    let P : Result Before ScriptFault → Type 0 = λ r. IsOk (plan_of r) in
    let late : 1 < 1 + length (lines_of front) = let some = some_lines front in omega arith in
    subst P (sym (read_apart front [])) (plan_stays (1 + length (lines_of front)) (lines_of back) (read_lines 1 nothing_before (lines_of front)) late (subst P (read_apart front back) ok))

-- A script that is accepted stays accepted when it is cut right after any of its line feeds.
pub plan_cut : (bytes : List ℕ) (end : ℕ) → IsOk (script_of bytes) → 1 ≤ end → end ≤ length bytes → get_or bytes (end - 1) 0 ≡ 10 → IsOk (script_of (take end bytes))
plan_cut bytes end ok some within e =
    let k : ℕ = end - 1 in
    let P : List ℕ → Type 0 = λ bs. IsOk (script_of bs) in
    let suc_k : suc (end - 1) ≡ end = omega arith in
    let front = front_is bytes (end - 1) (omega arith) e in
    let whole = all_is bytes (take (end - 1) bytes) (end - 1) front in
    let cut : IsOk (script_of (take (suc (end - 1)) bytes)) = subst P (sym front) (cut_at (take (end - 1) bytes) (drop (suc (end - 1)) bytes) (subst P whole ok)) in
    subst (λ n. IsOk (script_of (take n bytes))) suc_k cut

-- The same fault

-- a fault is in a line that was read
fault_later : (n : ℕ) (before : Before) (lines : List (List ℕ)) (fault : ScriptFault) → read_lines n before lines ≡ Err fault → n ≤ fault.line
fault_later n before [] fault e = cc e
fault_later n before (line ∷ lines) fault e = by (line_gives n before line) (sym (next_line n before line lines) ∙ e) (λ b h. fault_later (n + 1) b lines fault h)
  where
    by : (r : Result Given LineFault) → then_lines n lines (after_line n before r) ≡ Err fault → ((b : Before) → read_lines (n + 1) b lines ≡ Err fault → n + 1 ≤ fault.line) → n ≤ fault.line
    by (Ok given) h later = let after = later _ h in omega arith
    by (Err found) h later = let same : record { line = n; fault = found } ≡ fault = cc in let here : n ≡ fault.line = ap (λ f. f.line) same in omega arith

plan_fault : (r : Result Before ScriptFault) (fault : ScriptFault) → plan_of r ≡ Err fault → r ≡ Err fault
plan_fault (Ok before) fault e = cc e
plan_fault (Err found) fault e = let same : found ≡ fault = cc in rw same refl

front_fault : (n : ℕ) (back : List (List ℕ)) (r : Result Before ScriptFault) (fault : ScriptFault) → fault.line < n → then_rest n back r ≡ Err fault → r ≡ Err fault
unfolding then_rest
front_fault n back (Ok before) fault early e = absurd (let late = fault_later n before back fault e in omega arith)
front_fault n back (Err found) fault early e = e

fault_stays : (front back other : List ℕ) (fault : ScriptFault) → fault.line ≤ length (lines_of front) → script_of (front ++ 10 ∷ back) ≡ Err fault → script_of (front ++ 10 ∷ other) ≡ Err fault
unfolding then_rest
fault_stays front back other fault here e =
    let n : ℕ = 1 + length (lines_of front) in
    let read = plan_fault (read_lines 1 nothing_before (lines_of (front ++ 10 ∷ back))) fault e in
    let early : fault.line < 1 + length (lines_of front) = omega arith in
    let found : read_lines 1 nothing_before (lines_of front) ≡ Err fault =
    front_fault (1 + length (lines_of front)) (lines_of back) (read_lines 1 nothing_before (lines_of front)) fault early (sym (read_apart front back) ∙ read) in
    ap plan_of (read_apart front other ∙ ap (then_rest (1 + length (lines_of front)) (lines_of other)) found)

-- the line feeds of a front, its last among them, are its lines
lines_counted : (front : List ℕ) → count_by (λ b. b == 10) (front ++ 10 ∷ []) ≡ length (lines_of front)
lines_counted front =
    let parts = length-slice_split (λ b. b == 10) front in
    let same = length-map (slice_split (λ b. b == 10) front) without_return in
    let more = sum_by-append (λ x. cond (x == 10) 1 0) front (10 ∷ []) in
    omega arith

-- Scripts with equal bytes up to the line feed that ends the line of the first fault have the same fault.
pub fault_same : (bytes other : List ℕ) (end : ℕ) → FaultEndsAt bytes end → take end other ≡ take end bytes → script_of other ≡ script_of bytes
fault_same bytes other end h same =
    let k : ℕ = end - 1 in
    let some = h.line.some in
    let within = h.line.within in
    let suc_k : end ≡ suc (end - 1) = omega arith in
    let front = front_is bytes (end - 1) (omega arith) h.line.line_feed in
    let whole = all_is bytes (take (end - 1) bytes) (end - 1) front in
    let begins : take (suc (end - 1)) other ≡ take (end - 1) bytes ++ 10 ∷ [] = subst (λ n. take n other ≡ take n bytes) suc_k same ∙ front in
    let whole_other = all_is other (take (end - 1) bytes) (end - 1) begins in
    let at_end : take end bytes ≡ take (end - 1) bytes ++ 10 ∷ [] = ap (λ n. take n bytes) suc_k ∙ front in
    let counted : h.fault.line ≡ length (lines_of (take (end - 1) bytes)) = sym h.line.counted ∙ (ap (count_by (λ b. b == 10)) at_end ∙ lines_counted (take (end - 1) bytes)) in
    let stays = fault_stays (take (end - 1) bytes) (drop (suc (end - 1)) bytes) (drop (suc (end - 1)) other) h.fault (omega arith) (sym (ap script_of whole) ∙ h.is_fault) in
    ap script_of whole_other ∙ (stays ∙ sym h.is_fault)
