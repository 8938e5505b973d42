-- What a source has given after many reads.
use Rattle.std.proofs.Common.{Result, Ok, Err, Vec, Global, vec_len, ◌≡◌, ◌∙◌, ap, sym, subst, refl, ℕ, ◌+◌, ◌<◌, ◌≤◌, List, [], ◌++◌, length, drop, Option, Some, None, append_assoc, arith, length-append}
use Rattle.std.proofs.lemmas.List.{append-nil, nil_from_length}
use Rattle.std.proofs.Math.Seq.{drop-append_seam}
use Rattle.std.specs.Prelude.{⊤, IfOk, IfSome, IsErrOf, OnOk}
use Rattle.io_edges.specs.Causes.{Rose}
use Rattle.io_edges.specs.declared.whole.ReadError.{ReadError}
use Rattle.io_edges.specs.declared.whole.ReadError.TheVariants.{ReadFault, TooLong}
use Rattle.io_edges.specs.Whole.{HasGiven, HasGivenAtMost, HasGivenAtReads, AddsPiece}

-- nothing is read yet
pub given_none : (before : Option (List ℕ)) → HasGiven before before []
given_none None = refl
given_none (Some content) = (content, refl, refl)

-- a read gave one more piece
pub given_more : (before now later : Option (List ℕ)) (bytes bytes' : List ℕ) → HasGiven before now bytes → AddsPiece now later bytes bytes' → HasGiven before later bytes'
given_more None now later bytes bytes' h a =
    let P : Option (List ℕ) → Type 0 = λ o. HasGiven o later a.piece in subst P h a.given
given_more (Some content) now later bytes bytes' h a =
    let P : Option (List ℕ) → Type 0 = λ o. HasGiven o later a.piece in
    let r : HasGiven (Some h.0) later a.piece = subst P h.2 a.given in
    (r.0, h.1 ∙ ap (λ ys. bytes ++ ys) r.1 ∙ sym (append_assoc bytes a.piece r.0) ∙ ap (λ ys. ys ++ r.0) (sym a.added), r.2)

-- what is left after a piece of no content is none
pub left_none : (now later : Option (List ℕ)) (bytes bytes' : List ℕ) → AddsPiece now later bytes bytes' → IfSome now (λ content. content ≡ []) → IfSome later (λ content. content ≡ [])
left_none None later bytes bytes' a none =
    let P : Option (List ℕ) → Type 0 = λ o. IfSome o (λ content. content ≡ []) in subst P (sym a.given) tt
left_none (Some content) later bytes bytes' a none =
    let P : Option (List ℕ) → Type 0 = λ o. IfSome o (λ ys. ys ≡ []) in
    let g : HasGiven (Some content) later a.piece = a.given in
    let all = ap length (sym g.1 ∙ none) in
    subst P (sym g.2) (nil_from_length g.0 (omega (arith, all, length-append a.piece g.0)))

-- all was given where nothing is left
given_all : (before left : Option (List ℕ)) (bytes : List ℕ) → HasGiven before left bytes → IfSome left (λ content. content ≡ []) → IfSome before (λ content. bytes ≡ content)
given_all None left bytes h none = tt
given_all (Some content) left bytes h none =
    let P : Option (List ℕ) → Type 0 = λ o. IfSome o (λ ys. ys ≡ []) in
    let nothing : h.0 ≡ [] = subst P h.2 none in
    sym (h.1 ∙ ap (λ ys. bytes ++ ys) nothing ∙ append-nil bytes)

-- nothing is left
left_at_end : (before left : Option (List ℕ)) (bytes : List ℕ) → HasGiven before left bytes → IfSome left (λ content. content ≡ []) → IfSome before (λ _. left ≡ Some [])
left_at_end None left bytes h none = tt
left_at_end (Some content) left bytes h none =
    let P : Option (List ℕ) → Type 0 = λ o. IfSome o (λ ys. ys ≡ []) in
    let nothing : h.0 ≡ [] = subst P h.2 none in
    h.2 ∙ ap Some nothing

-- more was given than the limit
given_over : (before left : Option (List ℕ)) (bytes : List ℕ) (limit : ℕ) (Q : Type 0) → HasGiven before left bytes → limit < length bytes → IfSome before (λ content. Q → limit < length content)
given_over None left bytes limit Q h over = tt
given_over (Some content) left bytes limit Q h over =
    let all = ap length h.1 in
    λ _. omega (arith, all, over, length-append bytes h.0)

-- the rest is what stands after the bytes that were given
left_after : (before left : Option (List ℕ)) (bytes : List ℕ) (count : ℕ) (Q : Type 0) → HasGiven before left bytes → length bytes ≡ count → IfSome before (λ content. Q → left ≡ Some (drop count content))
left_after None left bytes count Q h all = tt
left_after (Some content) left bytes count Q h all =
    λ _. h.2 ∙ ap Some (sym (drop-append_seam bytes h.0) ∙ ap (λ n. drop n (bytes ++ h.0)) all ∙ ap (λ ys. drop count ys) (sym h.1))

-- what holds of each content holds of the content that is told
if_some_each : (told : Option (List ℕ)) (P : List ℕ → Type 0) → ((content : List ℕ) → P content) → IfSome told P
if_some_each None P h = tt
if_some_each (Some content) P h = h content

-- what `read_all` promises, over the values that it speaks of
pub record ReadsAll (limit : ℕ) (result : Result (Vec ℕ Global) ReadError) (before left : Option (List ℕ)) (faults faults' begun ended : ℕ) : Type 0 where
  pub at_most : IfOk result (λ bytes. vec_len bytes ≤ limit)
  pub all : IfSome before (λ content. IfOk result (λ bytes. bytes.items ≡ content))
  pub at_end : IfSome before (λ _. OnOk result (left ≡ Some []))
  pub too_long : IfSome before (λ content. IsErrOf result TooLong → limit < length content)
  pub taken : IfSome before (λ content. IsErrOf result TooLong → left ≡ Some (drop (limit + 1) content))
  pub only : (IsErrOf result TooLong → ⊥) → HasGivenAtMost limit before left
  pub fault : IsErrOf result ReadFault → Rose faults faults'
  pub later : faults ≤ faults'
  pub calm : (IsErrOf result ReadFault → ⊥) → faults' ≡ faults
  pub rest : HasGivenAtMost (limit + 1) before left
  pub reads : HasGivenAtReads (limit + 1) before left begun ended
  pub reads_ok : IfOk result (λ bytes. ended ≤ begun + length bytes.items + 1)
  pub reads_long : IsErrOf result TooLong → ended ≤ begun + limit + 1

-- an error of the source or of the memory
pub ReadsAll-at_error : (limit : ℕ) (result : Result (Vec ℕ Global) ReadError) (error : ReadError) (before left : Option (List ℕ)) (bytes : List ℕ) (faults faults' reads reads' : ℕ)
    → result ≡ Err error → HasGiven before left bytes → length bytes ≤ limit
    → (error ≡ TooLong → ⊥) → (error ≡ ReadFault → Rose faults faults') → faults ≤ faults' → ((error ≡ ReadFault → ⊥) → faults' ≡ faults)
    → reads' ≤ reads + length bytes + 1 → ReadsAll limit result before left faults faults' reads reads'
ReadsAll-at_error limit result error before left bytes faults faults' reads reads' is given few not_long fault later calm count =
    subst (λ (r : Result (Vec ℕ Global) ReadError). ReadsAll limit r before left faults faults' reads reads') (sym is)
    (record {
      at_most = tt;
      all = if_some_each before (λ _. ⊤) (λ _. tt);
      at_end = if_some_each before (λ _. ⊤) (λ _. tt);
      too_long = if_some_each before (λ content. IsErrOf {T = Vec ℕ Global} (Err error) TooLong → limit < length content) (λ _ e. absurd (not_long (cc)));
      taken = if_some_each before (λ content. IsErrOf {T = Vec ℕ Global} (Err error) TooLong → left ≡ Some (drop (limit + 1) content)) (λ _ e. absurd (not_long (cc)));
      only = λ _. (bytes, few, given);
      fault = λ e. fault (cc);
      later = later;
      calm = λ n. calm (λ e. n (ap Err e));
      rest = (bytes, omega arith, given);
      reads = (bytes, omega arith, count, given);
      reads_ok = tt;
      reads_long = λ e. absurd (not_long (cc));
    })

-- all the bytes
pub ReadsAll-at_end : (limit : ℕ) (bytes : Vec ℕ Global) (before left : Option (List ℕ)) (faults faults' reads reads' : ℕ)
    → HasGiven before left bytes.items → vec_len bytes ≤ limit → IfSome left (λ content. content ≡ []) → faults' ≡ faults
    → reads' ≤ reads + vec_len bytes + 1 → ReadsAll limit (Ok bytes) before left faults faults' reads reads'
ReadsAll-at_end limit bytes before left faults faults' reads reads' given few none calm count =
    let len : vec_len bytes ≡ length bytes.items = bytes.ok.0 in
    record {
      at_most = few;
      all = given_all before left bytes.items given none;
      at_end = left_at_end before left bytes.items given none;
      too_long = if_some_each before (λ content. IsErrOf {E = ReadError} (Ok bytes) TooLong → limit < length content) (λ _ e. absurd (cc));
      taken = if_some_each before (λ content. IsErrOf {E = ReadError} (Ok bytes) TooLong → left ≡ Some (drop (limit + 1) content)) (λ _ e. absurd (cc));
      only = λ _. (bytes.items, omega arith, given);
      fault = λ e. absurd (cc);
      later = omega arith;
      calm = λ _. calm;
      rest = (bytes.items, omega arith, given);
      reads = (bytes.items, omega arith, omega arith, given);
      reads_ok = omega arith;
      reads_long = λ e. absurd (cc);
    }

-- more bytes than the limit
pub ReadsAll-at_too_long : (limit : ℕ) (before left : Option (List ℕ)) (bytes : Vec ℕ Global) (faults faults' reads reads' : ℕ)
    → HasGiven before left bytes.items → vec_len bytes ≡ limit + 1 → faults' ≡ faults → reads' ≤ reads + vec_len bytes
    → ReadsAll limit (Err TooLong) before left faults faults' reads reads'
ReadsAll-at_too_long limit before left bytes faults faults' reads reads' given full calm count =
    let len : vec_len bytes ≡ length bytes.items = bytes.ok.0 in
    let all : length bytes.items ≡ limit + 1 = omega arith in
    record {
      at_most = tt;
      all = if_some_each before (λ _. ⊤) (λ _. tt);
      at_end = if_some_each before (λ _. ⊤) (λ _. tt);
      too_long = given_over before left bytes.items limit _ given (omega arith);
      taken = left_after before left bytes.items (limit + 1) _ given all;
      only = λ n. absurd (n refl);
      fault = λ e. absurd (cc);
      later = omega arith;
      calm = λ _. calm;
      rest = (bytes.items, omega arith, given);
      reads = (bytes.items, omega arith, omega arith, given);
      reads_ok = tt;
      reads_long = λ _. omega arith;
    }
