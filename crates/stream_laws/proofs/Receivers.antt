-- A receiver that takes the frames of a session, one after another.
use Rattle.std.proofs.Common.{◌≡◌, ◌≢◌, ℕ, zero, suc, ◌+◌, ◌-◌, ◌<◌, ◌≤◌, max, Bool, true, false, cond, eqb, List, [], ◌∷◌, ◌++◌, length, take, drop, Some, refl, sym, ap, ◌∙◌, subst, arith}
use Rattle.std.specs.List.{fold, slice_get}
use Rattle.std.proofs.lemmas.List.{length_push, length-take}
use Rattle.std.proofs.lemmas.Option.{same_Some}
use Rattle.std.proofs.lemmas.Bool.{le-leb, eqb-true, eqb-false}
use Rattle.stream_model.specs.Numbers.{number_frame, number_in}
use Rattle.stream_model.specs.Sender.{most_items, session_frames}
use Rattle.stream_model.specs.Receiver.{Receiver, answer_in, session_from, start_answer, take_answer, taken, taken_in}
use Rattle.stream_model.specs.declared.Session.{Session}
use Rattle.stream_model.specs.declared.Session.TheVariants.{Fresh, At, Spoiled}
use Rattle.stream_model.specs.declared.TakeAnswer.{TakeAnswer}
use Rattle.stream_model.specs.declared.TakeAnswer.TheVariants.{Start, Kept, Old, Bad}
use Rattle.stream_laws.proofs.Lists.{first_dropped, get_dropped, rest_dropped, take_next}
use Rattle.stream_laws.proofs.Numbers.{number_in-number_frame}

-- where a receiver stands that got this many frames of a session that starts at a number
abbrev pub session_of : ℕ → ℕ → Session
session_of start zero = Fresh
session_of start (suc got) = At (start + got)

-- a receiver keeps the first items, and got this many frames of a session that starts at one of them
pub record Stands (all : List (List ℕ)) (start got : ℕ) (items : List (List ℕ)) (session : Session) : Type 0 where
  pub kept : items ≡ take (length items) all
  pub within : start ≤ length items
  pub reached : start + got ≤ length items + 1
  pub state : session ≡ session_of start got

abbrev pub StandsAt : List (List ℕ) → ℕ → ℕ → Receiver → Type 0
StandsAt all start got receiver = Stands all start got receiver.items receiver.session

-- it takes one frame more: the receiver after it, how many items it keeps then, and that its answer isn't Bad
pub record TookOne (all : List (List ℕ)) (start got count : ℕ) (after : Receiver) (answer : TakeAnswer) : Type 0 where
  pub stands : StandsAt all start (got + 1) after
  pub count_after : length after.items ≡ max count (start + got)
  pub good : answer ≢ Bad

-- the session's first frame
first_answer : (count start : ℕ) → start ≤ count → start_answer count (Some start) ≡ Start
first_answer count start h = ap (λ (b : Bool). cond b Start Bad) (le-leb start count h)

first_session : (count start : ℕ) → start ≤ count → session_from count (Some start) ≡ At start
first_session count start h = ap (λ (b : Bool). cond b (At start) Spoiled) (le-leb start count h)

take_first : (all : List (List ℕ)) (start : ℕ) (items : List (List ℕ)) (frame : List ℕ) → length all < most_items → Stands all start 0 items Fresh → frame ≡ number_frame start
    → TookOne all start 0 (length items) (taken_in Fresh items frame) (answer_in Fresh (length items) frame)
take_first all start items frame few s e =
    let short : length items ≤ length all = let h = ap length s.kept ∙ length-take (length items) all in omega (arith, h) in
    let said : number_in frame ≡ Some start = ap number_in e ∙ number_in-number_frame start (omega (arith, s.within, few, short)) in
    let at : At start ≡ session_of start 1 = ap (λ (n : ℕ). At n) (omega arith) in
    let answer : start_answer (length items) (number_in frame) ≡ Start = ap (start_answer (length items)) said ∙ first_answer (length items) start s.within in
    record {
      stands = record {
        kept = s.kept;
        within = s.within;
        reached = omega (arith, s.within);
        state = ap (session_from (length items)) said ∙ (first_session (length items) start s.within ∙ at);
      };
      count_after = omega (arith, s.within);
      good = λ bad. let differs : Start ≡ Bad = sym answer ∙ bad in cc;
    }

-- an item that the receiver lacks, and one that it has
take_kept : (all : List (List ℕ)) (start got : ℕ) (items : List (List ℕ)) (frame : List ℕ) → Stands all start (suc got) items (At (start + got))
    → slice_get all (start + got) ≡ Some frame → start + got ≡ length items
    → Stands all start (suc got + 1) (items ++ frame ∷ []) (At (start + got + 1)) × (length (items ++ frame ∷ []) ≡ max (length items) (start + suc got))
take_kept all start got items frame s e same =
    let long = length_push items frame in
    let here : slice_get all (length items) ≡ Some frame = ap (slice_get all) (sym same) ∙ e in
    let state : At (start + got + 1) ≡ At (start + (got + 1)) = ap (λ (n : ℕ). At n) (omega arith) in
    let count : suc got + 1 ≡ suc (got + 1) = omega arith in (
      record {
        kept = ap (λ (xs : List (List ℕ)). xs ++ frame ∷ []) s.kept ∙ (sym (take_next all (length items) frame here) ∙ ap (λ (n : ℕ). take n all) (sym long));
        within = omega (arith, s.within, long);
        reached = omega (arith, long);
        state = state ∙ ap (session_of start) (sym count);
      },
      omega (arith, long),
    )

take_old : (all : List (List ℕ)) (start got : ℕ) (items : List (List ℕ)) → Stands all start (suc got) items (At (start + got)) → (start + got ≡ length items → ⊥)
    → Stands all start (suc got + 1) items (At (start + got + 1)) × (length items ≡ max (length items) (start + suc got))
take_old all start got items s other =
    let below : start + got < length items = let h = s.reached in omega (arith, h, other) in
    let state : At (start + got + 1) ≡ At (start + (got + 1)) = ap (λ (n : ℕ). At n) (omega arith) in
    let count : suc got + 1 ≡ suc (got + 1) = omega arith in (
      record {
        kept = s.kept;
        within = s.within;
        reached = omega (arith, below);
        state = state ∙ ap (session_of start) (sym count);
      },
      omega (arith, below),
    )

take_item : (all : List (List ℕ)) (start got : ℕ) (items : List (List ℕ)) (frame : List ℕ) → Stands all start (suc got) items (At (start + got))
    → slice_get all (start + got) ≡ Some frame
    → TookOne all start (suc got) (length items) (taken_in (At (start + got)) items frame) (answer_in (At (start + got)) (length items) frame)
take_item all start got items frame s e = by (eqb (start + got) (length items)) refl
  where
    by : (b : Bool) → eqb (start + got) (length items) ≡ b
        → TookOne all start (suc got) (length items) (record { items = cond b (items ++ frame ∷ []) items; session = At (start + got + 1) }) (cond b (Kept (start + got)) (Old (start + got)))
    by true t = let k = take_kept all start got items frame s e (eqb-true (start + got) (length items) t) in record { stands = k.0; count_after = k.1; good = λ bad. cc }
    by false t = let k = take_old all start got items s (eqb-false (start + got) (length items) t) in record { stands = k.0; count_after = k.1; good = λ bad. cc }

-- any frame of the session, by its place
pub take_one : (all : List (List ℕ)) (start got : ℕ) (receiver : Receiver) (frame : List ℕ) → length all < most_items → StandsAt all start got receiver
    → slice_get (session_frames all start) got ≡ Some frame → TookOne all start got (length receiver.items) (taken receiver frame) (take_answer receiver frame)
take_one all start got receiver frame few s e =
    let P : Session → Type 0 = λ session. TookOne all start got (length receiver.items) (taken_in session receiver.items frame) (answer_in session (length receiver.items) frame) in
    subst P (sym s.state) (at got e (record { kept = s.kept; within = s.within; reached = s.reached; state = refl }))
  where
    at : (got : ℕ) → slice_get (session_frames all start) got ≡ Some frame → Stands all start got receiver.items (session_of start got)
        → TookOne all start got (length receiver.items) (taken_in (session_of start got) receiver.items frame) (answer_in (session_of start got) (length receiver.items) frame)
    at zero e s = take_first all start receiver.items frame few s (sym (same_Some (number_frame start) frame e))
    at (suc got) e s = take_item all start got receiver.items frame s (sym (get_dropped start all got) ∙ e)

-- one after another
pub take_all_of : (all : List (List ℕ)) (start : ℕ) (frames rest : List (List ℕ)) (got : ℕ) (receiver : Receiver) → length all < most_items → StandsAt all start got receiver
    → drop got (session_frames all start) ≡ frames ++ rest
    → StandsAt all start (got + length frames) (fold taken receiver frames) × (length (fold taken receiver frames).items ≡ max (length receiver.items) (start + got + length frames - 1))
take_all_of all start [] rest got receiver few s e =
    let k : got ≡ got + 0 = omega arith in
    (subst (λ (n : ℕ). StandsAt all start n receiver) k s, let h = s.reached in omega (arith, h))
take_all_of all start (frame ∷ frames) rest got receiver few s e =
    let one = take_one all start got receiver frame few s (first_dropped got (session_frames all start) frame (frames ++ rest) e) in
    let more = take_all_of all start frames rest (got + 1) (taken receiver frame) few one.stands (rest_dropped got (session_frames all start) frame (frames ++ rest) e) in
    let k : got + 1 + length frames ≡ got + suc (length frames) = omega arith in
    let count = one.count_after in
    (subst (λ (n : ℕ). StandsAt all start n (fold taken (taken receiver frame) frames)) k more.0, more.1 ∙ omega (arith, count))
