-- What is read of a log, with one entry more at its end.
use Rattle.step_kinds.specs.declared.names.Side.{Side}
use Rattle.std.proofs.lemmas.List.{append-nil}
use Rattle.std.proofs.lemmas.Grind.{flat_map-append}
use Rattle.std.specs.List.{flat_map}
use Rattle.std.proofs.Common.{◌≡◌, ℕ, Bool, true, false, List, [], ◌∷◌, ◌++◌, refl, ◌+◌, ◌==◌, ap, ◌∙◌, Option, None}
use Rattle.std.specs.Prelude.{if◌then◌else◌}
use Rattle.ledger_model.specs.Log.{Answered, trains, breaks, up_after, made_in, made_since, in_this_session, saw_empty, last_look_empty, pad_after, landed_pad, Looked, looked_after}

-- whether the link is up after one entry more
abbrev pub up_step : ℕ → Answered → Bool → Bool
up_step k made now = if trains k made then true else if breaks k made then false else now

-- Whether a link is up after one entry of the log more depends on that entry and on whether it was up before.
pub up_after-last : (k : ℕ) (now : Bool) (log : List Answered) (made : Answered) → up_after k now (log ++ made ∷ []) ≡ up_step k made (up_after k now log)
up_after-last k now [] made = refl
up_after-last k now (first ∷ log) made = up_after-last k (up_step k first now) log made

-- the session in which a pair is after a log, if it was in session `now`
abbrev pub session_at : ℕ → ℕ → List Answered → ℕ
session_at k now [] = now
session_at k now (made ∷ log) = session_at k (if trains k made then now + 1 else now) log

-- With one entry of the log more a pair is in the next session if the entry trains it, and else in the same one.
pub session_at-last : (k now : ℕ) (log : List Answered) (made : Answered)
    → session_at k now (log ++ made ∷ []) ≡ (if trains k made then session_at k now log + 1 else session_at k now log)
session_at-last k now [] made = refl
session_at-last k now (first ∷ log) made = session_at-last k (if trains k first then now + 1 else now) log made

-- what was made in a session, with one entry more
pub made_in-last : (k session now : ℕ) (log : List Answered) (made : Answered)
    → made_in k session now (log ++ made ∷ []) ≡ made_in k session now log ++ (if session_at k now log == session then made ∷ [] else [])
made_in-last k session now [] made = refl
made_in-last k session now (first ∷ log) made =
    go (now == session) _ _ _ (made_in-last k session (if trains k first then now + 1 else now) log made)
  where
    go : (b : Bool) (whole part end : List Answered) → whole ≡ part ++ end → (if b then first ∷ whole else whole) ≡ (if b then first ∷ part else part) ++ end
    go true whole part end e = ap (λ log. first ∷ log) e
    go false whole part end e = e

-- what a lane's reader of each entry finds in a session, with one entry more
pub found_in-last : {X : Type 0} (read : Answered → List X) (k session now : ℕ) (log : List Answered) (made : Answered)
    → flat_map read (made_in k session now (log ++ made ∷ [])) ≡ flat_map read (made_in k session now log) ++ (if session_at k now log == session then read made else [])
found_in-last read k session now log made =
    ap (flat_map read) (made_in-last k session now log made)
    ∙ flat_map-append read (made_in k session now log) (if session_at k now log == session then made ∷ [] else [])
    ∙ ap (λ end. flat_map read (made_in k session now log) ++ end) (one (session_at k now log == session))
  where
    one : (b : Bool) → flat_map read (if b then made ∷ [] else []) ≡ (if b then read made else [])
    one true = append-nil (read made)
    one false = refl

-- what was made since the session began, with one entry more
pub made_since-last : (k : ℕ) (kept log : List Answered) (made : Answered)
    → made_since k kept (log ++ made ∷ []) ≡ (if trains k made then [] else made_since k kept log ++ made ∷ [])
made_since-last k kept [] made = refl
made_since-last k kept (first ∷ log) made = made_since-last k (if trains k first then [] else kept ++ first ∷ []) log made

-- what a side saw on a queue, with one entry more
pub saw_empty-last : (k : ℕ) (side : Side) (queue : ℕ) (now : Bool) (log : List Answered) (made : Answered)
    → saw_empty k side queue now (log ++ made ∷ []) ≡ saw_empty k side queue (saw_empty k side queue now log) (made ∷ [])
saw_empty-last k side queue now [] made = refl
saw_empty-last k side queue now (first ∷ log) made = saw_empty-last k side queue (saw_empty k side queue now (first ∷ [])) log made

-- what is read of a session, which begins anew where a session begins
anew-last : {X : Type 0} (read : List Answered → X) (next : X → X) (k : ℕ) (log : List Answered) (made : Answered)
    → ((log : List Answered) → read (log ++ made ∷ []) ≡ next (read log)) → read (in_this_session k (log ++ made ∷ [])) ≡ (if trains k made then read [] else next (read (in_this_session k log)))
anew-last read next k log made last = ap read (made_since-last k [] log made) ∙ go (trains k made)
  where
    go : (b : Bool) → read (if b then [] else made_since k [] log ++ made ∷ []) ≡ (if b then read [] else next (read (in_this_session k log)))
    go true = refl
    go false = last (made_since k [] log)

-- With one entry of the log more the last look wasn't empty if a session begins, and else it is as the entry says.
pub last_look-last : (k : ℕ) (side : Side) (queue : ℕ) (log : List Answered) (made : Answered)
    → last_look_empty (log ++ made ∷ []) k side queue ≡ (if trains k made then false else saw_empty k side queue (last_look_empty log k side queue) (made ∷ []))
last_look-last k side queue log made =
    anew-last (saw_empty k side queue false) (λ saw. saw_empty k side queue saw (made ∷ [])) k log made (λ before. saw_empty-last k side queue false before made)

-- what landed in a scratchpad, with one entry more
pub pad_after-last : (k : ℕ) (side : Side) (i : ℕ) (now : Option ℕ) (log : List Answered) (made : Answered)
    → pad_after k side i now (log ++ made ∷ []) ≡ pad_after k side i (pad_after k side i now log) (made ∷ [])
pad_after-last k side i now [] made = refl
pad_after-last k side i now (first ∷ log) made = pad_after-last k side i (pad_after k side i now (first ∷ [])) log made

-- With one entry of the log more nothing landed in a scratchpad if a session begins, else what the entry leaves.
pub landed_pad-last : (k : ℕ) (side : Side) (i : ℕ) (log : List Answered) (made : Answered)
    → landed_pad (log ++ made ∷ []) k side i ≡ (if trains k made then None else pad_after k side i (landed_pad log k side i) (made ∷ []))
landed_pad-last k side i log made =
    anew-last (pad_after k side i None) (λ now. pad_after k side i now (made ∷ [])) k log made (λ before. pad_after-last k side i None before made)

-- what each entry since the session began tells, with one entry more
pub session_found-last : {X : Type 0} (read : Answered → List X) (k : ℕ) (log : List Answered) (made : Answered)
    → flat_map read (in_this_session k (log ++ made ∷ [])) ≡ (if trains k made then [] else flat_map read (in_this_session k log) ++ read made)
session_found-last read k log made =
    anew-last (flat_map read) (λ found. found ++ read made) k log made
    (λ before. flat_map-append read before (made ∷ []) ∙ ap (λ end. flat_map read before ++ end) (append-nil (read made)))

-- the entry that a side found last, with one entry of the log more
pub looked_after-last : (k : ℕ) (side : Side) (queue : ℕ) (now : Option Looked) (log : List Answered) (made : Answered)
    → looked_after k side queue now (log ++ made ∷ []) ≡ looked_after k side queue (looked_after k side queue now log) (made ∷ [])
looked_after-last k side queue now [] made = refl
looked_after-last k side queue now (first ∷ log) made = looked_after-last k side queue (looked_after k side queue now (first ∷ [])) log made
