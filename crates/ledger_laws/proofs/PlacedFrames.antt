-- The frames that a reading finds on a lane, session by session.
use Rattle.std.proofs.Common.{◌≡◌, ℕ, ◌+◌, ◌<◌, ◌≤◌, ◌==◌, Bool, true, false, List, [], ◌∷◌, ◌++◌, map, refl, sym, ap, ◌∙◌, subst, inl, inr, append_assoc, arith}
use Rattle.std.specs.Prelude.{count_by, if◌then◌else◌}
use Rattle.std.specs.List.{AllByRecursion, filter, flat_map}
use Rattle.std.proofs.lemmas.Bool.{cases_eq, eq-eqb, ne_eqb}
use Rattle.std.proofs.lemmas.List.{append-nil, map-append}
use Rattle.std.proofs.lemmas.List.Elements.{filter-append}
use Rattle.std.proofs.lemmas.List.Sums.{sum_by-cons}
use Rattle.step_kinds.specs.declared.names.LaneName.{LaneName}
use Rattle.ledger_model.specs.Log.{Answered, Numbered, made_in, trains}
use Rattle.ledger_laws.specs.Laws.{NumberedFrom}
use Rattle.ledger_model.specs.Origins.{Carried}
use Rattle.ledger_model.specs.Paths.{placed, placed_from}
use Rattle.ledger_laws.specs.Paths.{IsBefore, Rises, StandsIn, numbered}
use Rattle.ledger_laws.proofs.Subsequences.{all-append, stands-filter, stands-map}

-- the session after a log
abbrev pub session_from : ℕ → ℕ → List Answered → ℕ
session_from k now [] = now
session_from k now (made ∷ log) = session_from k (if trains k made then now + 1 else now) log

-- The session after a log is the session before it plus the number of times that the log trains the pair.
pub session_from-count : (k now : ℕ) (log : List Answered) → session_from k now log ≡ now + count_by (trains k) log
session_from-count k now [] = omega arith
session_from-count k now (made ∷ log) =
    session_from-count k (if trains k made then now + 1 else now) log ∙ go (trains k made) ∙ ap (λ n. now + n) (sym (sum_by-cons (λ x. if trains k x then 1 else 0) made log))
  where
    go : (b : Bool) → (if b then now + 1 else now) + count_by (trains k) log ≡ now + ((if b then 1 else 0) + count_by (trains k) log)
    go true = omega arith
    go false = omega arith

module _ (read : Answered → List Numbered) (lane : LaneName) where
  -- one item of the log more
  pub placed_from-last : (now : ℕ) (log : List Answered) (made : Answered)
      → placed_from read lane now (log ++ made ∷ []) ≡ placed_from read lane now log ++ map (placed lane (session_from lane.pair now log)) (read made)
  placed_from-last now [] made = append-nil (map (placed lane now) (read made))
  placed_from-last now (first ∷ log) made =
      let next = if trains lane.pair first then now + 1 else now in
      ap (λ rest. map (placed lane now) (read first) ++ rest) (placed_from-last next log made)
      ∙ sym (append_assoc (map (placed lane now) (read first)) (placed_from read lane next log) (map (placed lane (session_from lane.pair next log)) (read made)))

  -- they are on the lane
  on_lane : (session : ℕ) (frames : List Numbered) → AllByRecursion (λ c. c.origin.lane ≡ lane) (map (placed lane session) frames)
  on_lane session [] = tt
  on_lane session (frame ∷ frames) = (refl, on_lane session frames)

  pub all_on_lane : (now : ℕ) (log : List Answered) → AllByRecursion (λ c. c.origin.lane ≡ lane) (placed_from read lane now log)
  all_on_lane now [] = tt
  all_on_lane now (made ∷ log) =
      let next = if trains lane.pair made then now + 1 else now in
      all-append (λ (c : Carried). c.origin.lane ≡ lane) (map (placed lane now) (read made)) (placed_from read lane next log) (on_lane now (read made)) (all_on_lane next log)

-- those of a session
abbrev pub of_session : ℕ → List Carried → List Numbered
of_session session frames = map numbered (filter (λ c. c.origin.session == session) frames)

of_session-append : (session : ℕ) (xs ys : List Carried) → of_session session (xs ++ ys) ≡ of_session session xs ++ of_session session ys
of_session-append session xs ys =
    ap (map numbered) (filter-append (λ (c : Carried). c.origin.session == session) xs ys)
    ∙ map-append numbered (filter (λ c. c.origin.session == session) xs) (filter (λ c. c.origin.session == session) ys)

of_session-placed : (session : ℕ) (lane : LaneName) (now : ℕ) (frames : List Numbered) → of_session session (map (placed lane now) frames) ≡ (if now == session then frames else [])
of_session-placed session lane now frames = go (now == session) refl frames
  where
    go : (b : Bool) → (now == session) ≡ b → (frames : List Numbered) → of_session session (map (placed lane now) frames) ≡ (if b then frames else [])
    go true e [] = refl
    go false e [] = refl
    go true e (frame ∷ frames) =
        ap (λ b. map numbered (if b then placed lane now frame ∷ filter (λ c. c.origin.session == session) (map (placed lane now) frames) else filter (λ c. c.origin.session == session) (map (placed lane now) frames))) e
        ∙ ap (λ rest. frame ∷ rest) (go true e frames)
    go false e (frame ∷ frames) =
        ap (λ b. map numbered (if b then placed lane now frame ∷ filter (λ c. c.origin.session == session) (map (placed lane now) frames) else filter (λ c. c.origin.session == session) (map (placed lane now) frames))) e
        ∙ go false e frames

-- Of the frames that a reading places on a lane, those of a session are what it finds in that session's items.
pub of_session-placed_from : (read : Answered → List Numbered) (lane : LaneName) (session now : ℕ) (log : List Answered)
    → of_session session (placed_from read lane now log) ≡ flat_map read (made_in lane.pair session now log)
of_session-placed_from read lane session now [] = refl
of_session-placed_from read lane session now (made ∷ log) =
    let next = if trains lane.pair made then now + 1 else now in
    of_session-append session (map (placed lane now) (read made)) (placed_from read lane next log)
    ∙ ap (λ xs. xs ++ of_session session (placed_from read lane next log)) (of_session-placed session lane now (read made))
    ∙ ap (λ xs. (if now == session then read made else []) ++ xs) (of_session-placed_from read lane session next log)
    ∙ go (now == session) (made_in lane.pair session next log)
  where
    go : (b : Bool) (rest : List Answered) → (if b then read made else []) ++ flat_map read rest ≡ flat_map read (if b then made ∷ rest else rest)
    go true rest = refl
    go false rest = refl

-- the sessions go up
abbrev Ascends : ℕ → List Carried → Type 0
Ascends now [] = Unit {0}
Ascends now (c ∷ cs) = (now ≤ c.origin.session) × Ascends c.origin.session cs

ascends-from : (m n : ℕ) (cs : List Carried) → m ≤ n → Ascends n cs → Ascends m cs
ascends-from m n [] h k = tt
ascends-from m n (c ∷ cs) h k = (omega (arith, k.0), k.1)

ascends-placed : (lane : LaneName) (now : ℕ) (frames : List Numbered) (rest : List Carried) → Ascends now rest → Ascends now (map (placed lane now) frames ++ rest)
ascends-placed lane now [] rest h = h
ascends-placed lane now (frame ∷ frames) rest h = (omega arith, ascends-placed lane now frames rest h)

ascends-placed_from : (read : Answered → List Numbered) (lane : LaneName) (now : ℕ) (log : List Answered) → Ascends now (placed_from read lane now log)
ascends-placed_from read lane now [] = tt
ascends-placed_from read lane now (made ∷ log) =
    let next = if trains lane.pair made then now + 1 else now in
    ascends-placed lane now (read made) (placed_from read lane next log) (ascends-from now next (placed_from read lane next log) (later (trains lane.pair made)) (ascends-placed_from read lane next log))
  where
    later : (b : Bool) → now ≤ (if b then now + 1 else now)
    later true = omega arith
    later false = omega arith

-- where the frames of each session are numbered, and the sessions go up, they rise
abbrev Before : Carried → Carried → Type 0
Before c d = IsBefore c.origin d.origin

of_session-here : (session : ℕ) (c : Carried) (cs : List Carried) → c.origin.session ≡ session → of_session session (c ∷ cs) ≡ numbered c ∷ of_session session cs
of_session-here session c cs e =
    ap (λ b. map numbered (if b then c ∷ filter (λ d. d.origin.session == session) cs else filter (λ d. d.origin.session == session) cs)) (eq-eqb c.origin.session session e)

of_session-elsewhere : (session : ℕ) (c : Carried) (cs : List Carried) → (c.origin.session ≡ session → ⊥) → of_session session (c ∷ cs) ≡ of_session session cs
of_session-elsewhere session c cs ne =
    ap (λ b. map numbered (if b then c ∷ filter (λ d. d.origin.session == session) cs else filter (λ d. d.origin.session == session) cs)) (ne_eqb c.origin.session session ne)

all_later : (c : Carried) (m k : ℕ) (cs : List Carried) → c.origin.session ≤ m → Ascends m cs → c.origin.number < k → NumberedFrom k (of_session c.origin.session cs) → AllByRecursion (Before c) cs
all_later c m k [] less up above numbers = tt
all_later c m k (d ∷ cs) less up above numbers = elim (cases_eq d.origin.session c.origin.session) [
  | inl same ↦
      let here : NumberedFrom k (numbered d ∷ of_session c.origin.session cs) = subst (NumberedFrom k) (of_session-here c.origin.session d cs same) numbers in
      (inr (sym same, omega (arith, here.0)), all_later c d.origin.session (k + 1) cs (omega arith) up.1 (omega arith) here.1)
  | inr other ↦ (
    inl (omega (arith, up.0)),
    all_later c d.origin.session k cs (omega (arith, up.0)) up.1 above (subst (NumberedFrom k) (of_session-elsewhere c.origin.session d cs other) numbers),
  )
]

abbrev IsNumbered : List Carried → Type 0
IsNumbered cs = (session : ℕ) → (n : ℕ) × NumberedFrom n (of_session session cs)

numbered_rest : (c : Carried) (cs : List Carried) → IsNumbered (c ∷ cs) → IsNumbered cs
numbered_rest c cs h session = elim (cases_eq c.origin.session session) [
  | inl same ↦
      let here : NumberedFrom (h session).0 (numbered c ∷ of_session session cs) = subst (NumberedFrom (h session).0) (of_session-here session c cs same) (h session).1 in
      ((h session).0 + 1, here.1)
  | inr other ↦ ((h session).0, subst (NumberedFrom (h session).0) (of_session-elsewhere session c cs other) (h session).1)
]

rises_numbered : (now : ℕ) (cs : List Carried) → Ascends now cs → IsNumbered cs → Rises Before cs
rises_numbered now [] up h = tt
rises_numbered now (c ∷ cs) up h =
    let own = h c.origin.session in
    let here : NumberedFrom own.0 (numbered c ∷ of_session c.origin.session cs) = subst (NumberedFrom own.0) (of_session-here c.origin.session c cs refl) own.1 in
    (all_later c c.origin.session (own.0 + 1) cs (omega arith) up.1 (omega (arith, here.0)) here.1, rises_numbered c.origin.session cs up.1 (numbered_rest c cs h))

-- what a reading finds on a lane rises, if each session's is numbered from 0 on
pub placed_rise : (read : Answered → List Numbered) (lane : LaneName) (now : ℕ) (log : List Answered)
    → ((session : ℕ) → NumberedFrom 0 (flat_map read (made_in lane.pair session now log))) → Rises (λ c d. IsBefore c.origin d.origin) (placed_from read lane now log)
placed_rise read lane now log numbers =
    rises_numbered now (placed_from read lane now log) (ascends-placed_from read lane now log)
    (λ session. (0, subst (NumberedFrom 0) (sym (of_session-placed_from read lane session now log)) (numbers session)))

-- a frame that is found stands in its session
pub placed_stands : (read : Answered → List Numbered) (lane : LaneName) (now : ℕ) (log : List Answered) (c : Carried) → StandsIn c (placed_from read lane now log)
    → StandsIn (numbered c) (flat_map read (made_in lane.pair c.origin.session now log))
placed_stands read lane now log c stands =
    subst (StandsIn (numbered c)) (of_session-placed_from read lane c.origin.session now log)
    (stands-map numbered c (filter (λ d. d.origin.session == c.origin.session) (placed_from read lane now log))
    (stands-filter (λ d. d.origin.session == c.origin.session) c (placed_from read lane now log) (eq-eqb c.origin.session c.origin.session refl) stands))

-- frames that are numbered are known by their numbers
above : (k : ℕ) (frames : List Numbered) (f : Numbered) → NumberedFrom k frames → StandsIn f frames → k ≤ f.number
above k [] f h s = absurd s
above k (g ∷ frames) f h (inl e) = let n = ap (λ (x : Numbered). x.number) e in omega (arith, h.0)
above k (g ∷ frames) f h (inr s) = omega (arith, above (k + 1) frames f h.1 s)

-- In a list of frames that are numbered in a row, two frames with the same number are the same frame.
pub number_tells : (k : ℕ) (frames : List Numbered) (f g : Numbered) → NumberedFrom k frames → StandsIn f frames → StandsIn g frames → f.number ≡ g.number → f ≡ g
number_tells k [] f g h s t e = absurd s
number_tells k (x ∷ frames) f g h (inl a) (inl b) e = a ∙ sym b
number_tells k (x ∷ frames) f g h (inl a) (inr t) e = let n = ap (λ (y : Numbered). y.number) a in absurd (omega (arith, h.0, above (k + 1) frames g h.1 t))
number_tells k (x ∷ frames) f g h (inr s) (inl b) e = let n = ap (λ (y : Numbered). y.number) b in absurd (omega (arith, h.0, above (k + 1) frames f h.1 s))
number_tells k (x ∷ frames) f g h (inr s) (inr t) e = number_tells (k + 1) frames f g h.1 s t e
