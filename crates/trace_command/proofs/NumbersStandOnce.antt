-- Each number of a side's writes stands once among those that landed, were dropped, or are in flight.
use Rattle.std.proofs.Common.{◌≡◌, ℕ, ◌+◌, ◌==◌, ◌<◌, Bool, true, false, cond, Some, List, [], ◌∷◌, ◌++◌, length, refl, sym, ap, ◌∙◌, subst, append_assoc, arith}
use Rattle.std.specs.Prelude.{if◌then◌else◌, nat_lt, remove, slice_get, slice_index_or}
use Rattle.std.specs.List.{fold}
use Rattle.std.proofs.lemmas.Bool.Decides.{nat_tests}
use Rattle.std.proofs.lemmas.List.{append-nil, length-map, map-append}
use Rattle.std.proofs.lemmas.List.Sums.{sum_by-append}
use Rattle.std.proofs.lemmas.Option.{slice_get-get_or, slice_get_within}
use Rattle.step_kinds.specs.Sides.{same_side}
use Rattle.step_kinds.specs.Subject.{subject_of}
use Rattle.step_kinds.specs.declared.names.Side.{Side}
use Rattle.step_kinds.specs.declared.names.Side.TheVariants.{A, B}
use Rattle.step_kinds.specs.declared.plan.Plan.{Plan}
use Rattle.step_kinds.specs.declared.steps.Answer.{Answer}
use Rattle.step_kinds.specs.declared.steps.Answer.TheVariants.{Ok as Done, OkSession, Offered, Posted, Blocked, Landed, Acked}
use Rattle.step_kinds.specs.declared.steps.Label.{Label}
use Rattle.step_kinds.specs.declared.steps.Label.TheVariants.{Index}
use Rattle.step_kinds.specs.declared.steps.Step.{Step}
use Rattle.step_kinds.specs.declared.steps.Step.TheVariants.{Train, Break, DropDone, Offer, Ready, Post, Land, Ack, Spad, Poke}
use Rattle.pair_model.specs.Both.{Both, at_side}
use Rattle.pair_model.specs.Plans.{pair_plan}
use Rattle.posted_queue.proofs.Facade.{count_by-remove}
use Rattle.ledger_model.specs.Log.{Answered, Memories, log_of}
use Rattle.ledger_laws.proofs.Facade.{count_by-last, get-map, log_of-last}
use Rattle.trace_command.specs.Writes.{PairWrites, SideWrites, change_by, class_on, goes_through, trace_number_at, numbers_in, pair_after, pair_start, trace_with_posted}
use Rattle.trace_command.specs.declared.changes.Change.{Change}
use Rattle.trace_command.specs.declared.changes.Change.TheVariants.{Trains, Breaks, Drops, Posts, Loses, Lands, Waits, Nothing}
use Rattle.trace_command.specs.declared.writes.FlyingWrite.{FlyingWrite}
use Rattle.trace_command.specs.Laws.{EachNumberStandsOnce, trace_change_of, dropped_by, dropped_numbers, how_often, landed_by, landed_numbers, pair_writes, taken_from, with_item}
use Rattle.trace_command.proofs.AnswersFit.{LandsThere}
use Rattle.trace_command.proofs.FlyingLabels.{flying_after}
use Rattle.trace_command.proofs.NumbersInStep.{each_longer, map-remove}
use Rattle.trace_command.proofs.LogsInStep.{all_after, made_next, next_lands, run_in_step, writes-last}

-- what lands is in flight
abbrev Inside : Side → PairWrites → Change → Type 0
Inside side writes (Lands s place) = same_side s side ≡ true → place < length (at_side writes.sides side).flight
Inside side writes change = Unit {0}

-- How often a number stands in a list

module _ (n : ℕ) where
  -- whether a number is below another, as 1 or 0
  abbrev below : ℕ → ℕ
  below bound = if nat_lt n bound then 1 else 0

  below-more : (bound : ℕ) → below (bound + 1) ≡ below bound + (if bound == n then 1 else 0)
  below-more bound = grind (arith, nat_tests)

  often-append : (xs ys : List ℕ) → how_often n (xs ++ ys) ≡ how_often n xs + how_often n ys
  often-append xs ys = sum_by-append (λ m. cond (m == n) 1 0) xs ys

  often-one : (m : ℕ) → how_often n (m ∷ []) ≡ (if m == n then 1 else 0)
  often-one m = omega arith

  posted_often : (flight : List FlyingWrite) (write : FlyingWrite) → how_often n (numbers_in (flight ++ write ∷ [])) ≡ how_often n (numbers_in flight) + (if write.number == n then 1 else 0)
  posted_often flight write =
      ap (how_often n) (map-append (λ (w : FlyingWrite). w.number) flight (write ∷ [])) ∙ count_by-last (λ m. m == n) (numbers_in flight) write.number

  number_there : (flight : List FlyingWrite) (place : ℕ) → place < length flight → slice_get (numbers_in flight) place ≡ Some (trace_number_at flight place)
  number_there flight place within = get-map (λ (w : FlyingWrite). w.number) flight place (slice_index_or flight place (record { number = 0; class = 0 })) (slice_get-get_or flight place (record { number = 0; class = 0 }) within)

  landed_often : (flight : List FlyingWrite) (place : ℕ) → place < length flight
      → how_often n (numbers_in (remove flight place)) + (if trace_number_at flight place == n then 1 else 0) ≡ how_often n (numbers_in flight)
  landed_often flight place within =
      ap (λ numbers. how_often n numbers + (if trace_number_at flight place == n then 1 else 0)) (map-remove (λ (w : FlyingWrite). w.number) flight place)
      ∙ count_by-remove (λ m. m == n) (numbers_in flight) place (trace_number_at flight place) (number_there flight place within)

  -- What a change keeps

  module _ (side : Side) where
    -- this many of this number landed and were dropped, and it stands once in all where it was posted
    abbrev Counts : ℕ → ℕ → PairWrites → Type 0
    Counts landed dropped writes = landed + (dropped + how_often n (numbers_in (at_side writes.sides side).flight)) ≡ below (at_side writes.sides side).posted

    abbrev CountsAfter : ℕ → ℕ → PairWrites → Change → Type 0
    CountsAfter landed dropped writes change =
        Counts (landed + how_often n (landed_by side writes change)) (dropped + how_often n (dropped_by side writes change)) (pair_after writes change)

  same_counts : (l d f b : ℕ) → l + (d + f) ≡ b → (l + 0) + ((d + 0) + f) ≡ b
  same_counts l d f b e = omega arith

  posted_counts : (l d f p f_then more : ℕ) → l + (d + f) ≡ below p → f_then ≡ f + more → more ≡ (if p == n then 1 else 0) → (l + 0) + ((d + 0) + f_then) ≡ below (p + 1)
  posted_counts l d f p f_then more e is adds =
      let grows : below (p + 1) ≡ below p + (if p == n then 1 else 0) = below-more p in
      omega arith

  landed_counts : (l d f f_then one b : ℕ) → l + (d + f) ≡ b → f_then + one ≡ f → (l + one) + ((d + 0) + f_then) ≡ b
  landed_counts l d f f_then one b e is = omega arith

  dropped_counts : (l d f b : ℕ) → l + (d + f) ≡ b → (l + 0) + ((d + f) + 0) ≡ b
  dropped_counts l d f b e = omega arith

  -- how often it stands among the writes of a side that are in flight
  abbrev Flying : SideWrites → ℕ
  Flying own = how_often n (numbers_in own.flight)

  change_counts : (side : Side) (up : Bool) (session : ℕ) (sides : Both SideWrites) (change : Change) (l d : ℕ)
      → Inside side (record { up = up; session = session; sides = sides }) change → Counts side l d (record { up = up; session = session; sides = sides })
      → CountsAfter side l d (record { up = up; session = session; sides = sides }) change
  change_counts side up session sides (Trains k) l d inside e = same_counts l d (Flying (at_side sides side)) (below (at_side sides side).posted) e
  change_counts side up session sides Breaks l d inside e = same_counts l d (Flying (at_side sides side)) (below (at_side sides side).posted) e
  change_counts A up session sides Drops l d inside e = dropped_counts l d (Flying sides.a) (below sides.a.posted) e
  change_counts B up session sides Drops l d inside e = dropped_counts l d (Flying sides.b) (below sides.b.posted) e
  change_counts A true session sides (Posts A class) l d inside e =
      posted_counts l d (Flying sides.a) sides.a.posted (Flying (trace_with_posted sides.a class)) (if sides.a.posted == n then 1 else 0) e
      (posted_often sides.a.flight (record { number = sides.a.posted; class = class })) refl
  change_counts B true session sides (Posts B class) l d inside e =
      posted_counts l d (Flying sides.b) sides.b.posted (Flying (trace_with_posted sides.b class)) (if sides.b.posted == n then 1 else 0) e
      (posted_often sides.b.flight (record { number = sides.b.posted; class = class })) refl
  change_counts A true session sides (Posts B class) l d inside e = same_counts l d (Flying sides.a) (below sides.a.posted) e
  change_counts B true session sides (Posts A class) l d inside e = same_counts l d (Flying sides.b) (below sides.b.posted) e
  change_counts side false session sides (Posts s class) l d inside e = same_counts l d (Flying (at_side sides side)) (below (at_side sides side).posted) e
  change_counts side up session sides Loses l d inside e = same_counts l d (Flying (at_side sides side)) (below (at_side sides side).posted) e
  change_counts A up session sides (Lands A place) l d inside e =
      landed_counts l d (Flying sides.a) (how_often n (numbers_in (remove sides.a.flight place))) (how_often n (trace_number_at sides.a.flight place ∷ [])) (below sides.a.posted) e
      (ap (λ one. how_often n (numbers_in (remove sides.a.flight place)) + one) (often-one (trace_number_at sides.a.flight place)) ∙ landed_often sides.a.flight place (inside refl))
  change_counts B up session sides (Lands B place) l d inside e =
      landed_counts l d (Flying sides.b) (how_often n (numbers_in (remove sides.b.flight place))) (how_often n (trace_number_at sides.b.flight place ∷ [])) (below sides.b.posted) e
      (ap (λ one. how_often n (numbers_in (remove sides.b.flight place)) + one) (often-one (trace_number_at sides.b.flight place)) ∙ landed_often sides.b.flight place (inside refl))
  change_counts A up session sides (Lands B place) l d inside e = same_counts l d (Flying sides.a) (below sides.a.posted) e
  change_counts B up session sides (Lands A place) l d inside e = same_counts l d (Flying sides.b) (below sides.b.posted) e
  change_counts side up session sides (Waits s place) l d inside e = same_counts l d (Flying (at_side sides side)) (below (at_side sides side).posted) e
  change_counts side up session sides Nothing l d inside e = same_counts l d (Flying (at_side sides side)) (below (at_side sides side).posted) e

-- What lands is in flight

module _ (plan : Plan) (pair : ℕ) (side : Side) (writes : PairWrites) (flight : List Label) (long : length (at_side writes.sides side).flight ≡ length flight) where
  -- a change on this pair
  inside_if : (b : Bool) (change : Change) → (b ≡ true → Inside side writes change) → Inside side writes (if b then change else Nothing)
  inside_if true change there = there refl
  inside_if false change there = tt

  -- a post of a queue's write, whether it goes through or not
  inside_post : (b : Bool) (s : Side) (class : ℕ) → Inside side writes (if b then Posts s class else Loses)
  inside_post true s class = tt
  inside_post false s class = tt

  inside : (step : Step) (answer : Answer) → LandsThere pair side flight (record { step = step; answer = answer })
      → subject_of step == pair ≡ true → Inside side writes (change_by (pair_plan plan pair) step answer)
  inside (Train p) (OkSession session) there here = tt
  inside (Break p) Done there here = tt
  inside (DropDone p) Done there here = tt
  inside (Offer p s) (Offered index) there here = tt
  inside (Ready p s queue) Done there here = tt
  inside (Post p s queue) (Posted label) there here = inside_post (goes_through (pair_plan plan pair) s label) s (class_on (pair_plan plan pair) s queue)
  inside (Ack p s queue) (Acked k) there here = inside_post (goes_through (pair_plan plan pair) s (Index queue k)) s (class_on (pair_plan plan pair) s queue)
  inside (Spad p s i value) Done there here = tt
  inside (Poke p s window offset bytes) Done there here = tt
  inside (Land p s place) (Landed label) there here =
      λ same.
      let within : place < length flight = slice_get_within flight place label (there here same) in
      omega arith
  inside (Land p s place) Blocked there here = tt
  inside step answer there here = tt

  -- what an item of a log lands is in flight
  change_inside : (made : Answered) → LandsThere pair side flight made → Inside side writes (trace_change_of plan pair made)
  change_inside made there = inside_if (subject_of made.step == pair) (change_by (pair_plan plan pair) made.step made.answer) (inside made.step made.answer there)

-- Logs

-- what is taken out, with an item more
taken-last : (taken : PairWrites → Change → List ℕ) (plan : Plan) (pair : ℕ) (now : PairWrites) (log : List Answered) (made : Answered)
    → taken_from taken plan pair now (log ++ made ∷ []) ≡ taken_from taken plan pair now log ++ taken (fold (with_item plan pair) now log) (trace_change_of plan pair made)
taken-last taken plan pair now [] made = append-nil (taken now (trace_change_of plan pair made))
taken-last taken plan pair now (first ∷ log) made =
    ap (λ rest. taken now (trace_change_of plan pair first) ++ rest) (taken-last taken plan pair (with_item plan pair now first) log made)
    ∙ sym (append_assoc (taken now (trace_change_of plan pair first)) (taken_from taken plan pair (with_item plan pair now first) log)
    (taken (fold (with_item plan pair) (with_item plan pair now first) log) (trace_change_of plan pair made)))

module _ (plan : Plan) (memories : Memories) (pair : ℕ) (side : Side) (n : ℕ) where
  abbrev Counted : List Answered → Type 0
  Counted log = Counts n side (how_often n (landed_numbers plan log pair side)) (how_often n (dropped_numbers plan log pair side)) (pair_writes plan log pair)

  counted_fresh : Counted []
  counted_fresh = go side
    where
      none : 0 ≡ below n 0
      none = grind (arith, nat_tests)

      go : (side : Side) → Counts n side 0 0 (pair_start (pair_plan plan pair))
      go A = none
      go B = none

  counted_more : (log : List Answered) (made : Answered) → Inside side (pair_writes plan log pair) (trace_change_of plan pair made) → Counted log → Counted (log ++ made ∷ [])
  counted_more log made within counted =
      subst (λ (writes : PairWrites). Counts n side (how_often n (landed_numbers plan (log ++ made ∷ []) pair side)) (how_often n (dropped_numbers plan (log ++ made ∷ []) pair side)) writes)
      (sym (writes-last plan pair log made))
      (subst (λ landed. Counts n side landed (how_often n (dropped_numbers plan (log ++ made ∷ []) pair side)) (with_item plan pair now made)) (sym (more (landed_by side)))
      (subst (λ dropped. Counts n side (how_often n (landed_numbers plan log pair side) + how_often n (landed_by side now change)) dropped (with_item plan pair now made)) (sym (more (dropped_by side)))
      (change_counts n side now.up now.session now.sides change (how_often n (landed_numbers plan log pair side)) (how_often n (dropped_numbers plan log pair side)) within counted)))
    where
      now : PairWrites
      now = pair_writes plan log pair

      change : Change
      change = trace_change_of plan pair made

      more : (taken : PairWrites → Change → List ℕ)
          → how_often n (taken_from taken plan pair (pair_start (pair_plan plan pair)) (log ++ made ∷ []))
          ≡ how_often n (taken_from taken plan pair (pair_start (pair_plan plan pair)) log) + how_often n (taken now change)
      more taken = ap (how_often n) (taken-last taken plan pair (pair_start (pair_plan plan pair)) log made) ∙ often-append n (taken_from taken plan pair (pair_start (pair_plan plan pair)) log) (taken now change)

  -- as many writes as labels are in flight
  as_many : (steps : List Step) → length (at_side (pair_writes plan (log_of plan memories steps) pair).sides side).flight ≡ length (flying_after plan pair side (log_of plan memories steps)).flight
  as_many steps =
      sym (length-map (at_side (pair_writes plan (log_of plan memories steps) pair).sides side).flight (λ (w : FlyingWrite). slice_get (all_after plan pair side (log_of plan memories steps)).flight w.number))
      ∙ ap length (run_in_step plan pair side memories steps).in_step.own.numbers
      ∙ length-map (flying_after plan pair side (log_of plan memories steps)).flight Some

  counted : (steps : List Step) → Counted (log_of plan memories steps)
  counted steps = each_longer (λ done. Counted (log_of plan memories done)) counted_fresh next steps
    where
      next : (done : List Step) (step : Step) → Counted (log_of plan memories done) → Counted (log_of plan memories (done ++ step ∷ []))
      next done step now =
          subst Counted (sym (log_of-last plan memories done step))
          (counted_more (log_of plan memories done) (made_next plan pair side memories done step)
          (change_inside plan pair side (pair_writes plan (log_of plan memories done) pair) (flying_after plan pair side (log_of plan memories done)).flight (as_many done)
          (made_next plan pair side memories done step) (next_lands plan pair side memories done step)) now)

-- Each write that was posted landed, was dropped, or is in flight, exactly once.
pub each_number_stands_once : EachNumberStandsOnce
each_number_stands_once plan memories steps pair side n =
    often-append n landed (dropped ++ flying) ∙ ap (λ rest. how_often n landed + rest) (often-append n dropped flying)
    ∙ counted plan memories pair side n steps ∙ ap (below n) (run_in_step plan pair side memories steps).in_step.own.posted
  where
    log : List Answered
    log = log_of plan memories steps

    landed : List ℕ
    landed = landed_numbers plan log pair side

    dropped : List ℕ
    dropped = dropped_numbers plan log pair side

    flying : List ℕ
    flying = numbers_in (at_side (pair_writes plan log pair).sides side).flight
