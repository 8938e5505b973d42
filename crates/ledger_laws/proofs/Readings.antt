-- What is read of a log is what is read of its part on bridges: what a switch does alone tells nothing of pairs.
use Rattle.std.proofs.Common.{◌≡◌, ℕ, ◌+◌, ◌-◌, ◌==◌, Bool, true, false, List, [], ◌∷◌, ◌++◌, map, length, refl, sym, ap, ◌∙◌, subst, zero-add}
use Rattle.std.specs.Prelude.{count_by, not, sum, sum_by, if◌then◌else◌}
use Rattle.std.specs.List.{flat_map}
use Rattle.std.proofs.lemmas.Bool.{false≢true}
use Rattle.std.proofs.lemmas.List.{append-nil}
use Rattle.std.proofs.lemmas.List.Elements.{filter-append}
use Rattle.std.proofs.lemmas.List.Sums.{sum_by-cons}
use Rattle.step_kinds.specs.declared.names.LaneName.{LaneName}
use Rattle.step_kinds.specs.declared.names.Side.{Side}
use Rattle.step_kinds.specs.declared.plan.Counters.{Counters}
use Rattle.step_kinds.specs.declared.plan.Plan.{Plan}
use Rattle.step_kinds.specs.declared.steps.Answer.{Answer}
use Rattle.step_kinds.specs.declared.steps.Step.{Step}
use Rattle.step_kinds.specs.declared.steps.Step.TheVariants.{Relay, Xnext}
use Rattle.ledger_model.specs.Log.{Answered, Numbered, accepts, breaks, counters_in, delivers, device_accepts, device_delivers, device_refuses, first_session, gives_room, in_this_session, is_short, made_in, made_since, posts_write, room_in, takes_room, trains, up_after}
use Rattle.pair_model.specs.Plans.{pair_plan}
use Rattle.pair_model.specs.Sizes.{sizes_of}
use Rattle.ledger_model.specs.NetworkLog.{is_on_bridge, on_bridges}
use Rattle.ledger_model.specs.Paths.{deliveries, placed, placed_from}
use Rattle.ledger_laws.specs.NetworkLaws.{LogReadsAsBridges}

-- what a reading finds in what a switch does alone
pub record IsSilent {X : Type 0} (read : Answered → X) (nothing : X) : Type 0 where
  pub of_relay : (pair : ℕ) (side : Side) (queue switch port : ℕ) (answer : Answer) → read (record { step = Relay pair side queue switch port; answer = answer }) ≡ nothing
  pub of_xnext : (pair : ℕ) (side : Side) (queue dev : ℕ) (answer : Answer) → read (record { step = Xnext pair side queue dev; answer = answer }) ≡ nothing

silent : {X : Type 0} (read : Answered → X) (nothing : X) → IsSilent read nothing → (made : Answered) → is_on_bridge made ≡ false → read made ≡ nothing
silent {X} read nothing h made = go made.step made.answer
  where
    go : (step : Step) (answer : Answer) → is_on_bridge (record { step = step; answer = answer }) ≡ false → read (record { step = step; answer = answer }) ≡ nothing
    go (Relay pair side queue switch port) answer e = h.of_relay pair side queue switch port answer
    go (Xnext pair side queue dev) answer e = h.of_xnext pair side queue dev answer
    go step answer e = absurd (false≢true (sym e))

trains-silent : (k : ℕ) → IsSilent (trains k) false
trains-silent k = record { of_relay = λ pair side queue switch port answer. refl; of_xnext = λ pair side queue dev answer. refl }

-- one item, on a bridge or not
one_more : (made : Answered) (log : List Answered) → on_bridges (made ∷ log) ≡ (if is_on_bridge made then made ∷ on_bridges log else on_bridges log)
one_more made log = refl

-- what is found in a session
module _ {X : Type 0} (read : Answered → List X) (quiet : IsSilent read []) (k session : ℕ) where
  found_on_bridges : (now : ℕ) (log : List Answered) → flat_map read (made_in k session now log) ≡ flat_map read (made_in k session now (on_bridges log))
  found_on_bridges now [] = refl
  found_on_bridges now (made ∷ log) =
      by (is_on_bridge made) refl (found_on_bridges (if trains k made then now + 1 else now) log)
    where
      -- an item of the log before what is found later
      before : (b : Bool) (xs ys : List Answered) → flat_map read xs ≡ flat_map read ys → flat_map read (if b then made ∷ xs else xs) ≡ flat_map read (if b then made ∷ ys else ys)
      before true xs ys e = ap (λ rest. read made ++ rest) e
      before false xs ys e = e

      passed_over : (b : Bool) (xs : List Answered) → read made ≡ [] → flat_map read (if b then made ∷ xs else xs) ≡ flat_map read xs
      passed_over true xs e = ap (λ found. found ++ flat_map read xs) e
      passed_over false xs e = refl

      by : (on : Bool) → is_on_bridge made ≡ on
          → flat_map read (made_in k session (if trains k made then now + 1 else now) log) ≡ flat_map read (made_in k session (if trains k made then now + 1 else now) (on_bridges log))
          → flat_map read (made_in k session now (made ∷ log)) ≡ flat_map read (made_in k session now (if on then made ∷ on_bridges log else on_bridges log))
      by true e h = before (now == session) (made_in k session (if trains k made then now + 1 else now) log) (made_in k session (if trains k made then now + 1 else now) (on_bridges log)) h
      by false e h =
          passed_over (now == session) (made_in k session (if trains k made then now + 1 else now) log) (silent read [] quiet made e)
          ∙ subst (λ b. flat_map read (made_in k session (if b then now + 1 else now) log) ≡ flat_map read (made_in k session now (on_bridges log)))
          (sym (silent (trains k) false (trains-silent k) made e))
          (subst (λ b. flat_map read (made_in k session (if b then now + 1 else now) log) ≡ flat_map read (made_in k session (if b then now + 1 else now) (on_bridges log)))
          (silent (trains k) false (trains-silent k) made e) h)

-- what is found with its session
module _ (read : Answered → List Numbered) (quiet : IsSilent read []) (lane : LaneName) where
  pub placed_on_bridges : (now : ℕ) (log : List Answered) → placed_from read lane now log ≡ placed_from read lane now (on_bridges log)
  placed_on_bridges now [] = refl
  placed_on_bridges now (made ∷ log) = by (is_on_bridge made) refl (placed_on_bridges (if trains lane.pair made then now + 1 else now) log)
    where
      by : (on : Bool) → is_on_bridge made ≡ on
          → placed_from read lane (if trains lane.pair made then now + 1 else now) log ≡ placed_from read lane (if trains lane.pair made then now + 1 else now) (on_bridges log)
          → placed_from read lane now (made ∷ log) ≡ placed_from read lane now (if on then made ∷ on_bridges log else on_bridges log)
      by true e h = ap (λ rest. map (placed lane now) (read made) ++ rest) h
      by false e h =
          ap (λ found. map (placed lane now) found ++ placed_from read lane (if trains lane.pair made then now + 1 else now) log) (silent read [] quiet made e)
          ∙ subst (λ b. placed_from read lane (if b then now + 1 else now) log ≡ placed_from read lane now (on_bridges log)) (sym (silent (trains lane.pair) false (trains-silent lane.pair) made e))
          (subst (λ b. placed_from read lane (if b then now + 1 else now) log ≡ placed_from read lane (if b then now + 1 else now) (on_bridges log))
          (silent (trains lane.pair) false (trains-silent lane.pair) made e) h)

-- what is found in all sessions
module _ {X : Type 0} (read : Answered → List X) (quiet : IsSilent read []) where
  all_on_bridges : (log : List Answered) → flat_map read log ≡ flat_map read (on_bridges log)
  all_on_bridges [] = refl
  all_on_bridges (made ∷ log) = by (is_on_bridge made) refl (all_on_bridges log)
    where
      by : (on : Bool) → is_on_bridge made ≡ on → flat_map read log ≡ flat_map read (on_bridges log)
          → read made ++ flat_map read log ≡ flat_map read (if on then made ∷ on_bridges log else on_bridges log)
      by true e h = ap (λ rest. read made ++ rest) h
      by false e h = ap (λ found. found ++ flat_map read log) (silent read [] quiet made e) ∙ h

-- sums and counts
module _ (value : Answered → ℕ) (quiet : IsSilent value 0) where
  sum_on_bridges : (log : List Answered) → sum_by value log ≡ sum_by value (on_bridges log)
  sum_on_bridges [] = refl
  sum_on_bridges (made ∷ log) = by (is_on_bridge made) refl (sum_on_bridges log)
    where
      by : (on : Bool) → is_on_bridge made ≡ on → sum_by value log ≡ sum_by value (on_bridges log)
          → sum_by value (made ∷ log) ≡ sum_by value (if on then made ∷ on_bridges log else on_bridges log)
      by true e h = sum_by-cons value made log ∙ ap (λ n. value made + n) h ∙ sym (sum_by-cons value made (on_bridges log))
      by false e h = let none = silent value 0 quiet made e in sum_by-cons value made log ∙ ap (λ n. n + sum_by value log) none ∙ zero-add (sum_by value log) ∙ h

-- A test that what a switch does alone never passes counts the same in a log as in its part on bridges.
pub count_on_bridges : (test : Answered → Bool) → IsSilent test false → (log : List Answered) → count_by test log ≡ count_by test (on_bridges log)
count_on_bridges test quiet log = sum_on_bridges (λ made. if test made then 1 else 0) (record {
  of_relay = λ pair side queue switch port answer. ap (λ b. if b then 1 else 0) (quiet.of_relay pair side queue switch port answer);
  of_xnext = λ pair side queue dev answer. ap (λ b. if b then 1 else 0) (quiet.of_xnext pair side queue dev answer);
}) log

-- the link
up_on_bridges : (k : ℕ) (now : Bool) (log : List Answered) → up_after k now log ≡ up_after k now (on_bridges log)
up_on_bridges k now [] = refl
up_on_bridges k now (made ∷ log) = by (is_on_bridge made) refl (up_on_bridges k (if trains k made then true else if breaks k made then false else now) log)
  where
    breaks-silent : IsSilent (breaks k) false
    breaks-silent = record { of_relay = λ pair side queue switch port answer. refl; of_xnext = λ pair side queue dev answer. refl }

    by : (on : Bool) → is_on_bridge made ≡ on
        → up_after k (if trains k made then true else if breaks k made then false else now) log ≡ up_after k (if trains k made then true else if breaks k made then false else now) (on_bridges log)
        → up_after k (if trains k made then true else if breaks k made then false else now) log ≡ up_after k now (if on then made ∷ on_bridges log else on_bridges log)
    by true e h = h
    by false e h =
        let quiet : (if trains k made then true else if breaks k made then false else now) ≡ now =
        ap (λ b. if b then true else if breaks k made then false else now) (silent (trains k) false (trains-silent k) made e)
        ∙ ap (λ b. if b then false else now) (silent (breaks k) false breaks-silent made e) in
        h ∙ ap (λ up. up_after k up (on_bridges log)) quiet

-- what was made since the session began
since_on_bridges : (k : ℕ) (kept log : List Answered) → on_bridges (made_since k kept log) ≡ made_since k (on_bridges kept) (on_bridges log)
since_on_bridges k kept [] = refl
since_on_bridges k kept (made ∷ log) = since_on_bridges k (if trains k made then [] else kept ++ made ∷ []) log ∙ by (is_on_bridge made) refl
  where
    part : (b : Bool) → on_bridges (if b then [] else kept ++ made ∷ []) ≡ (if b then [] else on_bridges kept ++ on_bridges (made ∷ []))
    part true = refl
    part false = filter-append is_on_bridge kept (made ∷ [])

    by : (on : Bool) → is_on_bridge made ≡ on
        → made_since k (on_bridges (if trains k made then [] else kept ++ made ∷ [])) (on_bridges log) ≡ made_since k (on_bridges kept) (if on then made ∷ on_bridges log else on_bridges log)
    by true e =
        ap (λ xs. made_since k xs (on_bridges log)) (part (trains k made) ∙ ap (λ b. if trains k made then [] else on_bridges kept ++ (if b then made ∷ [] else [])) e)
    by false e =
        ap (λ xs. made_since k xs (on_bridges log))
        (part (trains k made) ∙ ap (λ b. if b then [] else on_bridges kept ++ on_bridges (made ∷ [])) (silent (trains k) false (trains-silent k) made e)
        ∙ ap (λ b. on_bridges kept ++ (if b then made ∷ [] else [])) e ∙ append-nil (on_bridges kept))

-- The frames delivered on a lane are the same in a log and in its part on bridges.
pub deliveries_on_bridges : (plan : Plan) (log : List Answered) (lane : LaneName) → deliveries plan log lane ≡ deliveries plan (on_bridges log) lane
deliveries_on_bridges plan log lane =
    placed_on_bridges (delivers lane) (record { of_relay = λ pair side queue switch port answer. refl; of_xnext = λ pair side queue dev answer. refl }) lane (first_session plan lane.pair) log

-- the values of items, added up
sum_map : (value : Answered → ℕ) (log : List Answered) → sum (map value log) ≡ sum_by value log
sum_map value [] = refl
sum_map value (made ∷ log) = sum_by-cons (λ n. n) (value made) (map value log) ∙ ap (λ n. value made + n) (sum_map value log) ∙ sym (sum_by-cons value made log)

same_sums : (value : Answered → ℕ) → IsSilent value 0 → (log : List Answered) → sum (map value log) ≡ sum (map value (on_bridges log))
same_sums value quiet log = sum_map value log ∙ sum_on_bridges value quiet log ∙ sym (sum_map value (on_bridges log))

same_room : (plan : Plan) (log : List Answered) (lane : LaneName) → room_in plan log lane ≡ room_in plan (on_bridges log) lane
same_room plan log lane =
    let now = in_this_session lane.pair log in
    let entries = (sizes_of (pair_plan plan lane.pair) lane.from lane.queue).entries - 1 in
    ap (λ n. entries + n - sum (map (takes_room plan lane) now))
    (count_on_bridges (gives_room lane) (record { of_relay = λ pair side queue switch port answer. refl; of_xnext = λ pair side queue dev answer. refl }) now)
    ∙ ap (λ n. entries + count_by (gives_room lane) (on_bridges now) - n)
    (same_sums (takes_room plan lane) (record { of_relay = λ pair side queue switch port answer. refl; of_xnext = λ pair side queue dev answer. refl }) now)
    ∙ ap (λ made. entries + count_by (gives_room lane) made - sum (map (takes_room plan lane) made)) (since_on_bridges lane.pair [] log)

abbrev counted : List (List ℕ) → ℕ → List (List ℕ) → Counters
counted sent refused found =
    record {
      tx = length sent;
      tx_bytes = sum_by length sent;
      refused = refused;
      rx = count_by (λ frame. not (is_short frame)) found;
      rx_bytes = sum_by (λ frame. if is_short frame then 0 else length frame) found;
      short = count_by is_short found;
    }

same_counters : (plan : Plan) (log : List Answered) (own : LaneName) → counters_in plan log own ≡ counters_in plan (on_bridges log) own
same_counters plan log own =
    let sent = all_on_bridges (device_accepts plan own) (record { of_relay = λ pair side queue switch port answer. refl; of_xnext = λ pair side queue dev answer. refl }) log in
    let found = all_on_bridges (device_delivers own) (record { of_relay = λ pair side queue switch port answer. refl; of_xnext = λ pair side queue dev answer. refl }) log in
    let refused = count_on_bridges (device_refuses own) (record { of_relay = λ pair side queue switch port answer. refl; of_xnext = λ pair side queue dev answer. refl }) log in
    ap (λ frames. counted frames (count_by (device_refuses own) log) (flat_map (device_delivers own) log)) sent
    ∙ ap (λ n. counted (flat_map (device_accepts plan own) (on_bridges log)) n (flat_map (device_delivers own) log)) refused
    ∙ ap (counted (flat_map (device_accepts plan own) (on_bridges log)) (count_by (device_refuses own) (on_bridges log))) found

-- Of pairs, lanes and devices a log tells what its part on bridges tells: what switches do alone adds nothing.
pub log_reads_as_bridges : LogReadsAsBridges
log_reads_as_bridges plan log = record {
  same_accepted = λ lane session.
      found_on_bridges (accepts plan lane) (record { of_relay = λ pair side queue switch port answer. refl; of_xnext = λ pair side queue dev answer. refl }) lane.pair session (first_session plan lane.pair) log;
  same_delivered = λ lane session.
      found_on_bridges (delivers lane) (record { of_relay = λ pair side queue switch port answer. refl; of_xnext = λ pair side queue dev answer. refl }) lane.pair session (first_session plan lane.pair) log;
  same_sessions = λ pair. count_on_bridges (trains pair) (trains-silent pair) log;
  same_up = λ pair. up_on_bridges pair (pair_plan plan pair).up log;
  same_room = same_room plan log;
  same_posted = λ lane.
      all_on_bridges (posts_write lane) (record { of_relay = λ pair side queue switch port answer. refl; of_xnext = λ pair side queue dev answer. refl }) (in_this_session lane.pair log)
      ∙ ap (flat_map (posts_write lane)) (since_on_bridges lane.pair [] log);
  same_counters = same_counters plan log;
}
