-- In each log a read has pushed the writes before it.
use Rattle.std.proofs.Common.{◌≡◌, ℕ, Bool, true, false, Option, Some, None, List, [], ◌∷◌, ◌++◌, take, slice_get, slice_index_or, option_map, refl, sym, ap, subst, ◌∙◌, append_assoc, append-nil, All, Contains}
use Rattle.std.proofs.lemmas.Bool.{false≢true}
use Rattle.std.proofs.lemmas.List.Elements.{All-contains_itself}
use Rattle.std.proofs.lemmas.Option.{slice_get-map}
use Rattle.host_memory.specs.Memory.{bytes_at}
use Rattle.step_kinds.specs.Sides.{other_side}
use Rattle.step_kinds.specs.declared.names.Side.{Side}
use Rattle.step_kinds.specs.declared.names.Side.TheVariants.{A, B}
use Rattle.pair_model.specs.Both.{at_side}
use Rattle.read_path.specs.InFlight.{PathFlying, Write, Request, Part, Last, may_pass_all, lands_after}
use Rattle.read_path.specs.Path.{PathState, fresh_path, path_answer_for, landing_of, path_land_answer}
use Rattle.read_path.specs.PathLog.{PathEntry, path_answer_to, path_after_step, path_log_from, path_log_of}
use Rattle.read_path.specs.Pushed.{Sent, told_of, path_posted_in, landed_in, memory_in, data_entry, HasPushed, Pushed}
use Rattle.read_path.specs.declared.steps.PathStep.{PathStep}
use Rattle.read_path.specs.declared.steps.PathAnswer.{PathAnswer}
use Rattle.read_path.specs.declared.steps.PathAnswer.TheVariants.{Wrote, Asked, Landed, Shown, Linked}
use Rattle.read_path.specs.declared.steps.PathLand.{PathLand}
use Rattle.read_path.specs.declared.steps.PathLand.TheVariants.{Nothing, Blocked, Write as LandedWrite, Request as LandedRequest, Part as LandedPart, Whole}
use Rattle.read_path.proofs.Holds.{Holds, LastFact}
use Rattle.read_path.proofs.SidesHold.{fact_there, landed_before, last_waits}
use Rattle.read_path.proofs.StepsHold.{after_one, at_start}

-- What an answer says

abbrev is_whole : PathLand → Bool
is_whole Nothing = false
is_whole Blocked = false
is_whole (LandedWrite at len) = false
is_whole (LandedRequest number) = false
is_whole (LandedPart number part) = false
is_whole (Whole number bytes) = true

abbrev whole_number : PathLand → ℕ
whole_number Nothing = 0
whole_number Blocked = 0
whole_number (LandedWrite at len) = 0
whole_number (LandedRequest number) = 0
whole_number (LandedPart number part) = 0
whole_number (Whole number bytes) = number

abbrev whole_bytes : PathLand → List ℕ
whole_bytes Nothing = []
whole_bytes Blocked = []
whole_bytes (LandedWrite at len) = []
whole_bytes (LandedRequest number) = []
whole_bytes (LandedPart number part) = []
whole_bytes (Whole number bytes) = bytes

abbrev landing_in : PathAnswer → PathLand
landing_in (Wrote answer) = Nothing
landing_in (Asked answer) = Nothing
landing_in (Landed answer) = answer
landing_in (Shown bytes) = Nothing
landing_in (Linked refusal) = Nothing

-- the last completion that a `data` comes of
record IsLast (log : List PathEntry) (path : PathState) (peer : Side) (place number : ℕ) (bytes : List ℕ) : Type 0 where
  p : ℕ
  there : slice_get (at_side (told_of log).sides peer).flight place ≡ Some (record { place = p; what = Last number bytes })
  passes : may_pass_all (Last number bytes) (take place (at_side path.sides peer).flight) ≡ true

last_there : (log : List PathEntry) (path : PathState) (peer : Side) (place number : ℕ) (bytes : List ℕ) → Holds log (told_of log) path → path_land_answer path peer place ≡ Whole number bytes → IsLast log path peer place number bytes
last_there log path peer place number bytes holds is =
    by_sent (slice_get flight place) refl
    (ap (λ (flying : Option PathFlying). path_answer_for flying (lands_after flying (take place state))) (sym (slice_get-map (λ (sent : Sent). sent.what) flight place) ∙ ap (λ (l : List PathFlying). slice_get l place) (holds.sides peer).flight) ∙ is)
  where
    flight : List Sent
    flight = (at_side (told_of log).sides peer).flight

    state : List PathFlying
    state = (at_side path.sides peer).flight

    by_what : (p : ℕ) (what : PathFlying) → slice_get flight place ≡ Some (record { place = p; what = what }) → may_pass_all what (take place state) ≡ true → landing_of what ≡ Whole number bytes → IsLast log path peer place number bytes
    by_what p (Write at other relaxed) there passes is = absurd (false≢true (ap is_whole is))
    by_what p (Request other at len) there passes is = absurd (false≢true (ap is_whole is))
    by_what p (Part other part) there passes is = absurd (false≢true (ap is_whole is))
    by_what p (Last other others) there passes is =
        let same : Last other others ≡ Last number bytes = ap (λ (n : ℕ). Last n others) (ap whole_number is) ∙ ap (λ (l : List ℕ). Last number l) (ap whole_bytes is) in
        record {
          p = p;
          there = there ∙ ap (λ (what : PathFlying). Some (record { place = p; what = what })) same;
          passes = subst (λ (what : PathFlying). may_pass_all what (take place state) ≡ true) same passes;
        }

    where_it_may : (sent : Sent) → slice_get flight place ≡ Some sent → (lands : Bool) → may_pass_all sent.what (take place state) ≡ lands → path_answer_for (Some sent.what) lands ≡ Whole number bytes → IsLast log path peer place number bytes
    where_it_may sent there false passes is = absurd (false≢true (ap is_whole is))
    where_it_may sent there true passes is = by_what sent.place sent.what there passes is

    by_sent : (sent : Option Sent) → slice_get flight place ≡ sent → path_answer_for (option_map (λ (x : Sent). x.what) sent) (lands_after (option_map (λ (x : Sent). x.what) sent) (take place state)) ≡ Whole number bytes
        → IsLast log path peer place number bytes
    by_sent None there is = absurd (false≢true (ap is_whole is))
    by_sent (Some sent) there is = where_it_may sent there (may_pass_all sent.what (take place state)) refl is

-- all that are in one list are in another
all_among : (xs ys : List ℕ) → ((w : ℕ) → Contains xs w → Contains ys w) → All (Contains ys) xs
all_among xs ys each = λ k d within. each (slice_index_or xs k d) (All-contains_itself xs k d within)

-- where a read's data come, the read has pushed
last_pushed : (log : List PathEntry) (path : PathState) (reader peer : Side) (place number : ℕ) (bytes : List ℕ) → Holds log (told_of log) path → IsLast log path peer place number bytes
    → other_side peer ≡ reader → other_side reader ≡ peer → HasPushed log reader number bytes
last_pushed log path reader peer place number bytes holds last others peers = record {
  asking = fact.asking;
  at = fact.at;
  len = fact.len;
  landing = fact.landing;
  place = fact.place;
  between = fact.between;
  since = fact.since;
  landing_is = fact.landing_is;
  before_is = fact.log_is;
  one_session = fact.session;
  own_writes = all_among (path_posted_in fact.asking reader) (landed_in fact.landing) fact.own_writes;
  peer_writes =
      subst (λ (side : Side). All (Contains (landed_in log)) (path_posted_in fact.landing side)) (sym peers)
      (all_among (path_posted_in fact.landing peer) (landed_in log)
      (λ w posted.
      landed_before (landed_in log) (Last number bytes) (at_side (told_of log).sides peer).flight (at_side path.sides peer).flight place w (last_waits number bytes) (holds.sides peer).flight last.passes
      (fact.pushes w posted)));
  held = subst (λ (side : Side). bytes ≡ bytes_at fact.at fact.len (memory_in fact.landing side)) (sym peers) fact.held;
} where
  fact : LastFact log (told_of log).dropped (landed_in log) reader peer (take place (at_side (told_of log).sides peer).flight) number bytes
  fact =
      subst (λ (side : Side). LastFact log (told_of log).dropped (landed_in log) side peer (take place (at_side (told_of log).sides peer).flight) number bytes) others
      (fact_there log (told_of log).dropped (told_of log).landed peer (at_side (told_of log).sides peer) (at_side path.sides peer) place (record { place = last.p; what = Last number bytes }) last.there (holds.sides peer))

-- a log that ends with a read's data
data_pushed : (log : List PathEntry) (path : PathState) (step : PathStep) (side : Side) (place number : ℕ) (bytes : List ℕ) → Holds log (told_of log) path
    → record { step = step; answer = path_answer_to path step } ≡ data_entry side place number bytes → HasPushed log side number bytes
data_pushed log path step side place number bytes holds is =
    last_pushed log path side (other_side side) place number bytes holds
    (last_there log path (other_side side) place number bytes holds (ap (λ (s : PathStep). landing_in (path_answer_to path s)) (sym (ap (λ (e : PathEntry). e.step) is)) ∙ ap (λ (e : PathEntry). landing_in e.answer) is))
    (twice side) refl
  where
    twice : (side : Side) → other_side (other_side side) ≡ side
    twice A = refl
    twice B = refl

-- the rest of a log
abbrev head_or : PathEntry → List PathEntry → PathEntry
head_or e [] = e
head_or e (x ∷ xs) = x

abbrev rest_of : List PathEntry → List PathEntry
rest_of [] = []
rest_of (x ∷ xs) = xs

abbrev is_empty : List PathEntry → Bool
is_empty [] = true
is_empty (x ∷ xs) = false

from_here : (steps : List PathStep) (log : List PathEntry) (path : PathState) → Holds log (told_of log) path
    → (before after : List PathEntry) (side : Side) (place number : ℕ) (bytes : List ℕ) → path_log_from path steps ≡ before ++ data_entry side place number bytes ∷ after
    → HasPushed (log ++ before) side number bytes
from_here [] log path holds [] after side place number bytes is = absurd (false≢true (sym (ap is_empty is)))
from_here [] log path holds (e ∷ before) after side place number bytes is = absurd (false≢true (sym (ap is_empty is)))
from_here (step ∷ steps) log path holds [] after side place number bytes is =
    subst (λ (l : List PathEntry). HasPushed l side number bytes) (sym (append-nil log))
    (data_pushed log path step side place number bytes holds (ap (λ (l : List PathEntry). head_or (data_entry side place number bytes) l) is))
from_here (step ∷ steps) log path holds (e ∷ before) after side place number bytes is =
    let made : PathEntry = record { step = step; answer = path_answer_to path step } in
    let first : made ≡ e = ap (λ (l : List PathEntry). head_or e l) is in
    subst (λ (l : List PathEntry). HasPushed l side number bytes)
    (append_assoc log (made ∷ []) before ∙ ap (λ (x : PathEntry). log ++ x ∷ before) first)
    (from_here steps (log ++ made ∷ []) (path_after_step path step) (after_one log path step holds) before after side place number bytes (ap rest_of is))

-- In the log of any steps each read has pushed: the posted writes before it landed before its data came.
pub each_read_has_pushed : (steps : List PathStep) → Pushed (path_log_of steps)
each_read_has_pushed steps before after side place number bytes is = from_here steps [] fresh_path at_start before after side place number bytes is
