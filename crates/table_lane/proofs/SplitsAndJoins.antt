-- Seats that are cut in two and joined keep the rule, and so does the table at the start.
use Rattle.std.proofs.Common.{◌≡◌, ℕ, zero, suc, ◌+◌, ◌-◌, ◌%◌, ◌^◌, ◌<◌, ◌≤◌, false, List, [], ◌∷◌, ◌++◌, length, map, set, refl, sym, ap, ◌∙◌, inl, inr, arith, mod-lt, None, replicate}
use Rattle.std.proofs.lemmas.Bool.{le-ltb}
use Rattle.std.proofs.lemmas.List.{length-replicate, get_or-replicate}
use mathlib.Core.Option.{some, none}
use mathlib.Core.Option as home
use lib.ListN.{get_elem?}
use Rattle.atomic_table.specs.Table.{Splits, Joins, opening}
use Rattle.table_lane.specs.LaneNames.{Lane, Slot, new_lane, tail_of}
use Rattle.table_lane.specs.Words.{table_words_of, first_words}
use Rattle.table_lane.specs.Views.{LaneView, table_joined, no_parts, PartKind, OfMover, OfReceiver, OfWayBack, OfCut, without, alone, all_parts, new_send, new_move, new_recv, new_back, new_cut}
use Rattle.table_lane.specs.ShownLane.{borders_of}
use Rattle.table_lane.specs.Moment.{Moment, EachHasOneSeat, ShowsLane}
use Rattle.table_lane.specs.Rule.{Content, Board, IsMoment, ShowsALane}
use Rattle.table_lane.specs.Loads.{SplitsAreNoSteps, JoinsAreNoSteps}
use Rattle.table_lane.proofs.LaneLaws.{new_holds}
pub use Rattle.table_lane.proofs.WordLists.{first_lie}
use Rattle.table_lane.proofs.Headers.{no_headers}
use Rattle.table_lane.proofs.Seats.{GoesToOne, part_splits, part_joins}
use Rattle.table_lane.proofs.Slots.{slot_is}

-- the same moment, if seats have its parts otherwise
moment_stays : (N : ℕ) (board : Board) (m : Moment) (views : List LaneView) → IsMoment N m board → EachHasOneSeat views m.send m.mover m.recv m.back m.cut → IsMoment N m (record board { views = views })
moment_stays N board m views now seats = record { words = now.words; sized = now.sized; seats = seats; knows = now.knows; shows = now.shows }

-- a seat is cut into two, to one of which each of its parts goes
seats_split : (N id : ℕ) (view left right : LaneView) → GoesToOne (λ v. v.send) view left right → GoesToOne (λ v. v.mover) view left right → GoesToOne (λ v. v.recv) view left right → GoesToOne (λ v. v.back) view left right → GoesToOne (λ v. v.cut) view left right
    → (m : Moment) (board : Board) → IsMoment N m board → get_elem? board.views id ≡ some view → IsMoment N m (record board { views = set board.views id left ++ right ∷ [] })
seats_split N id view left right send mover recv back cut m board is at =
    moment_stays N board m _ is (
    record {
      send = part_splits (λ v. v.send) board.views id view left right m.send at is.seats.send send;
      mover = part_splits (λ v. v.mover) board.views id view left right m.mover at is.seats.mover mover;
      recv = part_splits (λ v. v.recv) board.views id view left right m.recv at is.seats.recv recv;
      back = part_splits (λ v. v.back) board.views id view left right m.back at is.seats.back back;
      cut = part_splits (λ v. v.cut) board.views id view left right m.cut at is.seats.cut cut;
    })

-- one of its parts goes to the new seat, and the others stay
pub splits_are_no_steps : SplitsAreNoSteps
splits_are_no_steps N m board id view OfMover = seats_split N id view (without OfMover view) (alone OfMover view) (inl (refl, refl)) (inr (refl, refl)) (inl (refl, refl)) (inl (refl, refl)) (inl (refl, refl)) m board
splits_are_no_steps N m board id view OfReceiver = seats_split N id view (without OfReceiver view) (alone OfReceiver view) (inl (refl, refl)) (inl (refl, refl)) (inr (refl, refl)) (inl (refl, refl)) (inl (refl, refl)) m board
splits_are_no_steps N m board id view OfWayBack = seats_split N id view (without OfWayBack view) (alone OfWayBack view) (inl (refl, refl)) (inl (refl, refl)) (inl (refl, refl)) (inr (refl, refl)) (inl (refl, refl)) m board
splits_are_no_steps N m board id view OfCut = seats_split N id view (without OfCut view) (alone OfCut view) (inl (refl, refl)) (inl (refl, refl)) (inl (refl, refl)) (inl (refl, refl)) (inr (refl, refl)) m board

-- The rule of a table allows a seat to be split, one of its parts going to a new seat alone.
pub splits_off : (part : PartKind) (N id : ℕ) (view : LaneView) → Splits (ShowsALane N) id view (without part view) (alone part view)
splits_off part N id view board h at = (h.0, splits_are_no_steps N h.0 board id view part h.1 at)

-- a seat takes in the parts of another
pub joins_are_no_steps : JoinsAreNoSteps
joins_are_no_steps N m board id other view second is apart at at_other =
    moment_stays N board m _ is (
    record {
      send = part_joins (λ v. v.send) board.views id other view second (table_joined view second) m.send at apart at_other refl refl is.seats.send;
      mover = part_joins (λ v. v.mover) board.views id other view second (table_joined view second) m.mover at apart at_other refl refl is.seats.mover;
      recv = part_joins (λ v. v.recv) board.views id other view second (table_joined view second) m.recv at apart at_other refl refl is.seats.recv;
      back = part_joins (λ v. v.back) board.views id other view second (table_joined view second) m.back at apart at_other refl refl is.seats.back;
      cut = part_joins (λ v. v.cut) board.views id other view second (table_joined view second) m.cut at apart at_other refl refl is.seats.cut;
    })

-- The rule of a table allows two seats to be joined, one having the parts of both and the other none.
pub seats_join : (N id : ℕ) (view : LaneView) (other : ℕ) (second : LaneView) → Joins (ShowsALane N) id view other second (table_joined view second) no_parts
seats_join N id view other second board h at apart at_other = (h.0, joins_are_no_steps N h.0 board id other view second h.1 apart at at_other)

map-replicate : {A B : Type 0} (f : A → B) (n : ℕ) (x : A) → map f (replicate n x) ≡ replicate n (f x)
map-replicate f zero x = refl
map-replicate f (suc n) x = ap (λ ys. f x ∷ ys) (map-replicate f n x)

at-home : (n k : ℕ) (x : Content) → k < n → get_elem? (map some (replicate n x)) k ≡ some (some x)
at-home zero k x below = absurd (omega arith)
at-home (suc n) zero x below = refl
at-home (suc n) (suc k) x below = at-home n k x (omega arith)

-- some payload of this length
some_payload : (n : ℕ) → (payload : List ℕ) × (length payload ≡ n)
some_payload n = (replicate n 0, length-replicate n 0)

abbrev new_slot : List ℕ → Slot
new_slot payload = record { payload = payload; left = 0; ver = 0; len = 0; flags = 0 }

abbrev lane_at_start : ℕ → List ℕ → Lane
lane_at_start N payload = new_lane N 65536 (replicate N (new_slot payload)) (tail_of N 0)

abbrev new_moment : ℕ → List ℕ → Moment
new_moment N payload = record { words = first_words N; lane = lane_at_start N payload; send = new_send N; mover = new_move N; recv = new_recv N; back = new_back N; cut = new_cut N }

new_shows : (N : ℕ) (payload : List ℕ) → 2 ≤ N → N ≤ 65535 → length payload ≡ 65536 → ShowsLane N (new_moment N payload) (map some (replicate N None))
new_shows N payload two small long = record {
  law = new_holds N 65536 (tail_of N 0) (new_slot payload) two long refl refl;
  of = record { entries = refl; largest = refl; up = refl; todo = refl; small = small };
  parts = record { entries = refl; whole = refl; flight = refl; copied = refl; stage = refl; given_back = refl };
  posted = record { newest = λ n below near. absurd (omega arith); never = λ position past below. get_or-replicate N position 0 0 below };
  headers = no_headers N (replicate N 0) (λ position below. get_or-replicate N position 0 0 below);
  ring = record {
    versions = map-replicate (λ (s : Slot). s.ver) N (new_slot payload) ∙ sym (map-replicate (λ (header : ℕ). header % 2 ^ 32) N 0);
    raised = map-replicate (λ (s : Slot). s.flags) N (new_slot payload);
  };
  index = record { outward = refl; homeward = refl; position = mod-lt (0 + N - 1) (omega arith); last_load = inl refl };
  link = refl;
  seen_cut = λ seen. absurd (omega arith);
  holding = record { frames = λ k below. absurd (omega arith); within = omega arith; marks = refl };
  receiving = record { prefix = refl; in_hand = refl };
  room = record { one_free = omega arith; counted = omega arith };
  places = record {
    count = length_homes N;
    at = λ n low high.
        at-home N (n % N) None (mod-lt n (omega arith))
        ∙ ap some (sym (slot_is (borders_of 0 0 0 0 0 0 false) [] n (le-ltb n 0 (omega arith)) (le-ltb n 0 (omega arith)) (le-ltb n 0 (omega arith)) (le-ltb n 0 (omega arith)) (le-ltb n 0 (omega arith)) (le-ltb n 0 (omega arith))));
  };
}
  where
    length_homes : (n : ℕ) → length (map {B = home.Option Content} some (replicate n None)) ≡ n
    length_homes zero = refl
    length_homes (suc n) = ap suc (length_homes n)

-- a new table shows a fresh lane
pub opens : (N : ℕ) → 2 ≤ N → N ≤ 65535 → ShowsALane N (opening (table_words_of (first_words N)) (replicate N None) (all_parts N))
opens N two small =
    let payload = some_payload 65536 in (
      new_moment N payload.0,
      record {
        words = refl;
        sized = record { posted = length-replicate N 0; headers = length-replicate N 0; flags = length-replicate N 0 };
        seats = record { send = refl; mover = refl; recv = refl; back = refl; cut = refl };
        knows = record { send = refl; mover = refl; recv = refl; back = refl; cut = refl };
        shows = new_shows N payload.0 two small payload.1;
      },
    )
