-- Lists of writes in flight: what is posted, what lands, and how the writes of one kind stand among all. On a link that
-- is down nothing is in flight.
use Rattle.std.proofs.Common.{◌≡◌, ℕ, zero, suc, ◌+◌, ◌==◌, ◌||◌, Bool, true, false, not, Option, Some, None, List, [], ◌∷◌, ◌++◌, map, take, drop, refl, sym, ap, ◌∙◌, subst, arith}
use Rattle.std.specs.Prelude.{if◌then◌else◌, slice_get, count_by, remove}
use Rattle.std.specs.List.{filter_map, cons_option, list_all}
use Rattle.std.proofs.lemmas.Bool.{false≢true, and_parts, eq-eqb, cond-true, cond-false}
use Rattle.std.proofs.lemmas.List.{append-nil}
use Rattle.std.proofs.lemmas.List.Elements.{filter_map-append}
use Rattle.std.proofs.lemmas.List.Sums.{sum_by-append}
use Rattle.std.proofs.lemmas.Option.{none-some, same_Some}
use Rattle.step_kinds.specs.declared.names.LaneName.{LaneName}
use Rattle.step_kinds.specs.declared.plan.Plan.{Plan}
use Rattle.step_kinds.specs.declared.steps.Label.{Label}
use Rattle.step_kinds.specs.Bits.{with_bit}
use Rattle.lane_model.specs.declared.Phase.TheVariants.{Idle}
use Rattle.pair_model.specs.Link.{is_up, is_down}
use Rattle.ledger_model.specs.Log.{Answered}
use Rattle.pair_model.specs.declared.LinkState.{LinkState}
use Rattle.order_rules.specs.Order.{lands_behind, passes, relaxed, strict}
use Rattle.pair_model.specs.Orders.{kind_of, order_of}
use Rattle.ledger_laws.proofs.Labels.{ReadsOneClass}
use Rattle.step_kinds.specs.declared.names.Side.{Side}
use Rattle.step_kinds.specs.declared.plan.PairPlan.{PairPlan}
use Rattle.ledger_laws.proofs.AtStart.{down-not_up}
use Rattle.ledger_laws.proofs.walk.Sight.{Sight, Role, Sender, Receiver, end_at, flight_with, posted, with_number, ReadyQueues, OffersMade}
use Rattle.ledger_laws.proofs.walk.News.{News}
use Rattle.ledger_laws.proofs.walk.Turn.{MayLand, Turn, Trains, Breaks, Drops, Offers, Readies, Posts, PostsNext, picked, Says, LandsFlag, LandsField, LandsIndex, LandsBell, LandsPad, LandsAside, Acks, taken}

-- a count with one more at the end
pub count_by-last : {X : Type 0} (p : X → Bool) (xs : List X) (x : X) → count_by p (xs ++ x ∷ []) ≡ count_by p xs + (if p x then 1 else 0)
count_by-last p xs x = sum_by-append (λ y. if p y then 1 else 0) xs (x ∷ []) ∙ ap (λ n. count_by p xs + n) (omega arith)

-- What is read of a list, with one more at its end, or at its front, and without the one at a place

-- What is read of a list with one item more is what was read of it, and then what is read of that item.
pub filter_map-last : {X Y : Type 0} (read : X → Option Y) (xs : List X) (x : X) → filter_map read (xs ++ x ∷ []) ≡ filter_map read xs ++ cons_option (read x) []
filter_map-last read xs x = filter_map-append read xs (x ∷ [])

-- An item that reads as nothing, put at a list's end, leaves what is read of the list as it was.
pub push_none : {X Y : Type 0} (read : X → Option Y) (xs : List X) (x : X) → read x ≡ None → filter_map read (xs ++ x ∷ []) ≡ filter_map read xs
push_none read xs x e = filter_map-last read xs x ∙ ap (λ o. filter_map read xs ++ cons_option o []) e ∙ append-nil (filter_map read xs)

-- An item that reads as some value, put at a list's end, puts that value at the end of what is read.
pub push_some : {X Y : Type 0} (read : X → Option Y) (xs : List X) (x : X) (y : Y) → read x ≡ Some y → filter_map read (xs ++ x ∷ []) ≡ filter_map read xs ++ y ∷ []
push_some read xs x y e = filter_map-last read xs x ∙ ap (λ o. filter_map read xs ++ cons_option o []) e

-- If a list's first item reads as some value, that value is first in what is read of the list.
pub first_some : {X Y : Type 0} (read : X → Option Y) (x : X) (xs : List X) (y : Y) → read x ≡ Some y → filter_map read (x ∷ xs) ≡ y ∷ filter_map read xs
first_some read x xs y e = ap (λ o. cons_option o (filter_map read xs)) e

-- If a list's first item reads as nothing, what is read of the list is what is read of the others.
pub first_none : {X Y : Type 0} (read : X → Option Y) (x : X) (xs : List X) → read x ≡ None → filter_map read (x ∷ xs) ≡ filter_map read xs
first_none read x xs e = ap (λ o. cons_option o (filter_map read xs)) e

-- a list is what stands before a place, the item there, and what stands after it
pub split_whole : {X : Type 0} (xs : List X) (place : ℕ) (x : X) → slice_get xs place ≡ Some x → xs ≡ take place xs ++ x ∷ drop (suc place) xs
split_whole [] place x at = absurd (none-some x at)
split_whole (y ∷ ys) zero x at = ap (λ first. first ∷ ys) (same_Some y x at)
split_whole (y ∷ ys) (suc place) x at = ap (λ others. y ∷ others) (split_whole ys place x at)

-- If an item between two lists reads as some value, that value stands between what is read of the two.
pub middle_some : {X Y : Type 0} (read : X → Option Y) (before behind : List X) (x : X) (y : Y) → read x ≡ Some y
    → filter_map read (before ++ x ∷ behind) ≡ filter_map read before ++ y ∷ filter_map read behind
middle_some read before behind x y e = filter_map-append read before (x ∷ behind) ∙ ap (λ o. filter_map read before ++ cons_option o (filter_map read behind)) e

-- Removing an item that reads as nothing from a list leaves what is read of the list as it was.
pub filter_map-remove : {X Y : Type 0} (read : X → Option Y) (xs : List X) (place : ℕ) (x : X) → slice_get xs place ≡ Some x → read x ≡ None
    → filter_map read (remove xs place) ≡ filter_map read xs
filter_map-remove read [] place x e none = absurd (cc)
filter_map-remove read (y ∷ xs) zero x e none = ap (λ o. cons_option o (filter_map read xs)) (sym (ap read (same_Some y x e) ∙ none))
filter_map-remove read (y ∷ xs) (suc place) x e none = ap (λ rest. cons_option (read y) rest) (filter_map-remove read xs place x e none)

-- what is read of one that is there
pub some_read : {X Y : Type 0} (read : X → Option Y) (xs : List X) (place : ℕ) (x : X) (y : Y) → slice_get xs place ≡ Some x → read x ≡ Some y → filter_map read xs ≡ [] → ⊥
some_read read [] place x y at some none = absurd (cc)
some_read read (z ∷ xs) zero x y at some none = absurd (let e = sym (ap (λ o. cons_option o (filter_map read xs)) (ap read (same_Some z x at) ∙ some)) ∙ none in cc)
some_read {Y = Y} read (z ∷ xs) (suc place) x y at some none = some_read read xs place x y at some (rest (read z) none)
  where
    rest : (o : Option Y) → cons_option o (filter_map read xs) ≡ [] → filter_map read xs ≡ []
    rest None e = e
    rest (Some w) e = absurd (cc)

-- A strict write lands first of those of its class

-- The item at a place of a mapped list is the function's value of the item at that place.
pub get-map : {X Y : Type 0} (f : X → Y) (xs : List X) (place : ℕ) (x : X) → slice_get xs place ≡ Some x → slice_get (map f xs) place ≡ Some (f x)
get-map f [] place x e = absurd (none-some x e)
get-map f (y ∷ xs) zero x e = ap (λ z. Some (f z)) (same_Some y x e)
get-map f (y ∷ xs) (suc place) x e = get-map f xs place x e

module _ {Y : Type 0} (read : Label → Option Y) (own : PairPlan) (side : Side) (label : Label) (is : kind_of own.strict label ≡ strict)
    (one_class : ReadsOneClass read own side label) where
  -- it passes nothing that is read
  passed_unread : (other : Label) → passes (order_of own side label) (order_of own side other) ≡ true → read other ≡ None
  passed_unread other pass = go (read other) refl
    where
      go : (o : Option Y) → read other ≡ o → read other ≡ None
      go None e = e
      go (Some y) e =
          let here = (order_of own side label).class in
          let there = (order_of own side other).class in
          absurd (false≢true
          (sym (ap (λ k. (k == relaxed) || not (here == there)) is ∙ ap not (eq-eqb here there (sym (one_class other y e)))) ∙ pass))

  lands_from : (xs : List Label) (place : ℕ) → slice_get xs place ≡ Some label → list_all (passes (order_of own side label)) (take place (map (order_of own side) xs)) ≡ true
      → filter_map read xs ≡ cons_option (read label) (filter_map read (remove xs place))
  lands_from [] place at all = absurd (none-some label at)
  lands_from (x ∷ xs) zero at all = ap (λ first. cons_option (read first) (filter_map read xs)) (same_Some x label at)
  lands_from (x ∷ xs) (suc place) at all =
      let parts = and_parts (passes (order_of own side label) (order_of own side x)) (list_all (passes (order_of own side label)) (take place (map (order_of own side) xs))) all in
      let none = passed_unread x parts.0 in
      ap (λ o. cons_option o (filter_map read xs)) none ∙ lands_from xs place at parts.1
      ∙ ap (λ o. cons_option (read label) (cons_option o (filter_map read (remove xs place)))) (sym none)

  -- so what is read of it stands first
  pub lands_read : (s : Sight) (e : Role) (place : ℕ) → MayLand own side s e place label
      → filter_map read (end_at s e).flight ≡ cons_option (read label) (filter_map read (remove (end_at s e).flight place))
  lands_read s e place may =
      lands_from (end_at s e).flight place may.there
      (subst (λ found. lands_behind found (take place (map (order_of own side) (end_at s e).flight)) ≡ true) (get-map (order_of own side) (end_at s e).flight place label may.there) may.may)

  pub lands_first : (s : Sight) (e : Role) (place : ℕ) (y : Y) → MayLand own side s e place label → read label ≡ Some y
      → filter_map read (end_at s e).flight ≡ y ∷ filter_map read (remove (end_at s e).flight place)
  lands_first s e place y may some = lands_read s e place may ∙ ap (λ o. cons_option o (filter_map read (remove (end_at s e).flight place))) some

-- What an end posts and what lands, as far as it is read

-- A posted write that reads as nothing leaves what is read of a flight as it was.
pub posted_unread : {Y : Type 0} (read : Label → Option Y) (state : LinkState) (flight : List Label) (label : Label) → read label ≡ None
    → filter_map read (flight_with state flight label) ≡ filter_map read flight
posted_unread read state flight label none = go (is_up state)
  where
    go : (up : Bool) → filter_map read (if up then flight ++ label ∷ [] else flight) ≡ filter_map read flight
    go true = push_none read flight label none
    go false = refl

-- A posted write that reads as some value puts it at the end of what is read of a flight, if the link is up.
pub posted_read : {Y : Type 0} (read : Label → Option Y) (state : LinkState) (flight : List Label) (label : Label) (y : Y) → read label ≡ Some y
    → filter_map read (flight_with state flight label) ≡ (if is_up state then filter_map read flight ++ y ∷ [] else filter_map read flight)
posted_read {Y} read state flight label y some = go (is_up state)
  where
    go : (up : Bool) → filter_map read (if up then flight ++ label ∷ [] else flight) ≡ (if up then filter_map read flight ++ y ∷ [] else filter_map read flight)
    go true = push_some read flight label y some
    go false = refl

-- On a link that is up a posted write is put at the end of the flight.
pub posted_up : (state : LinkState) (flight : List Label) (label : Label) → is_up state ≡ true → flight_with state flight label ≡ flight ++ label ∷ []
posted_up state flight label up = cond-true (is_up state) (flight ++ label ∷ []) flight up

-- On a link that isn't up a posted write is lost and the flight stays as it was.
pub posted_lost : (state : LinkState) (flight : List Label) (label : Label) → is_up state ≡ false → flight_with state flight label ≡ flight
posted_lost state flight label down = cond-false (is_up state) (flight ++ label ∷ []) flight down

-- Nothing is in flight on a link that is down

abbrev pub EmptyOnceDown : LinkState → List Label → List Label → Type 0
EmptyOnceDown state out back = is_down state ≡ true → (out ≡ []) × (back ≡ [])

abbrev pub EmptyOf : Sight → Type 0
EmptyOf s = EmptyOnceDown s.state s.sender.flight s.receiver.flight

posted_empty : (e : Role) (label : Label) (s : Sight) → EmptyOf s → EmptyOf (posted e label s)
posted_empty Sender label s h down = (posted_lost s.state s.sender.flight label (down-not_up s.state down) ∙ (h down).0, (h down).1)
posted_empty Receiver label s h down = ((h down).0, posted_lost s.state s.receiver.flight label (down-not_up s.state down) ∙ (h down).1)

remove-none : (place : ℕ) → remove {X = Label} [] place ≡ []
remove-none zero = refl
remove-none (suc place) = refl

taken_empty : (e : Role) (place : ℕ) (s : Sight) → EmptyOf s → EmptyOf (taken e place s)
taken_empty Sender place s h down = (ap (λ flight. remove flight place) (h down).0 ∙ remove-none place, (h down).1)
taken_empty Receiver place s h down = ((h down).0, ap (λ flight. remove flight place) (h down).1 ∙ remove-none place)

-- Each turn keeps it so that on a link that is down nothing is in flight either way.
pub empty_kept : (plan : Plan) (lane : LaneName) (s : Sight) (made : Answered) (news : News) (t : Sight) → Turn plan lane s made news t → EmptyOf s → EmptyOf t
empty_kept plan lane s made news t (Trains may) h = λ down. absurd (false≢true down)
empty_kept plan lane s made news t (Breaks may) h = λ down. absurd (false≢true down)
empty_kept plan lane s made news t (Drops may) h = λ down. (refl, refl)
empty_kept plan lane s made news t (Offers e label may) h = posted_empty e label (with_number OffersMade e ((end_at s e).offered + 1) s) h
empty_kept plan lane s made news t (Readies e queue may) h = posted_empty e _ (with_number ReadyQueues e (with_bit (end_at s e).ready queue) s) h
empty_kept plan lane s made news t (Posts label rest may) h = posted_empty Sender label (record s { lane = record s.lane { todo = rest } }) h
empty_kept plan lane s made news t (PostsNext entry others label rest may) h = posted_empty Sender label (record s { lane = record (picked lane.queue s.lane entry others) { todo = rest } }) h
empty_kept plan lane s made news t (Says e label may) h = posted_empty e label s h
empty_kept plan lane s made news t (LandsFlag place label n may) h = taken_empty Sender place s h
empty_kept plan lane s made news t (LandsField place label n field may) h = taken_empty Sender place s h
empty_kept plan lane s made news t (LandsIndex place n may) h = taken_empty Receiver place s h
empty_kept plan lane s made news t (LandsBell e place queue may) h = taken_empty e place s h
empty_kept plan lane s made news t (LandsPad e place i value may) h = taken_empty e place s h
empty_kept plan lane s made news t (LandsAside e place label may) h = taken_empty e place s h
empty_kept plan lane s made news t (Acks may) h = posted_empty Receiver _ (record s { lane = record s.lane { acked = s.lane.acked + 1; phase = Idle } }) h
empty_kept plan lane s made news t turn h = h
