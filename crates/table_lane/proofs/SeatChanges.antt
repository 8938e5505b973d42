-- One seat changes its part: the parts of all seats after it, and what the table then shows.
use Rattle.std.proofs.Common.{◌≡◌, ℕ, ◌≤◌, List, set, get_or, refl, sym, subst, ◌∙◌, ◌∷◌, ap}
use Rattle.std.proofs.lemmas.List.{set-get_or}
use mathlib.Core.Option.{some}
use lib.ListN.{get_elem?}
use Rattle.atomic_table.specs.Table.{Act, Allows, Valid, stepped, carried_after, rest, keeps, gives}
use Rattle.table_lane.specs.LaneNames.{Lane}
use Rattle.table_lane.specs.Views.{SendPart, MovePart, RecvPart, BackPart, CutPart, LaneView, the_send, the_move, the_recv, the_back, the_cut, HasSend, HasMove, HasRecv, HasBack, HasCut, with_send, with_move, with_recv, with_back, with_cut}
use Rattle.table_lane.specs.Words.{Words}
use Rattle.table_lane.specs.Borders.{Slots}
use Rattle.table_lane.specs.Moment.{Moment, EachHasOneSeat, EachKnows, ShowsLane}
use Rattle.table_lane.specs.Rule.{Content, Board, Sitter, IsMoment, ShowsALane}
use Rattle.table_lane.proofs.Order.{in_order}
use Rattle.table_lane.proofs.Seats.{part_stays, part_changes}
use Rattle.table_lane.proofs.WordLists.{Stores}

-- A seat that has this part sits at the table, which has two positions at least. The moment with that part is shown,
-- and each part still has one seat once another is put in its place.
pub record Sits (P : Type 0) (N : ℕ) (board : Board) (id : ℕ) (moment : P → Moment) (view : P → LaneView) (part : P) : Type 0 where
  pub two : 2 ≤ N
  pub now : IsMoment N (moment part) board
  pub seats : (p : P) → EachHasOneSeat (set board.views id (view p)) (moment p).send (moment p).mover (moment p).recv (moment p).back (moment p).cut

-- each part knows the number of entries
abbrev pub AllKnow : ℕ → Moment → Type 0
AllKnow N m = EachKnows N m.send.entries m.mover.entries m.recv.entries m.back.entries m.cut.entries

-- after a load, or a store, the table shows a lane with what the seat then knows
pub load_shows : {P : Type 0} {N : ℕ} {board : Board} {id : ℕ} {moment : P → Moment} {view : P → LaneView} {part : P} {lane : Lane} {homes : Slots} (after : P) (i : ℕ) → Sits P N board id moment view part → AllKnow N (moment after)
    → ShowsLane N (record (moment after) { words = (moment part).words; lane = lane }) homes → ShowsALane N (record { words = set board.words i (get_or board.words i 0); homes = homes; views = set board.views id (view after) })
load_shows after i seat knows shows = (_, record { words = set-get_or _ i 0 ∙ seat.now.words; sized = seat.now.sized; seats = seat.seats after; knows = knows; shows = shows })

-- A table shows a lane after a store by a seat if the moment with the new words and the seat's new part does.
pub store_shows : {P : Type 0} {N : ℕ} {board : Board} {id : ℕ} {moment : P → Moment} {view : P → LaneView} {part : P} {i j x y : ℕ} {words : Words} {lane : Lane} {homes : Slots} (after : P) → Sits P N board id moment view part → i ≡ j → x ≡ y
    → Stores N (moment part).words j y words → AllKnow N (moment after) → ShowsLane N (record (moment after) { words = words; lane = lane }) homes
    → ShowsALane N (record { words = set board.words i x; homes = homes; views = set board.views id (view after) })
store_shows after seat at is stores knows shows = (_, record { words = (λ k. set (seat.now.words k) (at k) (is k)) ∙ stores.words; sized = stores.sized; seats = seat.seats after; knows = knows; shows = shows })

-- a load after which the seat knows more, and takes no slot
pub load_keeps : {P : Type 0} {N : ℕ} {board : Board} {id : ℕ} {moment : P → Moment} {view : P → LaneView} {part : P} {lane : Lane} (tells : Sitter → Type 0) (hand : List (ℕ × Content)) (after : P) (i : ℕ) → Sits P N board id moment view part → AllKnow N (moment after)
    → ShowsLane N (record (moment after) { words = (moment part).words; lane = lane }) board.homes → tells (view after, hand)
    → (w : LaneView) × (act : Act Content) × Valid board.homes hand act × ShowsALane N (stepped board i (get_or board.words i 0) id hand w act) × tells (w, carried_after hand act)
load_keeps {view = view} tells hand after i seat knows shows told = (view after, keeps, tt, load_shows after i seat knows shows, told)

-- a store after which the seat has the slots that it had, and one after which the slot that it took last is at home
pub store_keeps : (N slots id : ℕ) (me : Sitter) (i x : ℕ) (view : LaneView) → ((board : Board) → ShowsALane N board → get_elem? board.views id ≡ some me.0 → ShowsALane N (record { words = set board.words i x; homes = board.homes; views = set board.views id view }))
    → Allows (ShowsALane N) slots id me i (λ _. x) (λ _ after. after ≡ (view, me.1))
store_keeps N slots id me i x view shows board h count at small = (view, keeps, tt, shows board h at, refl)

-- A store that sends home the slot which the seat took last is allowed, if the table shows a lane after it.
pub store_gives : (N slots id : ℕ) (me : Sitter) (i x slot place : ℕ) (content : Content) (others : List (ℕ × Content)) (view : List (ℕ × Content) → LaneView) → me.1 ≡ (slot, content) ∷ others → slot ≡ place
    → ((board : Board) → ShowsALane N board → get_elem? board.views id ≡ some me.0 → ShowsALane N (record { words = set board.words i x; homes = set board.homes place (some content); views = set board.views id (view ((place, content) ∷ others)) }))
    → Allows (ShowsALane N) slots id me i (λ _. x) (λ _ after. after ≡ (view me.1, rest me.1))
store_gives N slots id me i x slot place content others view hand here shows =
    subst (λ (held : List (ℕ × Content)). Allows (ShowsALane N) slots id (me.0, held) i (λ _. x) (λ _ after. after ≡ (view held, rest held))) (sym (hand ∙ ap (λ (k : ℕ). (k, content) ∷ others) here))
    (λ board h count at small. (view ((place, content) ∷ others), gives, tt, shows board h at, refl))

module _ (N : ℕ) (board : Board) (h : ShowsALane N board) (id : ℕ) (view : LaneView) (at : get_elem? board.views id ≡ some view) where
  abbrev m : Moment
  m = h.0

  abbrev views : List LaneView
  views = board.views

  abbrev before : EachHasOneSeat views m.send m.mover m.recv m.back m.cut
  before = h.1.seats

  -- a part that the seat has is the moment's
  sits : {P : Type 0} (moment : P → Moment) (view_with : P → LaneView) (part own : P) → part ≡ own → IsMoment N (moment own) board
      → ((p : P) → EachHasOneSeat (set views id (view_with p)) (moment p).send (moment p).mover (moment p).recv (moment p).back (moment p).cut) → Sits P N board id moment view_with part
  sits moment view_with part own same now seats = record { two = (in_order N m board.homes h.1.shows).two; now = subst (λ p. IsMoment N (moment p) board) (sym same) now; seats = seats }

  pub sender_sits : HasSend view → Sits SendPart N board id (λ p. record h.0 { send = p }) (with_send view) (the_send view)
  sender_sits has =
      let changed = part_changes (λ v. v.send) views id view (the_send view) m.send at has before.send in
      sits (λ p. record h.0 { send = p }) (with_send view) (the_send view) m.send changed.0 h.1 (λ p. record { send = changed.1 (with_send view p); mover = part_stays (λ v. v.mover) views id view (with_send view p) at refl ∙ before.mover; recv = part_stays (λ v. v.recv) views id view (with_send view p) at refl ∙ before.recv; back = part_stays (λ v. v.back) views id view (with_send view p) at refl ∙ before.back; cut = part_stays (λ v. v.cut) views id view (with_send view p) at refl ∙ before.cut })

  pub mover_sits : HasMove view → Sits MovePart N board id (λ p. record h.0 { mover = p }) (with_move view) (the_move view)
  mover_sits has =
      let changed = part_changes (λ v. v.mover) views id view (the_move view) m.mover at has before.mover in
      sits (λ p. record h.0 { mover = p }) (with_move view) (the_move view) m.mover changed.0 h.1 (λ p. record { send = part_stays (λ v. v.send) views id view (with_move view p) at refl ∙ before.send; mover = changed.1 (with_move view p); recv = part_stays (λ v. v.recv) views id view (with_move view p) at refl ∙ before.recv; back = part_stays (λ v. v.back) views id view (with_move view p) at refl ∙ before.back; cut = part_stays (λ v. v.cut) views id view (with_move view p) at refl ∙ before.cut })

  pub receiver_sits : HasRecv view → Sits RecvPart N board id (λ p. record h.0 { recv = p }) (with_recv view) (the_recv view)
  receiver_sits has =
      let changed = part_changes (λ v. v.recv) views id view (the_recv view) m.recv at has before.recv in
      sits (λ p. record h.0 { recv = p }) (with_recv view) (the_recv view) m.recv changed.0 h.1 (λ p. record { send = part_stays (λ v. v.send) views id view (with_recv view p) at refl ∙ before.send; mover = part_stays (λ v. v.mover) views id view (with_recv view p) at refl ∙ before.mover; recv = changed.1 (with_recv view p); back = part_stays (λ v. v.back) views id view (with_recv view p) at refl ∙ before.back; cut = part_stays (λ v. v.cut) views id view (with_recv view p) at refl ∙ before.cut })

  pub way_back_sits : HasBack view → Sits BackPart N board id (λ p. record h.0 { back = p }) (with_back view) (the_back view)
  way_back_sits has =
      let changed = part_changes (λ v. v.back) views id view (the_back view) m.back at has before.back in
      sits (λ p. record h.0 { back = p }) (with_back view) (the_back view) m.back changed.0 h.1 (λ p. record { send = part_stays (λ v. v.send) views id view (with_back view p) at refl ∙ before.send; mover = part_stays (λ v. v.mover) views id view (with_back view p) at refl ∙ before.mover; recv = part_stays (λ v. v.recv) views id view (with_back view p) at refl ∙ before.recv; back = changed.1 (with_back view p); cut = part_stays (λ v. v.cut) views id view (with_back view p) at refl ∙ before.cut })

  pub cutter_sits : HasCut view → Sits CutPart N board id (λ p. record h.0 { cut = p }) (with_cut view) (the_cut view)
  cutter_sits has =
      let changed = part_changes (λ v. v.cut) views id view (the_cut view) m.cut at has before.cut in
      sits (λ p. record h.0 { cut = p }) (with_cut view) (the_cut view) m.cut changed.0 h.1 (λ p. record { send = part_stays (λ v. v.send) views id view (with_cut view p) at refl ∙ before.send; mover = part_stays (λ v. v.mover) views id view (with_cut view p) at refl ∙ before.mover; recv = part_stays (λ v. v.recv) views id view (with_cut view p) at refl ∙ before.recv; back = part_stays (λ v. v.back) views id view (with_cut view p) at refl ∙ before.back; cut = changed.1 (with_cut view p) })
