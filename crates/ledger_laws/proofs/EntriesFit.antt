-- Entries fit their ring: each has at most the bytes that a slot takes, and beside those begun or waiting one slot
-- stays free.
use Rattle.std.proofs.Common.{◌≡◌, ℕ, zero, suc, ◌+◌, ◌<◌, ◌≤◌, true, false, List, [], ◌∷◌, ◌++◌, length, map, drop, refl, sym, ap, ◌∙◌, subst, inl, inr, arith}
use Rattle.std.specs.Prelude.{◌≢◌, ◌*◌, slice_index_or, remove}
use Rattle.std.specs.List.{AllByRecursion}
use Rattle.std.proofs.lemmas.Bool.{both_ways, false≢true, cases_eq}
use Rattle.std.proofs.lemmas.List.{length-append, length-take, get_or_push, get_or_append_left}
use Rattle.step_kinds.specs.Bits.{has_bit, with_bit}
use Rattle.step_kinds.specs.declared.names.LaneName.{LaneName}
use Rattle.step_kinds.specs.declared.plan.Plan.{Plan}
use Rattle.step_kinds.specs.declared.plan.PairPlan.{PairPlan}
use Rattle.lane_model.specs.Lane.{Entry, Carries, GoesDown, bytes_of, count_from}
use Rattle.lane_model.specs.declared.Phase.{Phase}
use Rattle.ledger_model.specs.Ledger.{LanePart, begun_in, free_of}
use Rattle.ledger_model.specs.LinkSteps.{fresh_lane}
use Rattle.ledger_model.specs.Log.{Answered}
use Rattle.ledger_model.specs.Pieces.{piece_of, pieces_of}
use Rattle.ledger_model.specs.Receiving.{is_copying}
use Rattle.pair_model.specs.Link.{is_down}
use Rattle.pair_model.specs.Plans.{pair_plan}
use Rattle.pair_model.specs.Sizes.{Sizes, pieces_in}
use Rattle.pair_model.specs.declared.LinkState.{LinkState}
use Rattle.ledger_laws.specs.States.{AreWithin, EntriesFitTheRing}
use Rattle.ledger_laws.proofs.AgainWhereNoRoom.{room_runs}
use Rattle.ledger_laws.proofs.AtStart.{up-not_down, fresh-lane}
use Rattle.ledger_laws.proofs.BitSets.{has-with_same, has-without}
use Rattle.ledger_laws.proofs.Pieces.{length-pieces}
use Rattle.ledger_laws.proofs.RoomInLog.{RoomKnown, ChainOf, WaitsOf, TakesOf, waits_freed, index_first, room_kept}
use Rattle.ledger_laws.proofs.walk.Logs.{HoldsAlways, always_after}
use Rattle.ledger_laws.proofs.walk.News.{News}
use Rattle.ledger_laws.proofs.walk.Sight.{Sight, Sender, Receiver}
use Rattle.ledger_laws.proofs.walk.Turn.{Turn, Trains, Breaks, Drops, Forgets, Begins, Closes, PostsNext, Strays, Shuts, LandsIndex, Looks, CopiesEntry, CopiesLast, Clears, Acks, IsRaw, SizesOf}

-- Lists of entries

-- What holds of all items of a list, and of one more, holds of all of the list with that one at its end.
pub all_push : {X : Type 0} (P : X → Type 0) (xs : List X) (x : X) → AllByRecursion P xs → P x → AllByRecursion P (xs ++ x ∷ [])
all_push P [] x all last = (last, tt)
all_push P (y ∷ xs) x all last = (all.0, all_push P xs x all.1 last)

-- What holds of all items of a list holds of the item at each place below its length.
pub all_at : {X : Type 0} (P : X → Type 0) (xs : List X) (x : X) → AllByRecursion P xs → (n : ℕ) → n < length xs → P (slice_index_or xs n x)
all_at P [] x all n below = absurd (omega arith)
all_at P (y ∷ xs) x all zero below = all.0
all_at P (y ∷ xs) x all (suc n) below = all_at P xs x all.1 n (omega arith)

-- a piece of a frame that a slot takes
abbrev pub IsPieceWithin : ℕ → Entry → Type 0
IsPieceWithin largest entry = (entry ≢ GoesDown) × (length (bytes_of entry) ≤ largest)

abbrev pub IsWithin : ℕ → Entry → Type 0
IsWithin largest entry = length (bytes_of entry) ≤ largest

pieces_within : (largest : ℕ) (bytes : List ℕ) (from more : ℕ) → AllByRecursion (IsPieceWithin largest) (map (piece_of largest bytes) (count_from from more))
pieces_within largest bytes from zero = tt
pieces_within largest bytes from (suc more) =
    let e = length-take largest (drop (largest * from) bytes) in
    ((λ down. absurd (cc down), omega (arith, e)), pieces_within largest bytes (suc from) more)

-- Each piece that a frame is cut into has no more bytes than a slot takes, and is no link-down entry.
pub cut_within : (largest : ℕ) (bytes : List ℕ) (first : Entry) (others : List Entry) → pieces_of largest bytes ≡ first ∷ others → AllByRecursion (IsPieceWithin largest) (first ∷ others)
cut_within largest bytes first others cut = subst (AllByRecursion (IsPieceWithin largest)) cut (pieces_within largest bytes 0 (pieces_in largest (length bytes)))

-- no entry is a link-down entry
abbrev pub AreOpen : List Entry → Type 0
AreOpen sent = (n : ℕ) → n < length sent → slice_index_or sent n GoesDown ≢ GoesDown

open_push : (sent : List Entry) (entry : Entry) → entry ≢ GoesDown → AreOpen sent → AreOpen (sent ++ entry ∷ [])
open_push sent entry piece all n below = elim (cases_eq n (length sent)) [
  | inl last ↦ λ down. piece (sym (get_or_push sent entry GoesDown n (sym last)) ∙ down)
  | inr before ↦
      let more = length-append sent (entry ∷ []) in
      let old : n < length sent = omega arith in
      λ down. all n old (sym (get_or_append_left sent (entry ∷ []) GoesDown n old) ∙ down)
]

-- the entry at a place carries this many bytes
pub record IsUnderWay (sent : List Entry) (got len : ℕ) : Type 0 where
  pub bytes : List ℕ
  pub left : ℕ
  pub there : slice_index_or sent got GoesDown ≡ Carries bytes left
  pub size : length bytes ≡ len

under_way-push : (sent : List Entry) (entry : Entry) (got len : ℕ) → IsUnderWay sent got len → IsUnderWay (sent ++ entry ∷ []) got len
under_way-push sent entry got len h =
    let below : got < length sent = within sent got h.there in
    record { bytes = h.bytes; left = h.left; there = get_or_append_left sent (entry ∷ []) GoesDown got below ∙ h.there; size = h.size }
  where
    within : (xs : List Entry) (n : ℕ) {bytes : List ℕ} {left : ℕ} → slice_index_or xs n GoesDown ≡ Carries bytes left → n < length xs
    within [] n e = absurd (cc e)
    within (x ∷ xs) zero e = omega arith
    within (x ∷ xs) (suc n) e = let less = within xs n e in omega arith

-- What holds of a lane's entries

-- No entry is a link-down entry while the link isn't down and the queue is open, or where a piece waits. Entries fit
-- their slots, and a receiver that copies knows its entry's bytes.
pub record Fits (largest q : ℕ) (state : LinkState) (closed : ℕ) (sent waiting : List Entry) (phase : Phase) (got len : ℕ) : Type 0 where
  pub open_yet : is_down state ≡ false → has_bit closed q ≡ false → AreOpen sent
  pub open_waiting : 0 < length waiting → AreOpen sent
  pub waiting_fit : AllByRecursion (IsPieceWithin largest) waiting
  pub sent_fit : AllByRecursion (IsWithin largest) sent
  pub copying : is_copying phase ≡ true → IsUnderWay sent got len

abbrev pub FitsOf : ℕ → ℕ → Sight → Type 0
FitsOf largest q s = Fits largest q s.state s.sender.closed s.lane.sent s.lane.waiting s.lane.phase s.lane.got s.lane.len

-- a lane in which nothing was begun
fits_fresh : (largest q : ℕ) (state : LinkState) (closed : ℕ) (lane : LanePart) → lane ≡ fresh_lane → Fits largest q state closed lane.sent lane.waiting lane.phase lane.got lane.len
fits_fresh largest q state closed lane e =
    subst (λ (l : LanePart). Fits largest q state closed l.sent l.waiting l.phase l.got l.len) (sym e) (record {
      open_yet = λ up opened n below. absurd (omega arith);
      open_waiting = λ some n below. absurd (omega arith);
      waiting_fit = tt;
      sent_fit = tt;
      copying = λ copies. absurd (false≢true copies);
    })

-- the receiver is elsewhere
fits_at : {largest q : ℕ} {state : LinkState} {closed : ℕ} {sent waiting : List Entry} {phase : Phase} {got len : ℕ} (after : Phase) (now : ℕ) → is_copying after ≡ false
    → Fits largest q state closed sent waiting phase got len → Fits largest q state closed sent waiting after now len
fits_at after now elsewhere h = record {
  open_yet = h.open_yet;
  open_waiting = h.open_waiting;
  waiting_fit = h.waiting_fit;
  sent_fit = h.sent_fit;
  copying = λ copies. absurd (both_ways (is_copying after) elsewhere copies);
}

-- a piece is begun, and these wait
fits_piece : {largest q : ℕ} {state : LinkState} {closed : ℕ} {sent waiting : List Entry} {phase : Phase} {got len : ℕ} (entry : Entry) (others : List Entry) → AreOpen sent
    → AllByRecursion (IsPieceWithin largest) (entry ∷ others) → Fits largest q state closed sent waiting phase got len
    → Fits largest q state closed (sent ++ entry ∷ []) others phase got len
fits_piece {largest} {sent = sent} {got = got} {len = len} entry others all pieces h = record {
  open_yet = λ up opened. open_push sent entry pieces.0.0 all;
  open_waiting = λ some. open_push sent entry pieces.0.0 all;
  waiting_fit = pieces.1;
  sent_fit = all_push (IsWithin largest) sent entry h.sent_fit pieces.0.1;
  copying = λ copies. under_way-push sent entry got len (h.copying copies);
}

-- the link-down entry is begun, and the queue closed
fits_down : {largest q : ℕ} {state : LinkState} {closed : ℕ} {sent waiting : List Entry} {phase : Phase} {got len : ℕ} (after : ℕ) → waiting ≡ [] → has_bit after q ≡ true
    → Fits largest q state closed sent waiting phase got len → Fits largest q state after (sent ++ GoesDown ∷ []) waiting phase got len
fits_down {largest} {q} {sent = sent} {got = got} {len = len} after none is h =
    let e = ap length none in record {
      open_yet = λ up opened. absurd (both_ways (has_bit after q) opened is);
      open_waiting = λ some. absurd (omega (arith, e));
      waiting_fit = h.waiting_fit;
      sent_fit = all_push (IsWithin largest) sent GoesDown h.sent_fit (omega arith);
      copying = λ copies. under_way-push sent GoesDown got len (h.copying copies);
    }

-- On an ordinary pair each turn keeps entries within a slot, and none a link-down entry while the queue is open.
pub fits_kept : (plan : Plan) (lane : LaneName) (s : Sight) (made : Answered) (news : News) (t : Sight) → IsRaw plan lane ≡ false → Turn plan lane s made news t
    → FitsOf (SizesOf plan lane).largest lane.queue s → FitsOf (SizesOf plan lane).largest lane.queue t
fits_kept plan lane s made news t no_raw (Trains may) h = fits_fresh _ _ _ _ _ refl
fits_kept plan lane s made news t no_raw (Breaks may) h =
    record { open_yet = λ up. h.open_yet (up-not_down s.state may.up); open_waiting = h.open_waiting; waiting_fit = h.waiting_fit; sent_fit = h.sent_fit; copying = h.copying }
fits_kept plan lane s made news t no_raw (Drops may) h =
    record { open_yet = λ up. absurd (false≢true (sym up)); open_waiting = h.open_waiting; waiting_fit = h.waiting_fit; sent_fit = h.sent_fit; copying = h.copying }
fits_kept plan lane s made news t no_raw (Forgets Sender may) h = record {
  open_yet = λ up. absurd (both_ways (is_down s.state) up may.down);
  open_waiting = λ some. absurd (omega arith);
  waiting_fit = tt;
  sent_fit = h.sent_fit;
  copying = h.copying;
}
fits_kept plan lane s made news t no_raw (Forgets Receiver may) h = fits_at _ _ refl h
fits_kept plan lane s made news t no_raw (Begins bytes first others may cut) h =
    fits_piece first others (h.open_yet (up-not_down s.state may.up) may.not_closed) (cut_within (SizesOf plan lane).largest bytes first others cut) h
fits_kept plan lane s made news t no_raw (Closes may) h =
    subst (λ waiting. Fits (SizesOf plan lane).largest lane.queue s.state (with_bit s.sender.closed lane.queue) (s.lane.sent ++ GoesDown ∷ []) waiting s.lane.phase s.lane.got s.lane.len) may.none_waiting
    (fits_down _ may.none_waiting (has-with_same s.sender.closed lane.queue) h)
fits_kept plan lane s made news t no_raw (PostsNext entry others label rest may) h =
    let some : 0 < length s.lane.waiting = subst (λ waiting. 0 < length waiting) (sym may.waits) (omega arith) in
    fits_piece entry others (h.open_waiting some) (subst (AllByRecursion (IsPieceWithin (SizesOf plan lane).largest)) may.waits h.waiting_fit) h
fits_kept plan lane s made news t no_raw (Strays after may) h = absurd (both_ways (IsRaw plan lane) no_raw may.raw_pair)
fits_kept plan lane s made news t no_raw (Shuts Sender queue looked) h = record {
  open_yet = λ up opened. h.open_yet up (has-without s.sender.closed lane.queue queue opened);
  open_waiting = h.open_waiting;
  waiting_fit = h.waiting_fit;
  sent_fit = h.sent_fit;
  copying = h.copying;
}
fits_kept plan lane s made news t no_raw (Looks len left may) h =
    let piece = may.found no_raw in record {
      open_yet = h.open_yet;
      open_waiting = h.open_waiting;
      waiting_fit = h.waiting_fit;
      sent_fit = h.sent_fit;
      copying = λ copies. record { bytes = piece.bytes; left = left; there = piece.at; size = piece.size };
    }
fits_kept plan lane s made news t no_raw (CopiesEntry bytes may) h = fits_at _ _ refl h
fits_kept plan lane s made news t no_raw (CopiesLast bytes may) h = fits_at _ _ refl h
fits_kept plan lane s made news t no_raw (Clears may) h = fits_at _ _ refl h
fits_kept plan lane s made news t no_raw (Acks may) h = fits_at _ _ refl h
fits_kept plan lane s made news t no_raw turn h = h

-- The room

abbrev pub LeavesOneFree : ℕ → ℕ → ℕ → Type 0
LeavesOneFree entries begun freed = 0 < entries → begun + 1 ≤ freed + entries

abbrev pub LeavesOf : ℕ → Sight → Type 0
LeavesOf entries s = LeavesOneFree entries (begun_in s.lane) s.lane.freed

-- no more entries were given back than were begun
pub freed-begun : (q : ℕ) (s : Sight) → ChainOf s → WaitsOf q s → TakesOf s → s.lane.freed ≤ length s.lane.sent
freed-begun q s chain waits takes =
    let a = waits.within in
    let b = chain.acked_cleared in
    let c = chain.cleared_got in
    let d = takes.within in
    omega arith

-- a frame of this many entries was begun
leaves_begun : (sizes : Sizes) (lane : LanePart) (needed begun : ℕ) → lane.freed ≤ length lane.sent → 0 < needed → needed ≤ free_of sizes lane → begun ≡ begun_in lane + needed
    → LeavesOneFree sizes.entries begun lane.freed
leaves_begun sizes lane needed begun low some room e there = omega arith

leaves_kept : (plan : Plan) (lane : LaneName) (s : Sight) (made : Answered) (news : News) (t : Sight) → IsRaw plan lane ≡ false → Turn plan lane s made news t
    → ChainOf s → WaitsOf lane.queue s → TakesOf s → LeavesOf (SizesOf plan lane).entries s → LeavesOf (SizesOf plan lane).entries t
leaves_kept plan lane s made news t no_raw (Trains may) chain waits takes h = λ some. omega arith
leaves_kept plan lane s made news t no_raw (Forgets Sender may) chain waits takes h = λ some. let before = h some in omega arith
leaves_kept plan lane s made news t no_raw (Begins bytes first others may cut) chain waits takes h =
    let a = length-append s.lane.sent (first ∷ []) in
    let b : length s.lane.waiting ≡ 0 = ap length may.none_waiting in
    let c : suc (length others) ≡ pieces_in (SizesOf plan lane).largest (length bytes) = ap length (sym cut) ∙ length-pieces (SizesOf plan lane).largest bytes in
    leaves_begun (SizesOf plan lane) s.lane (suc (length others)) (length (s.lane.sent ++ first ∷ []) + length others) (freed-begun lane.queue s chain waits takes) (omega arith)
    (subst (λ n. n ≤ free_of (SizesOf plan lane) s.lane) (sym c) (may.room no_raw)) (omega (arith, a, b))
leaves_kept plan lane s made news t no_raw (Closes may) chain waits takes h =
    let a = length-append s.lane.sent (GoesDown ∷ []) in
    let b : length s.lane.waiting ≡ 0 = ap length may.none_waiting in
    leaves_begun (SizesOf plan lane) s.lane 1 (length (s.lane.sent ++ GoesDown ∷ []) + 0) (freed-begun lane.queue s chain waits takes) (omega arith) (may.room no_raw) (omega (arith, a, b))
leaves_kept plan lane s made news t no_raw (PostsNext entry others label rest may) chain waits takes h =
    λ some.
    let a = length-append s.lane.sent (entry ∷ []) in
    let b : length s.lane.waiting ≡ suc (length others) = ap length may.waits in
    let before = h some in
    omega (arith, a, b)
leaves_kept plan lane s made news t no_raw (Strays after may) chain waits takes h = absurd (both_ways (IsRaw plan lane) no_raw may.raw_pair)
leaves_kept plan lane s made news t no_raw (LandsIndex place n may) chain waits takes h =
    λ some.
    let is = (waits_freed lane.queue _ _ _ n s.receiver.flight (remove s.receiver.flight place) (index_first plan lane s place n may) waits waits.waiting refl).0 in
    let before = h some in
    omega arith
leaves_kept plan lane s made news t no_raw turn chain waits takes h = h

-- The law

pub record EntriesKnown (plan : Plan) (lane : LaneName) (log : List Answered) (s : Sight) : Type 0 where
  pub room : RoomKnown plan lane log s
  pub fits : FitsOf (SizesOf plan lane).largest lane.queue s
  pub leaves : LeavesOf (SizesOf plan lane).entries s

-- On an ordinary pair entries fit their slots and one slot stays free, before any step and after each turn.
pub entries_run : (plan : Plan) (lane : LaneName) → IsRaw plan lane ≡ false → HoldsAlways plan lane (EntriesKnown plan lane)
entries_run plan lane no_raw = record {
  fresh = record {
    room = (room_runs plan lane no_raw).fresh;
    fits = fits_fresh _ _ _ _ _ (fresh-lane own lane.from lane.queue);
    leaves = subst (λ (l : LanePart). LeavesOneFree (SizesOf plan lane).entries (begun_in l) l.freed) (sym (fresh-lane own lane.from lane.queue)) (λ some. omega arith);
  };
  turns = λ log s made news t tells turn h. record {
    room = room_kept plan lane no_raw log s made news t tells turn h.room;
    fits = fits_kept plan lane s made news t no_raw turn h.fits;
    leaves = leaves_kept plan lane s made news t no_raw turn h.room.chain h.room.waits h.room.takes h.leaves;
  };
}
  where
    own : PairPlan
    own = pair_plan plan lane.pair

within_at : (largest : ℕ) (entries : List Entry) → AllByRecursion (IsWithin largest) entries → AreWithin largest entries
within_at largest entries all n below = all_at (IsWithin largest) entries GoesDown all n below

pieces_are_within : (largest : ℕ) (entries : List Entry) → AllByRecursion (IsPieceWithin largest) entries → AllByRecursion (IsWithin largest) entries
pieces_are_within largest [] all = tt
pieces_are_within largest (entry ∷ entries) all = (all.0.1, pieces_are_within largest entries all.1)

-- On an ordinary pair entries begun or waiting fit a slot each, and beside them one slot of the ring stays free.
pub entries_fit_the_ring : EntriesFitTheRing
entries_fit_the_ring plan memories steps name no_raw =
    let known = always_after plan name (EntriesKnown plan name) (entries_run plan name no_raw) memories steps in record {
      begun = within_at _ _ known.fits.sent_fit;
      waiting = within_at _ _ (pieces_are_within _ _ known.fits.waiting_fit);
      one_free = known.leaves;
    }
