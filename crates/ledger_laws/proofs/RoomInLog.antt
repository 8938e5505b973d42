-- The log knows the room of a lane's ring: the entries that were begun and those that were given back, and the index
-- writes in flight.
use Rattle.std.proofs.Common.{◌≡◌, ℕ, suc, zero, ◌+◌, ◌-◌, ◌<◌, ◌≤◌, ◌&&◌, Bool, true, false, List, [], ◌∷◌, ◌++◌, length, refl, sym, ap, ◌∙◌, inl, inr, arith, ◌⊎◌}
use Rattle.std.specs.Prelude.{if◌then◌else◌, ◌==◌, None, Some, count_by, map, remove, sum}
use Rattle.std.specs.List.{fold}
use Rattle.std.proofs.lemmas.Bool.{both_ways, cases_Bool, false≢true, eq-eqb, cond-true}
use Rattle.std.proofs.lemmas.List.{length-append}
use Rattle.step_kinds.specs.declared.names.LaneName.{LaneName}
use Rattle.step_kinds.specs.declared.plan.Plan.{Plan}
use Rattle.step_kinds.specs.declared.steps.Label.{Label}
use Rattle.step_kinds.specs.declared.steps.Label.TheVariants.{Index}
use Rattle.lane_model.specs.Lane.{Entry, count_from, GoesDown}
use Rattle.lane_model.specs.declared.Phase.TheVariants.{Copied}
use Rattle.step_kinds.specs.Sides.{other_side}
use Rattle.pair_model.specs.Plans.{pair_plan}
use Rattle.pair_model.specs.Sizes.{pieces_in}
use Rattle.ledger_model.specs.Ledger.{LanePart, begun_in, free_of}
use Rattle.ledger_model.specs.Pieces.{pieces_of}
use Rattle.ledger_laws.proofs.AtStart.{up-not_down}
use Rattle.ledger_laws.proofs.JoinedSides.{closing-not_down}
use Rattle.ledger_laws.proofs.Frames.{CarriesAt, carries-within, carries-append}
use Rattle.ledger_laws.proofs.Pieces.{length-pieces}
use Rattle.lane_model.specs.declared.Phase.{Phase}
use Rattle.ledger_model.specs.Labels.{label_index_of, indexes_among}
use Rattle.pair_model.specs.Link.{is_down, is_up}
use Rattle.ledger_model.specs.Log.{Answered, trains, takes_room, gives_room, in_this_session, made_since, room_in}
use Rattle.ledger_model.specs.Receiving.{is_copying, is_copied, is_cleared}
use Rattle.pair_model.specs.declared.LinkState.{LinkState}
use Rattle.lane_laws.proofs.Facade.{count_from-push}
use Rattle.ledger_laws.proofs.InFlight.{count_by-last, push_some, filter_map-remove, lands_first, posted_unread, posted_up, posted_lost, EmptyOf, empty_kept}
use Rattle.ledger_laws.proofs.Labels.{index_strict, indexes_one_class}
use Rattle.ledger_laws.proofs.Offers.{pad-index}
use Rattle.ledger_laws.proofs.LogReaders.{made_since-last}
use Rattle.ledger_laws.proofs.walk.Sight.{Sight, Sender, Receiver, flight_with}
use Rattle.ledger_laws.proofs.walk.News.{News, Tells}
use Rattle.ledger_laws.proofs.walk.Turn.{Turn, Trains, Breaks, Drops, Forgets, Offers, Readies, Says, Begins, Closes, LandsIndex, LandsBell, LandsPad, LandsAside, Looks, CopiesEntry, CopiesLast, Clears, Acks, PostsNext, Strays, MayLand, IsRaw, SizesOf}

-- How far the receiver's counts are apart

pub record Chain (acked cleared got : ℕ) (phase : Phase) : Type 0 where
  pub acked_cleared : acked ≤ cleared
  pub cleared_got : cleared ≤ got
  pub copied : is_copied phase ≡ true → cleared < got
  pub given : is_cleared phase ≡ true → acked < cleared

abbrev pub ChainOf : Sight → Type 0
ChainOf s = Chain s.lane.acked s.lane.cleared s.lane.got s.lane.phase

chain_kept : (plan : Plan) (lane : LaneName) (s : Sight) (made : Answered) (news : News) (t : Sight) → IsRaw plan lane ≡ false → Turn plan lane s made news t → ChainOf s → ChainOf t
chain_kept plan lane s made news t no_raw (Trains may) h = record { acked_cleared = omega arith; cleared_got = omega arith; copied = λ x. absurd (false≢true x); given = λ x. absurd (false≢true x) }
chain_kept plan lane s made news t no_raw (Forgets Receiver may) h =
    record { acked_cleared = h.acked_cleared; cleared_got = h.cleared_got; copied = λ x. absurd (false≢true x); given = λ x. absurd (false≢true x) }
chain_kept plan lane s made news t no_raw (Looks len left may) h =
    record { acked_cleared = h.acked_cleared; cleared_got = h.cleared_got; copied = λ x. absurd (false≢true x); given = λ x. absurd (false≢true x) }
chain_kept plan lane s made news t no_raw (CopiesEntry bytes may) h = let c = h.cleared_got in
    record { acked_cleared = h.acked_cleared; cleared_got = omega arith; copied = λ _. omega arith; given = λ x. absurd (false≢true x) }
chain_kept plan lane s made news t no_raw (CopiesLast bytes may) h = let c = h.cleared_got in
    record { acked_cleared = h.acked_cleared; cleared_got = omega arith; copied = λ _. omega arith; given = λ x. absurd (false≢true x) }
chain_kept plan lane s made news t no_raw (Clears may) h = let a = h.acked_cleared in let c = h.copied may.turn in
    record { acked_cleared = omega arith; cleared_got = omega arith; copied = λ x. absurd (false≢true x); given = λ _. omega arith }
chain_kept plan lane s made news t no_raw (Acks may) h = let a = h.given may.turn in
    record { acked_cleared = omega arith; cleared_got = h.cleared_got; copied = λ x. absurd (false≢true x); given = λ x. absurd (false≢true x) }
chain_kept plan lane s made news t no_raw (Strays after may) h = absurd (both_ways (IsRaw plan lane) no_raw may.raw_pair)
chain_kept plan lane s made news t no_raw turn h = h

-- The index writes in flight are those of the entries from the first one on that was not given back

pub record Waits (q : ℕ) (up : Bool) (freed acked : ℕ) (back : List Label) : Type 0 where
  pub waiting : ℕ
  pub indexes : indexes_among q back ≡ count_from freed waiting
  pub within : freed + waiting ≤ acked
  pub all_up : up ≡ true → freed + waiting ≡ acked

abbrev pub WaitsOf : ℕ → Sight → Type 0
WaitsOf q s = Waits q (is_up s.state) s.lane.freed s.lane.acked s.receiver.flight

-- other writes in flight with the same index writes
waits_alike : (q : ℕ) (up : Bool) (freed acked : ℕ) (back after : List Label) → indexes_among q after ≡ indexes_among q back → Waits q up freed acked back → Waits q up freed acked after
waits_alike q up freed acked back after same h = record { waiting = h.waiting; indexes = same ∙ h.indexes; within = h.within; all_up = h.all_up }

-- none
waits_none : (q : ℕ) (up : Bool) (freed acked : ℕ) (back : List Label) → back ≡ [] → freed ≤ acked → (up ≡ true → freed ≡ acked) → Waits q up freed acked back
waits_none q up freed acked back empty within all_up =
    record { waiting = 0; indexes = ap (indexes_among q) empty; within = omega arith; all_up = λ up. let e = all_up up in omega arith }

-- An index write that lands first of its lane's is of the first entry not given back, and leaves the others in a row.
pub waits_freed : (q : ℕ) (up : Bool) (freed acked n : ℕ) (back after : List Label) → indexes_among q back ≡ n ∷ indexes_among q after → (h : Waits q up freed acked back) → (waiting : ℕ)
    → h.waiting ≡ waiting → (n ≡ freed) × Waits q up (n + 1) acked after
waits_freed q up freed acked n back after head h zero e = absurd (let p = sym head ∙ h.indexes ∙ ap (count_from freed) e in cc)
waits_freed q up freed acked n back after head h (suc waiting) e =
    let all : n ∷ indexes_among q after ≡ freed ∷ count_from (suc freed) waiting = sym head ∙ h.indexes ∙ ap (count_from freed) e in
    let first : n ≡ freed = cc in
    let rest : indexes_among q after ≡ count_from (suc freed) waiting = cc in (
      first,
      record {
        waiting = waiting;
        indexes = rest ∙ ap (λ m. count_from m waiting) (omega arith);
        within = let w = h.within in omega arith;
        all_up = λ up. let a = h.all_up up in omega arith;
      },
    )

waits_acked : (q : ℕ) (state : LinkState) (freed acked : ℕ) (back : List Label) → (is_up state ≡ true) ⊎ (is_up state ≡ false) → Waits q (is_up state) freed acked back
    → Waits q (is_up state) freed (acked + 1) (flight_with state back (Index q acked))
waits_acked q state freed acked back (inl up) h = record {
  waiting = suc h.waiting;
  indexes =
      ap (indexes_among q) (posted_up state back (Index q acked) up)
      ∙ push_some (label_index_of q) back (Index q acked) acked (rw (eq-eqb q q refl) refl)
      ∙ ap (λ xs. xs ++ acked ∷ []) h.indexes ∙ ap (λ n. count_from freed h.waiting ++ n ∷ []) (sym (h.all_up up)) ∙ count_from-push freed h.waiting (freed + h.waiting) refl;
  within = let a = h.all_up up in omega arith;
  all_up = λ _. let a = h.all_up up in omega arith;
}
waits_acked q state freed acked back (inr down) h = record {
  waiting = h.waiting;
  indexes = ap (indexes_among q) (posted_lost state back (Index q acked) down) ∙ h.indexes;
  within = let w = h.within in omega arith;
  all_up = λ up. absurd (both_ways (is_up state) down up);
}

-- an index write that lands stands first of its lane's
pub index_first : (plan : Plan) (lane : LaneName) (s : Sight) (place n : ℕ) → MayLand (pair_plan plan lane.pair) (other_side lane.from) s Receiver place (Index lane.queue n)
    → indexes_among lane.queue s.receiver.flight ≡ n ∷ indexes_among lane.queue (remove s.receiver.flight place)
index_first plan lane s place n may =
    let own : label_index_of lane.queue (Index lane.queue n) ≡ Some n = cond-true (lane.queue == lane.queue) (Some n) None (eq-eqb lane.queue lane.queue refl) in
    lands_first (label_index_of lane.queue) (pair_plan plan lane.pair) (other_side lane.from) (Index lane.queue n) (index_strict (pair_plan plan lane.pair).strict lane.queue n)
    (indexes_one_class (pair_plan plan lane.pair) (other_side lane.from) lane.queue (Index lane.queue n) n own) s Receiver place n may own

waits_kept : (plan : Plan) (lane : LaneName) (s : Sight) (made : Answered) (news : News) (t : Sight) → IsRaw plan lane ≡ false → Turn plan lane s made news t → EmptyOf s → WaitsOf lane.queue s → WaitsOf lane.queue t
waits_kept plan lane s made news t no_raw (Trains may) empty h = waits_none _ _ _ _ _ (empty may.down).1 (omega arith) (λ _. refl)
waits_kept plan lane s made news t no_raw (Breaks may) empty h = record { waiting = h.waiting; indexes = h.indexes; within = h.within; all_up = λ up. absurd (false≢true up) }
waits_kept plan lane s made news t no_raw (Drops may) empty h = waits_none _ _ _ _ _ refl (let w = h.within in omega arith) (λ up. absurd (false≢true up))
waits_kept plan lane s made news t no_raw (Offers Receiver label may) empty h =
    waits_alike _ _ _ _ s.receiver.flight _ (posted_unread (label_index_of lane.queue) s.state s.receiver.flight label (pad-index lane.queue label may.a_pad)) h
waits_kept plan lane s made news t no_raw (Readies Receiver queue may) empty h = waits_alike _ _ _ _ s.receiver.flight _ (posted_unread (label_index_of lane.queue) s.state s.receiver.flight _ refl) h
waits_kept plan lane s made news t no_raw (Says Receiver label may) empty h = waits_alike _ _ _ _ s.receiver.flight _ (posted_unread (label_index_of lane.queue) s.state s.receiver.flight label may.foreign) h
waits_kept plan lane s made news t no_raw (LandsIndex place n may) empty h =
    (waits_freed lane.queue _ _ _ n s.receiver.flight _ (index_first plan lane s place n may) h h.waiting refl).1
waits_kept plan lane s made news t no_raw (LandsBell Receiver place queue may) empty h = waits_alike _ _ _ _ s.receiver.flight _ (filter_map-remove (label_index_of lane.queue) s.receiver.flight place _ may.there refl) h
waits_kept plan lane s made news t no_raw (LandsPad Receiver place i value may) empty h = waits_alike _ _ _ _ s.receiver.flight _ (filter_map-remove (label_index_of lane.queue) s.receiver.flight place _ may.there refl) h
waits_kept plan lane s made news t no_raw (LandsAside Receiver place label may) empty h =
    waits_alike _ _ _ _ s.receiver.flight _ (filter_map-remove (label_index_of lane.queue) s.receiver.flight place label may.land.there may.foreign) h
waits_kept plan lane s made news t no_raw (Acks may) empty h = waits_acked lane.queue s.state s.lane.freed s.lane.acked s.receiver.flight (cases_Bool (is_up s.state)) h
waits_kept plan lane s made news t no_raw (Strays after may) empty h = absurd (both_ways (IsRaw plan lane) no_raw may.raw_pair)
waits_kept plan lane s made news t no_raw turn empty h = h

-- No more is taken than was begun

pub record Takes (sent : List Entry) (got : ℕ) (phase : Phase) : Type 0 where
  pub within : got ≤ length sent
  pub copying : is_copying phase ≡ true → CarriesAt sent got

abbrev pub TakesOf : Sight → Type 0
TakesOf s = Takes s.lane.sent s.lane.got s.lane.phase

takes_more : (sent : List Entry) (entry : Entry) (got : ℕ) (phase : Phase) → Takes sent got phase → Takes (sent ++ entry ∷ []) got phase
takes_more sent entry got phase h = record {
  within = let e = length-append sent (entry ∷ []) in let w = h.within in omega arith;
  copying = λ copies. carries-append sent (entry ∷ []) got (h.copying copies);
}

takes_at : (sent : List Entry) (got : ℕ) (phase after : Phase) → is_copying after ≡ false → Takes sent got phase → Takes sent got after
takes_at sent got phase after elsewhere h = record { within = h.within; copying = λ copies. absurd (both_ways (is_copying after) elsewhere copies) }

takes_next : (sent : List Entry) (got : ℕ) (phase : Phase) → is_copying phase ≡ true → Takes sent got phase → Takes sent (got + 1) Copied
takes_next sent got phase turn h = record { within = let w = carries-within sent got (h.copying turn) in omega arith; copying = λ copies. absurd (false≢true copies) }

-- On an ordinary pair each turn keeps a receiver within the entries begun, and from copying a link-down entry.
pub takes_kept : (plan : Plan) (lane : LaneName) (s : Sight) (made : Answered) (news : News) (t : Sight) → IsRaw plan lane ≡ false → Turn plan lane s made news t → TakesOf s → TakesOf t
takes_kept plan lane s made news t no_raw (Trains may) h = record { within = omega arith; copying = λ copies. absurd (false≢true copies) }
takes_kept plan lane s made news t no_raw (Forgets Receiver may) h = takes_at _ _ _ _ refl h
takes_kept plan lane s made news t no_raw (Begins bytes first others may cut) h = takes_more s.lane.sent first s.lane.got s.lane.phase h
takes_kept plan lane s made news t no_raw (Closes may) h = takes_more s.lane.sent GoesDown s.lane.got s.lane.phase h
takes_kept plan lane s made news t no_raw (PostsNext entry others label rest may) h = takes_more s.lane.sent entry s.lane.got s.lane.phase h
takes_kept plan lane s made news t no_raw (Strays after may) h = absurd (both_ways (IsRaw plan lane) no_raw may.raw_pair)
takes_kept plan lane s made news t no_raw (Looks len left may) h =
    let piece = may.found no_raw in record { within = h.within; copying = λ _. record { bytes = piece.bytes; left = left; there = piece.at } }
takes_kept plan lane s made news t no_raw (CopiesEntry bytes may) h = takes_next _ _ _ may.copy.turn h
takes_kept plan lane s made news t no_raw (CopiesLast bytes may) h = takes_next _ _ _ may.copy.turn h
takes_kept plan lane s made news t no_raw (Clears may) h = takes_at _ _ _ _ refl h
takes_kept plan lane s made news t no_raw (Acks may) h = takes_at _ _ _ _ refl h
takes_kept plan lane s made news t no_raw turn h = h

-- What the log counts, until the sender has forgotten the session

pub record Counts (plan : Plan) (lane : LaneName) (log : List Answered) (begun freed : ℕ) : Type 0 where
  pub taken : sum (map (takes_room plan lane) (in_this_session lane.pair log)) ≡ begun
  pub given : count_by (gives_room lane) (in_this_session lane.pair log) ≡ freed

abbrev pub CountsOf : Plan → LaneName → List Answered → Sight → Type 0
CountsOf plan lane log s = Counts plan lane log (begun_in s.lane) s.lane.freed

-- the sender hasn't forgotten the session
abbrev pub IsOpen : Sight → Type 0
IsOpen s = (is_down s.state && s.sender.clean) ≡ false

-- While the link isn't down the sender hasn't forgotten its session.
pub open_above : (s : Sight) → is_down s.state ≡ false → IsOpen s
open_above s above = ap (λ b. b && s.sender.clean) above

count-session : (p : Answered → Bool) (k : ℕ) (log : List Answered) (made : Answered) (b : Bool) → trains k made ≡ false → p made ≡ b
    → count_by p (in_this_session k (log ++ made ∷ [])) ≡ count_by p (in_this_session k log) + (if b then 1 else 0)
count-session p k log made b no_train is =
    ap (count_by p) (made_since-last k [] log made ∙ ap (λ t. if t then [] else made_since k [] log ++ made ∷ []) no_train)
    ∙ count_by-last p (made_since k [] log) made
    ∙ ap (λ c. count_by p (made_since k [] log) + (if c then 1 else 0)) is

sum-last : (f : Answered → ℕ) (xs : List Answered) (x : Answered) → sum (map f (xs ++ x ∷ [])) ≡ sum (map f xs) + f x
sum-last f xs x = go 0 xs
  where
    go : (from : ℕ) (xs : List Answered) → fold ◌+◌ from (map f (xs ++ x ∷ [])) ≡ fold ◌+◌ from (map f xs) + f x
    go from [] = refl
    go from (y ∷ ys) = go (from + f y) ys

sum-session : (f : Answered → ℕ) (k : ℕ) (log : List Answered) (made : Answered) (n : ℕ) → trains k made ≡ false → f made ≡ n
    → sum (map f (in_this_session k (log ++ made ∷ []))) ≡ sum (map f (in_this_session k log)) + n
sum-session f k log made n no_train is =
    ap (λ made_now. sum (map f made_now)) (made_since-last k [] log made ∙ ap (λ t. if t then [] else made_since k [] log ++ made ∷ []) no_train)
    ∙ sum-last f (made_since k [] log) made
    ∙ ap (λ m. sum (map f (made_since k [] log)) + m) is

nothing-anew : (k : ℕ) (log : List Answered) (made : Answered) → trains k made ≡ true → in_this_session k (log ++ made ∷ []) ≡ []
nothing-anew k log made train = made_since-last k [] log made ∙ ap (λ t. if t then [] else made_since k [] log ++ made ∷ []) train

-- with this many entries more, and with one given back
counts_more : (plan : Plan) (lane : LaneName) (log : List Answered) (made : Answered) (n : ℕ) (c : Bool) (begun freed begun_after freed_after : ℕ) → takes_room plan lane made ≡ n → gives_room lane made ≡ c
    → trains lane.pair made ≡ false → begun_after ≡ begun + n → freed_after ≡ freed + (if c then 1 else 0) → Counts plan lane log begun freed
    → Counts plan lane (log ++ made ∷ []) begun_after freed_after
counts_more plan lane log made n c begun freed begun_after freed_after takes gives no_train one other h = record {
  taken = sum-session (takes_room plan lane) lane.pair log made n no_train takes ∙ ap (λ m. m + n) h.taken ∙ sym one;
  given = count-session (gives_room lane) lane.pair log made c no_train gives ∙ ap (λ m. m + (if c then 1 else 0)) h.given ∙ sym other;
}

-- a frame is begun where none waits
begun_more : (q : ℕ) (lane : LanePart) (largest : ℕ) (bytes : List ℕ) (first : Entry) (others : List Entry) → lane.waiting ≡ [] → pieces_of largest bytes ≡ first ∷ others
    → length (lane.sent ++ first ∷ []) + length others ≡ begun_in lane + pieces_in largest (length bytes)
begun_more q lane largest bytes first others none cut =
    let a = length-append lane.sent (first ∷ []) in
    let b : length lane.waiting ≡ 0 = ap length none in
    let c : suc (length others) ≡ pieces_in largest (length bytes) = ap length (sym cut) ∙ length-pieces largest bytes in
    omega (arith, a, b, c)

picked_more : (lane : LanePart) (entry : Entry) (others : List Entry) → lane.waiting ≡ entry ∷ others → length (lane.sent ++ entry ∷ []) + length others ≡ begun_in lane + 0
picked_more lane entry others waits =
    let a = length-append lane.sent (entry ∷ []) in
    let b : length lane.waiting ≡ suc (length others) = ap length waits in
    omega (arith, a, b)

counts_kept : (plan : Plan) (lane : LaneName) (log : List Answered) (s : Sight) (made : Answered) (news : News) (t : Sight) → IsRaw plan lane ≡ false → Tells plan lane s.lane made news
    → Turn plan lane s made news t → WaitsOf lane.queue s → (IsOpen s → CountsOf plan lane log s) → IsOpen t → CountsOf plan lane (log ++ made ∷ []) t
counts_kept plan lane log s made news t no_raw tells (Trains may) waits h open_yet =
    let none = nothing-anew lane.pair log made tells.starts in
    record { taken = ap (λ made_now. sum (map (takes_room plan lane) made_now)) none; given = ap (count_by (gives_room lane)) none }
counts_kept plan lane log s made news t no_raw tells (Breaks may) waits h open_yet =
    counts_more plan lane log made 0 false _ _ _ _ tells.takes tells.gives tells.starts (omega arith) (omega arith) (h (open_above s (up-not_down s.state may.up)))
counts_kept plan lane log s made news t no_raw tells (Drops may) waits h open_yet =
    counts_more plan lane log made 0 false _ _ _ _ tells.takes tells.gives tells.starts (omega arith) (omega arith) (h (open_above s (closing-not_down s.state may.closing)))
counts_kept plan lane log s made news t no_raw tells (Forgets Sender may) waits h open_yet = absurd (both_ways (is_down s.state && true) open_yet (ap (λ b. b && true) may.down))
counts_kept plan lane log s made news t no_raw tells (Forgets Receiver may) waits h open_yet =
    counts_more plan lane log made 0 false _ _ _ _ tells.takes tells.gives tells.starts (omega arith) (omega arith) (h open_yet)
counts_kept plan lane log s made news t no_raw tells (Begins bytes first others may cut) waits h open_yet =
    counts_more plan lane log made (pieces_in (SizesOf plan lane).largest (length bytes)) false (begun_in s.lane) s.lane.freed _ _ tells.takes tells.gives tells.starts
    (begun_more lane.queue s.lane (SizesOf plan lane).largest bytes first others may.none_waiting cut) (omega arith) (h open_yet)
counts_kept plan lane log s made news t no_raw tells (Closes may) waits h open_yet =
    let a = length-append s.lane.sent (GoesDown ∷ []) in
    let b : length s.lane.waiting ≡ 0 = ap length may.none_waiting in
    counts_more plan lane log made 1 false (begun_in s.lane) s.lane.freed _ _ tells.takes tells.gives tells.starts (omega (arith, a, b)) (omega arith) (h open_yet)
counts_kept plan lane log s made news t no_raw tells (PostsNext entry others label rest may) waits h open_yet =
    counts_more plan lane log made 0 false (begun_in s.lane) s.lane.freed _ _ tells.takes tells.gives tells.starts (picked_more s.lane entry others may.waits) (omega arith) (h open_yet)
counts_kept plan lane log s made news t no_raw tells (Strays after may) waits h open_yet = absurd (both_ways (IsRaw plan lane) no_raw may.raw_pair)
counts_kept plan lane log s made news t no_raw tells (LandsIndex place n may) waits h open_yet =
    let is = (waits_freed lane.queue _ _ _ n s.receiver.flight (remove s.receiver.flight place) (index_first plan lane s place n may) waits waits.waiting refl).0 in
    counts_more plan lane log made 0 true (begun_in s.lane) s.lane.freed _ _ tells.takes tells.gives tells.starts (omega arith) (omega arith) (h open_yet)
counts_kept plan lane log s made news t no_raw tells turn waits h open_yet = counts_more plan lane log made 0 false _ _ _ _ tells.takes tells.gives tells.starts (omega arith) (omega arith) (h open_yet)

-- What holds of the room after each log

pub record RoomKnown (plan : Plan) (lane : LaneName) (log : List Answered) (s : Sight) : Type 0 where
  pub empty : EmptyOf s
  pub chain : ChainOf s
  pub waits : WaitsOf lane.queue s
  pub takes : TakesOf s
  pub counts : IsOpen s → CountsOf plan lane log s

-- On an ordinary pair each turn keeps the facts of a ring's room, among them the log's counts of entries.
pub room_kept : (plan : Plan) (lane : LaneName) → IsRaw plan lane ≡ false → (log : List Answered) (s : Sight) (made : Answered) (news : News) (t : Sight) → Tells plan lane s.lane made news
    → Turn plan lane s made news t → RoomKnown plan lane log s → RoomKnown plan lane (log ++ made ∷ []) t
room_kept plan lane no_raw log s made news t tells turn h = record {
  empty = empty_kept plan lane s made news t turn h.empty;
  chain = chain_kept plan lane s made news t no_raw turn h.chain;
  waits = waits_kept plan lane s made news t no_raw turn h.empty h.waits;
  takes = takes_kept plan lane s made news t no_raw turn h.takes;
  counts = counts_kept plan lane log s made news t no_raw tells turn h.waits h.counts;
}

-- the room that the ledger counts is that of the log
pub room_told : (plan : Plan) (lane : LaneName) (log : List Answered) (s : Sight) → RoomKnown plan lane log s → IsOpen s → free_of (SizesOf plan lane) s.lane ≡ room_in plan log lane
room_told plan lane log s known open_yet =
    let counts = known.counts open_yet in
    let a = counts.taken in
    let b = counts.given in
    let c = known.waits.within in
    let d = known.chain.acked_cleared in
    let f = known.chain.cleared_got in
    let g = known.takes.within in
    omega arith

-- and with an entry of the log that begins this many entries, it is less by those
pub room_less : (plan : Plan) (lane : LaneName) (log : List Answered) (made : Answered) (n : ℕ) → takes_room plan lane made ≡ n → gives_room lane made ≡ false → trains lane.pair made ≡ false
    → room_in plan (log ++ made ∷ []) lane ≡ room_in plan log lane - n
room_less plan lane log made n takes gives no_train =
    let a = sum-session (takes_room plan lane) lane.pair log made n no_train takes in
    let b = count-session (gives_room lane) lane.pair log made false no_train gives in
    omega arith
