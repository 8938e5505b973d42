-- What a step does to one side keeps what holds of it.
use Rattle.std.proofs.Common.{◌≡◌, ℕ, zero, suc, ◌+◌, ◌<◌, ◌⊎◌, Bool, true, false, ◌&&◌, Option, Some, None, List, [], ◌∷◌, ◌++◌, map, take, drop, remove, slice_get, slice_index_or, unwrap_or, refl, sym, ap, subst, ◌∙◌, inl, inr, append_assoc, Contains, if◌then◌else◌, arith}
use Rattle.std.proofs.lemmas.Bool.{false≢true}
use Rattle.std.proofs.lemmas.List.{take-map, drop-map, map-append}
use Rattle.std.proofs.lemmas.List.Elements.{Contains-append_cases}
use Rattle.host_memory.specs.Memory.{written}
use Rattle.order_rules.specs.Order.{relaxed as relaxed_kind, strict as strict_kind}
use Rattle.order_rules.specs.Transactions.{may_overtake}
use Rattle.step_kinds.specs.Sides.{other_side}
use Rattle.step_kinds.specs.declared.names.Side.{Side}
use Rattle.step_kinds.specs.declared.names.Side.TheVariants.{A, B}
use Rattle.pair_model.specs.Both.{at_side}
use Rattle.read_path.specs.InFlight.{PathFlying, Write, Request, Part, Last, path_kind_of, may_pass_all}
use Rattle.read_path.specs.Path.{SideState, path_with_flight, path_with_memory}
use Rattle.read_path.specs.PathLog.{PathEntry}
use Rattle.read_path.specs.Pushed.{Sent, SideTold, told_of, read_entry, request_entry}
use Rattle.read_path.proofs.Ahead.{AllAhead, ahead_append, ahead_map, ahead_at, ahead_without, IsWrite, Flies, flies_left, flies_right, flies_without, Waits}
use Rattle.read_path.proofs.Holds.{RequestFact, Fact, SentFact, whats, SideHolds}

abbrev is_there : {X : Type 0} → Option X → Bool
is_there None = false
is_there (Some x) = true

some_same : {X : Type 0} (x y : X) → Some x ≡ Some y → x ≡ y
some_same x y is = ap (λ o. unwrap_or o x) is

and_right : (a b : Bool) → (a && b) ≡ true → b ≡ true
and_right true b both = both
and_right false b both = absurd (false≢true both)

-- Facts, as the log grows

abbrev pub Within : List ℕ → List ℕ → Type 0
Within landed more = (w : ℕ) → Contains landed w → Contains more w

-- A write that has landed or is in flight ahead is still so where more writes have landed.
pub waits_more : (landed more : List ℕ) (ahead : List Sent) (w : ℕ) → Within landed more → Waits landed ahead w → Waits more ahead w
waits_more landed more ahead w within (inl has) = inl (within w has)
waits_more landed more ahead w within (inr flies) = inr flies

-- The fact of an item in flight outlasts a new log entry, if each write that was landed or ahead of it still is.
pub fact_grown : (log : List PathEntry) (e : PathEntry) (dropped : ℕ) (landed more : List ℕ) (side : Side) (ahead left : List Sent) (what : PathFlying)
    → ((w : ℕ) → Waits landed ahead w → Waits more left w) → Fact log dropped landed side ahead what → Fact (log ++ e ∷ []) dropped more side left what
fact_grown log e dropped landed more side ahead left (Write at bytes relaxed) grow fact = tt
fact_grown log e dropped landed more side ahead left (Part number part) grow fact = tt
fact_grown log e dropped landed more side ahead left (Request number at len) grow fact = record {
  asking = fact.asking;
  between = fact.between ++ e ∷ [];
  log_is = ap (λ l. l ++ e ∷ []) fact.log_is ∙ append_assoc fact.asking (read_entry side at len number ∷ fact.between) (e ∷ []);
  session = fact.session;
  pushes = λ w posted. grow w (fact.pushes w posted);
}
fact_grown log e dropped landed more side ahead left (Last number bytes) grow fact = record {
  asking = fact.asking;
  at = fact.at;
  len = fact.len;
  landing = fact.landing;
  place = fact.place;
  between = fact.between;
  since = fact.since ++ e ∷ [];
  landing_is = fact.landing_is;
  log_is = ap (λ l. l ++ e ∷ []) fact.log_is ∙ append_assoc fact.landing (request_entry (other_side side) fact.place number ∷ fact.since) (e ∷ []);
  session = fact.session;
  own_writes = fact.own_writes;
  held = fact.held;
  pushes = λ w posted. grow w (fact.pushes w posted);
}

-- The facts of all items in flight from a side outlast a new log entry, if all writes that had landed still have.
pub facts_grown : (log : List PathEntry) (e : PathEntry) (dropped : ℕ) (landed more : List ℕ) (side : Side) (flight : List Sent) → Within landed more
    → AllAhead (SentFact log dropped landed side) [] flight → AllAhead (SentFact (log ++ e ∷ []) dropped more side) [] flight
facts_grown log e dropped landed more side flight within facts =
    ahead_map (SentFact log dropped landed side) (SentFact (log ++ e ∷ []) dropped more side)
    (λ before x fact. fact_grown log e dropped landed more side before before x.what (λ w waits. waits_more landed more before w within waits) fact)
    [] flight facts

-- One side, as the log grows

-- nothing happens there
pub side_same : (log : List PathEntry) (e : PathEntry) (dropped : ℕ) (landed more : List ℕ) (side : Side) (told : SideTold) (state : SideState) → Within landed more
    → SideHolds log dropped landed side told state → SideHolds (log ++ e ∷ []) dropped more side told state
side_same log e dropped landed more side told state within holds = record {
  memory = holds.memory;
  flight = holds.flight;
  facts = facts_grown log e dropped landed more side told.flight within holds.facts;
  writes = λ w posted. waits_more landed more told.flight w within (holds.writes w posted);
}

-- Each list of landed writes is within itself.
pub all_within : (landed : List ℕ) → Within landed landed
all_within landed w has = has

one_of : (n w : ℕ) → Contains (n ∷ []) w → n ≡ w
one_of n w has = at_place has.0 has.1 has.2 where
  at_place : (k : ℕ) → k < 1 → slice_index_or (n ∷ []) k w ≡ w → n ≡ w
  at_place zero within is = is
  at_place (suc k) within is = absurd (omega (arith, within))

whats_tagged : (place : ℕ) (more : List PathFlying) → whats (map (λ what. record { place = place; what = what }) more) ≡ more
whats_tagged place [] = refl
whats_tagged place (what ∷ more) = ap (λ (l : List PathFlying). what ∷ l) (whats_tagged place more)

whats_more : (flight : List Sent) (state : List PathFlying) (place : ℕ) (more : List PathFlying) → whats flight ≡ state → whats (flight ++ map (λ what. record { place = place; what = what }) more) ≡ state ++ more
whats_more flight state place more same =
    let new : List Sent = map (λ what. record { place = place; what = what }) more in
    map-append (λ (sent : Sent). sent.what) flight new ∙ (ap (λ (l : List PathFlying). l ++ whats new) same ∙ ap (λ (l : List PathFlying). state ++ l) (whats_tagged place more))

-- these are sent from it, and each has its fact
pub side_sends : (log : List PathEntry) (e : PathEntry) (dropped : ℕ) (landed : List ℕ) (side : Side) (told : SideTold) (state : SideState) (place : ℕ) (more : List PathFlying) (reads : ℕ)
    → SideHolds log dropped landed side told state
    → AllAhead (SentFact (log ++ e ∷ []) dropped landed side) told.flight (map (λ what. record { place = place; what = what }) more)
    → SideHolds (log ++ e ∷ []) dropped landed side (record { memory = told.memory; flight = told.flight ++ map (λ what. record { place = place; what = what }) more; posted = told.posted })
    (record { memory = state.memory; flight = state.flight ++ more; reads = reads })
side_sends log e dropped landed side told state place more reads holds facts =
    let new : List Sent = map (λ what. record { place = place; what = what }) more in
    record {
      memory = holds.memory;
      flight = whats_more told.flight state.flight place more holds.flight;
      facts = ahead_append (SentFact (log ++ e ∷ []) dropped landed side) [] told.flight new (facts_grown log e dropped landed landed side told.flight (all_within landed) holds.facts) facts;
      writes = λ w posted. waits_left landed told.flight new w (holds.writes w posted);
    }
  where
    waits_left : (landed : List ℕ) (flight new : List Sent) (w : ℕ) → Waits landed flight w → Waits landed (flight ++ new) w
    waits_left landed flight new w (inl has) = inl has
    waits_left landed flight new w (inr flies) = inr (flies_left w flight new flies)

-- it posts a write
pub side_posts : (log : List PathEntry) (e : PathEntry) (dropped : ℕ) (landed : List ℕ) (side : Side) (told : SideTold) (state : SideState) (place at : ℕ) (bytes : List ℕ) (relaxed : Bool)
    → SideHolds log dropped landed side told state
    → SideHolds (log ++ e ∷ []) dropped landed side
    (record { memory = told.memory; flight = told.flight ++ record { place = place; what = Write at bytes relaxed } ∷ []; posted = told.posted ++ place ∷ [] })
    (record { memory = state.memory; flight = state.flight ++ Write at bytes relaxed ∷ []; reads = state.reads })
side_posts log e dropped landed side told state place at bytes relaxed holds =
    let sends = side_sends log e dropped landed side told state place (Write at bytes relaxed ∷ []) state.reads holds (tt, tt) in
    record {
      memory = sends.memory;
      flight = sends.flight;
      facts = sends.facts;
      writes = λ w posted. new_or_old w (Contains-append_cases told.posted (place ∷ []) w posted) sends.writes;
    }
  where
    sent : Sent
    sent = record { place = place; what = Write at bytes relaxed }

    new_or_old : (w : ℕ) → Contains told.posted w ⊎ Contains (place ∷ []) w → ((w : ℕ) → Contains told.posted w → Waits landed (told.flight ++ sent ∷ []) w) → Waits landed (told.flight ++ sent ∷ []) w
    new_or_old w (inl old) waits = waits w old
    new_or_old w (inr new) waits = inr (flies_right w told.flight (sent ∷ []) (inl (one_of place w new, tt)))

-- it makes a read
pub side_asks : (log : List PathEntry) (dropped : ℕ) (landed : List ℕ) (side : Side) (told : SideTold) (state : SideState) (place at len : ℕ)
    → dropped ≡ (told_of log).dropped → told ≡ at_side (told_of log).sides side
    → SideHolds log dropped landed side told state
    → SideHolds (log ++ read_entry side at len state.reads ∷ []) dropped landed side
    (record { memory = told.memory; flight = told.flight ++ record { place = place; what = Request state.reads at len } ∷ []; posted = told.posted })
    (record { memory = state.memory; flight = state.flight ++ Request state.reads at len ∷ []; reads = state.reads + 1 })
side_asks log dropped landed side told state place at len drops tells holds =
    side_sends log (read_entry side at len state.reads) dropped landed side told state place (Request state.reads at len ∷ []) (state.reads + 1) holds (fact, tt)
  where
    fact : RequestFact (log ++ read_entry side at len state.reads ∷ []) dropped landed side told.flight state.reads at len
    fact = record {
      asking = log;
      between = [];
      log_is = refl;
      session = sym drops;
      pushes = λ w posted. holds.writes w (subst (λ (t : SideTold). Contains t.posted w) (sym tells) posted);
    }

-- what is in flight is dropped
pub side_drops : (log : List PathEntry) (dropped : ℕ) (landed : List ℕ) (side : Side) (told : SideTold) (state : SideState) → told.memory ≡ state.memory
    → SideHolds log dropped landed side (record { memory = told.memory; flight = []; posted = [] }) (record { memory = state.memory; flight = []; reads = state.reads })
side_drops log dropped landed side told state same = record { memory = same; flight = refl; facts = tt; writes = λ w none. absurd (omega (arith, none.1)) }

-- Sides

-- What holds of side A and of side B holds of any side.
pub by_side : (P : Side → Type 0) → P A → P B → (side : Side) → P side
by_side P a b A = a
by_side P a b B = b

-- Landings

-- a list with what stands at a place of it
pub split_there : (flight : List Sent) (place : ℕ) (x : Sent) → slice_get flight place ≡ Some x → flight ≡ take place flight ++ x ∷ drop (suc place) flight
split_there [] place x is = absurd (none_some is) where
  none_some : None ≡ Some x → ⊥
  none_some same = false≢true (ap is_there same)
split_there (y ∷ flight) zero x is = ap (λ (z : Sent). z ∷ flight) (some_same y x is)
split_there (y ∷ flight) (suc place) x is = ap (λ (l : List Sent). y ∷ l) (split_there flight place x is)

whats_without : (flight : List Sent) (place : ℕ) → whats (remove flight place) ≡ remove (whats flight) place
whats_without flight place =
    map-append (λ (sent : Sent). sent.what) (take place flight) (drop (suc place) flight)
    ∙ (ap (λ (l : List PathFlying). l ++ whats (drop (suc place) flight)) (sym (take-map (λ (sent : Sent). sent.what) place flight))
    ∙ ap (λ (l : List PathFlying). take place (whats flight) ++ l) (sym (drop-map (λ (sent : Sent). sent.what) (suc place) flight)))

-- a write that waited still waits, or landed, once this item is gone
waits_without : (landed more : List ℕ) (x : Sent) (before after : List Sent) (w : ℕ) → Within landed more → (IsWrite x.what → Contains more x.place)
    → Waits landed (before ++ x ∷ after) w → Waits more (before ++ after) w
waits_without landed more x before after w within lands (inl has) = inl (within w has)
waits_without landed more x before after w within lands (inr flies) = gone (flies_without w x before after flies) where
  gone : Flies w (before ++ after) ⊎ ((x.place ≡ w) × IsWrite x.what) → Waits more (before ++ after) w
  gone (inl others) = inr others
  gone (inr is) = inl (subst (λ (n : ℕ). Contains more n) is.0 (lands is.1))

-- what stands at a place leaves it
pub side_loses : (log : List PathEntry) (e : PathEntry) (dropped : ℕ) (landed more : List ℕ) (side : Side) (told : SideTold) (state : SideState) (place : ℕ) (x : Sent)
    → Within landed more → (IsWrite x.what → Contains more x.place) → slice_get told.flight place ≡ Some x
    → SideHolds log dropped landed side told state
    → SideHolds (log ++ e ∷ []) dropped more side (record { memory = told.memory; flight = remove told.flight place; posted = told.posted }) (path_with_flight state (remove state.flight place))
side_loses log e dropped landed more side told state place x within lands there holds =
    let before : List Sent = take place told.flight in
    let after : List Sent = drop (suc place) told.flight in
    let split : told.flight ≡ before ++ x ∷ after = split_there told.flight place x there in
    record {
      memory = holds.memory;
      flight = whats_without told.flight place ∙ ap (λ (l : List PathFlying). remove l place) holds.flight;
      facts =
          ahead_without (SentFact log dropped landed side) (SentFact (log ++ e ∷ []) dropped more side) x
          (λ b z fact. fact_grown log e dropped landed more side b b z.what (λ w waits. waits_more landed more b w within waits) fact)
          (λ b c z fact. fact_grown log e dropped landed more side (b ++ x ∷ c) (b ++ c) z.what (λ w waits. waits_without landed more x b c w within lands waits) fact)
          [] before after (subst (λ (l : List Sent). AllAhead (SentFact log dropped landed side) [] l) split holds.facts);
      writes = λ w posted. waits_without landed more x before after w within lands (subst (λ (l : List Sent). Waits landed l w) split (holds.writes w posted));
    }

-- a write is stored there
pub side_stores : (log : List PathEntry) (dropped : ℕ) (landed : List ℕ) (side : Side) (told : SideTold) (state : SideState) (at : ℕ) (bytes : List ℕ)
    → SideHolds log dropped landed side told state
    → SideHolds log dropped landed side (record { memory = written at bytes told.memory; flight = told.flight; posted = told.posted }) (path_with_memory state (written at bytes state.memory))
side_stores log dropped landed side told state at bytes holds =
    record { memory = ap (λ (mem : List ℕ). written at bytes mem) holds.memory; flight = holds.flight; facts = holds.facts; writes = holds.writes }

-- it passes no posted write
abbrev pub WaitsForWrites : PathFlying → Type 0
WaitsForWrites what = (relaxed : Bool) → may_overtake (path_kind_of what) (if relaxed then relaxed_kind else strict_kind) ≡ false

-- A read request may pass no posted write, relaxed or strict.
pub request_waits : (number at len : ℕ) → WaitsForWrites (Request number at len)
request_waits number at len true = refl
request_waits number at len false = refl

-- The last completion of a read may pass no posted write, relaxed or strict.
pub last_waits : (number : ℕ) (bytes : List ℕ) → WaitsForWrites (Last number bytes)
last_waits number bytes true = refl
last_waits number bytes false = refl

-- what waits for the writes before it has none before it where it may land
no_write_ahead : (what : PathFlying) (ahead : List Sent) (w : ℕ) → WaitsForWrites what
    → may_pass_all what (whats ahead) ≡ true → ¬ Flies w ahead
no_write_ahead what [] w waits passes flies = flies
no_write_ahead what (x ∷ ahead) w waits passes flies = each x.what passes flies (λ rest later. no_write_ahead what ahead w waits rest later) where
  each : (other : PathFlying) → (may_overtake (path_kind_of what) (path_kind_of other) && may_pass_all what (whats ahead)) ≡ true → ((x.place ≡ w) × IsWrite other) ⊎ Flies w ahead
      → (may_pass_all what (whats ahead) ≡ true → Flies w ahead → ⊥) → ⊥
  each (Write at bytes relaxed) passes flies none = false≢true (sym (ap (λ (b : Bool). b && may_pass_all what (whats ahead)) (waits relaxed)) ∙ passes)
  each (Request number at len) passes (inl here) none = here.1
  each (Request number at len) passes (inr later) none = none (and_right (may_overtake (path_kind_of what) 2) _ passes) later
  each (Part number part) passes (inl here) none = here.1
  each (Part number part) passes (inr later) none = none (and_right (may_overtake (path_kind_of what) 3) _ passes) later
  each (Last number bytes) passes (inl here) none = here.1
  each (Last number bytes) passes (inr later) none = none (and_right (may_overtake (path_kind_of what) 3) _ passes) later

-- so each write that it waited for has landed
pub landed_before : (landed : List ℕ) (what : PathFlying) (flight : List Sent) (state : List PathFlying) (place w : ℕ)
    → WaitsForWrites what → whats flight ≡ state → may_pass_all what (take place state) ≡ true → Waits landed (take place flight) w → Contains landed w
landed_before landed what flight state place w waits same passes (inl has) = has
landed_before landed what flight state place w waits same passes (inr flies) =
    absurd (no_write_ahead what (take place flight) w waits
    (ap (λ (l : List PathFlying). may_pass_all what l) (sym (take-map (λ (sent : Sent). sent.what) place flight) ∙ ap (λ (l : List PathFlying). take place l) same) ∙ passes) flies)

-- the fact of what stands at a place
pub fact_there : (log : List PathEntry) (dropped : ℕ) (landed : List ℕ) (side : Side) (told : SideTold) (state : SideState) (place : ℕ) (x : Sent) → slice_get told.flight place ≡ Some x
    → SideHolds log dropped landed side told state → Fact log dropped landed side (take place told.flight) x.what
fact_there log dropped landed side told state place x there holds =
    ahead_at (SentFact log dropped landed side) [] (take place told.flight) (drop (suc place) told.flight) x
    (subst (λ (l : List Sent). AllAhead (SentFact log dropped landed side) [] l) (split_there told.flight place x there) holds.facts)
