-- A landing keeps what holds of the log and the path.
use Rattle.std.proofs.Common.{◌≡◌, ℕ, zero, suc, ◌+◌, ◌-◌, ◌/◌, Bool, true, false, Option, Some, None, List, [], ◌∷◌, ◌++◌, map, take, remove, slice_get, length, option_map, refl, sym, ap, subst, ◌∙◌, inl, inr, if◌then◌else◌, arith}
use Rattle.std.proofs.lemmas.List.{map-append}
use Rattle.std.proofs.lemmas.List.Elements.{Contains-append_left, Contains-append_right}
use Rattle.std.proofs.lemmas.Option.{slice_get-map}
use Rattle.host_memory.specs.Memory.{written, bytes_at}
use Rattle.step_kinds.specs.Sides.{other_side}
use Rattle.step_kinds.specs.declared.names.Side.{Side}
use Rattle.step_kinds.specs.declared.names.Side.TheVariants.{A, B}
use Rattle.pair_model.specs.Both.{Both, at_side}
use Rattle.pair_model.specs.declared.LinkState.{LinkState}
use Rattle.pair_model.specs.declared.LinkState.TheVariants.{Down, Up, Closing}
use Rattle.read_path.specs.InFlight.{PathFlying, Write, Request, Part, Last, may_pass_all, lands_after, parts_from, completions}
use Rattle.read_path.specs.Path.{PathState, SideState, path_with_flight, path_with_memory, landing_of, path_answer_for, path_taken, path_land_answer, path_after_land}
use Rattle.read_path.specs.PathLog.{PathEntry}
use Rattle.read_path.specs.Pushed.{Sent, SideTold, Told, told_of, told_taken, told_after, with_step, with_told, with_more, request_entry, is_landing}
use Rattle.read_path.specs.declared.steps.PathStep.TheVariants.{Land}
use Rattle.read_path.specs.declared.steps.PathAnswer.TheVariants.{Landed}
use Rattle.read_path.proofs.Ahead.{AllAhead, ahead_append, IsWrite, flies_left, Waits}
use Rattle.read_path.proofs.Holds.{RequestFact, LastFact, SentFact, SideHolds, Holds}
use Rattle.read_path.proofs.SidesHold.{Within, all_within, by_side, side_same, side_sends, side_loses, side_stores, landed_before, fact_there, request_waits}

-- a step that changes nothing but the log
pub nothing_changes : (log : List PathEntry) (e : PathEntry) (path : PathState) → Holds log (told_of log) path → Holds (log ++ e ∷ []) (with_step (told_of log)) path
nothing_changes log e path holds = record {
  up = holds.up;
  sides = λ side. side_same log e (told_of log).dropped (told_of log).landed (told_of log).landed side (at_side (told_of log).sides side) (at_side path.sides side) (all_within (told_of log).landed) (holds.sides side);
}

-- what the log so far tells of a side
abbrev told_side : List PathEntry → Side → SideTold
told_side log side = at_side (told_of log).sides side

-- a side without what stood at a place of its list
abbrev told_without : SideTold → ℕ → SideTold
told_without told place = record { memory = told.memory; flight = remove told.flight place; posted = told.posted }

abbrev state_without : SideState → ℕ → SideState
state_without state place = path_with_flight state (remove state.flight place)

-- the two sides after a landing, each of which holds
record BothHold (log : List PathEntry) (dropped : ℕ) (landed : List ℕ) (side peer : Side) (told : SideTold) (state : SideState) (peer_told : SideTold) (peer_state : SideState) : Type 0 where
  from : SideHolds log dropped landed side told state
  to : SideHolds log dropped landed peer peer_told peer_state

-- what isn't a write, and changes nothing at the peer
moved : (log : List PathEntry) (e : PathEntry) (side peer : Side) (state peer_state : SideState) (place : ℕ) (x : Sent)
    → ¬ IsWrite x.what → slice_get (told_side log side).flight place ≡ Some x
    → SideHolds log (told_of log).dropped (told_of log).landed side (told_side log side) state
    → SideHolds log (told_of log).dropped (told_of log).landed peer (told_side log peer) peer_state
    → BothHold (log ++ e ∷ []) (told_of log).dropped (told_of log).landed side peer (told_without (told_side log side) place) (state_without state place) (told_side log peer) peer_state
moved log e side peer state peer_state place x no_write there holds peer_holds =
    let dropped = (told_of log).dropped in
    let landed = (told_of log).landed in
    record {
      from = side_loses log e dropped landed landed side (told_side log side) state place x (all_within landed) (λ write. absurd (no_write write)) there holds;
      to = side_same log e dropped landed landed peer (told_side log peer) peer_state (all_within landed) peer_holds;
    }

-- a write
stored : (log : List PathEntry) (e : PathEntry) (side peer : Side) (state peer_state : SideState) (place p at : ℕ) (bytes : List ℕ) (relaxed : Bool)
    → slice_get (told_side log side).flight place ≡ Some (record { place = p; what = Write at bytes relaxed })
    → SideHolds log (told_of log).dropped (told_of log).landed side (told_side log side) state
    → SideHolds log (told_of log).dropped (told_of log).landed peer (told_side log peer) peer_state
    → BothHold (log ++ e ∷ []) (told_of log).dropped ((told_of log).landed ++ p ∷ []) side peer (told_without (told_side log side) place) (state_without state place)
    (record { memory = written at bytes (told_side log peer).memory; flight = (told_side log peer).flight; posted = (told_side log peer).posted })
    (path_with_memory peer_state (written at bytes peer_state.memory))
stored log e side peer state peer_state place p at bytes relaxed there holds peer_holds =
    let dropped = (told_of log).dropped in
    let landed = (told_of log).landed in
    let within : Within landed (landed ++ p ∷ []) = λ w has. Contains-append_left landed (p ∷ []) w has in
    record {
      from =
          side_loses log e dropped landed (landed ++ p ∷ []) side (told_side log side) state place (record { place = p; what = Write at bytes relaxed }) within
          (λ write. Contains-append_right landed (p ∷ []) p (0, omega arith, refl)) there holds;
      to =
          side_stores (log ++ e ∷ []) dropped (landed ++ p ∷ []) peer (told_side log peer) peer_state at bytes
          (side_same log e dropped landed (landed ++ p ∷ []) peer (told_side log peer) peer_state within peer_holds);
    }

-- a request, whose completions are posted

abbrev tagged : ℕ → List PathFlying → List Sent
tagged place more = map (λ what. record { place = place; what = what }) more

parts_ahead : (log : List PathEntry) (dropped : ℕ) (landed : List ℕ) (side : Side) (place number : ℕ) (before : List Sent) (part count : ℕ) → AllAhead (SentFact log dropped landed side) before (tagged place (parts_from number part count))
parts_ahead log dropped landed side place number before part zero = tt
parts_ahead log dropped landed side place number before part (suc count) =
    (tt, parts_ahead log dropped landed side place number (before ++ record { place = place; what = Part number part } ∷ []) (part + 1) count)

answered : (log : List PathEntry) (side peer : Side) (state peer_state : SideState) (place p number at len : ℕ)
    → other_side peer ≡ side
    → slice_get (told_side log side).flight place ≡ Some (record { place = p; what = Request number at len })
    → may_pass_all (Request number at len) (take place state.flight) ≡ true
    → SideHolds log (told_of log).dropped (told_of log).landed side (told_side log side) state
    → SideHolds log (told_of log).dropped (told_of log).landed peer (told_side log peer) peer_state
    → BothHold (log ++ request_entry side place number ∷ []) (told_of log).dropped (told_of log).landed side peer (told_without (told_side log side) place) (state_without state place)
    (record {
      memory = (told_side log peer).memory;
      flight = (told_side log peer).flight ++ tagged (told_of log).made (completions number (bytes_at at len (told_side log peer).memory));
      posted = (told_side log peer).posted;
    })
    (path_with_flight peer_state (peer_state.flight ++ completions number (bytes_at at len peer_state.memory)))
answered log side peer state peer_state place p number at len others there passes holds peer_holds =
    let e : PathEntry = request_entry side place number in
    let x : Sent = record { place = p; what = Request number at len } in
    record {
      from = side_loses log e dropped landed landed side (told_side log side) state place x (all_within landed) (λ write. absurd write) there holds;
      to =
          subst
          (λ (mem : List ℕ).
          SideHolds (log ++ e ∷ []) dropped landed peer (record { memory = told.memory; flight = told.flight ++ tagged (told_of log).made (completions number bytes); posted = told.posted })
          (path_with_flight peer_state (peer_state.flight ++ completions number (bytes_at at len mem))))
          peer_holds.memory
          (side_sends log e dropped landed peer told peer_state (told_of log).made (completions number bytes) peer_state.reads peer_holds
          (subst (λ (l : List Sent). AllAhead (SentFact (log ++ e ∷ []) dropped landed peer) told.flight l)
          (sym (map-append (λ (what : PathFlying). record { place = (told_of log).made; what = what }) parts (Last number bytes ∷ [])))
          (ahead_append (SentFact (log ++ e ∷ []) dropped landed peer) told.flight (tagged (told_of log).made parts) (record { place = (told_of log).made; what = Last number bytes } ∷ [])
          (parts_ahead (log ++ e ∷ []) dropped landed peer (told_of log).made number told.flight 0 ((length bytes - 1) / 128))
          (last_fact, tt))));
    }
  where
    dropped : ℕ
    dropped = (told_of log).dropped

    landed : List ℕ
    landed = (told_of log).landed

    told : SideTold
    told = told_side log peer

    bytes : List ℕ
    bytes = bytes_at at len told.memory

    parts : List PathFlying
    parts = parts_from number 0 ((length bytes - 1) / 128)

    asked : RequestFact log dropped landed side (take place (told_side log side).flight) number at len
    asked = fact_there log dropped landed side (told_side log side) state place (record { place = p; what = Request number at len }) there holds

    fact : LastFact (log ++ request_entry side place number ∷ []) dropped landed side peer (told.flight ++ tagged (told_of log).made parts) number bytes
    fact = record {
      asking = asked.asking;
      at = at;
      len = len;
      landing = log;
      place = place;
      between = asked.between;
      since = [];
      landing_is = asked.log_is;
      log_is = refl;
      session = asked.session;
      own_writes =
          λ w posted.
          landed_before landed (Request number at len) (told_side log side).flight state.flight place w (request_waits number at len) holds.flight passes (asked.pushes w posted);
      held = refl;
      pushes = λ w posted. waits_left w (peer_holds.writes w posted);
    } where
      waits_left : (w : ℕ) → Waits landed told.flight w → Waits landed (told.flight ++ tagged (told_of log).made parts) w
      waits_left w (inl has) = inl has
      waits_left w (inr flies) = inr (flies_left w told.flight (tagged (told_of log).made parts) flies)

    last_fact : LastFact (log ++ request_entry side place number ∷ []) dropped landed (other_side peer) peer (told.flight ++ tagged (told_of log).made parts) number bytes
    last_fact = subst (λ (reader : Side). LastFact (log ++ request_entry side place number ∷ []) dropped landed reader peer (told.flight ++ tagged (told_of log).made parts) number bytes) (sym others) fact

-- What landed, and both sides after it

-- the path with this link
abbrev path_with : LinkState → ℕ → Both SideState → PathState
path_with link session sides = record { link = link; session = session; sides = sides }

-- what it says of something at a place that landed
abbrev landing_entry : Side → ℕ → PathFlying → PathEntry
landing_entry side place what = record { step = Land side place; answer = Landed (landing_of what) }

-- what a log tells after a request landed where the link is up, or isn't
abbrev told_answered : Bool → Told → Side → ℕ → ℕ → ℕ → Told
told_answered up told peer number at len = if up then with_more told peer (completions number (bytes_at at len (at_side told.sides peer).memory)) else told

-- what a log tells where what stood at a place is gone
abbrev told_gone : List PathEntry → Side → ℕ → Told
told_gone log side place = with_told (told_of log) side (told_without (told_side log side) place)

landed_holds : (log : List PathEntry) (link : LinkState) (session : ℕ) (sides : Both SideState) (side : Side) (place p : ℕ) (what : PathFlying)
    → Holds log (told_of log) (path_with link session sides)
    → slice_get (told_side log side).flight place ≡ Some (record { place = p; what = what })
    → may_pass_all what (take place (at_side sides side).flight) ≡ true
    → Holds (log ++ landing_entry side place what ∷ []) (with_step (told_taken (told_of log) side place (Some (record { place = p; what = what })))) (path_taken (path_with link session sides) side place (Some what))
landed_holds log link session sides A place p (Write at bytes relaxed) holds there passes =
    let both = stored log (landing_entry A place (Write at bytes relaxed)) A B sides.a sides.b place p at bytes relaxed there (holds.sides A) (holds.sides B) in
    record { up = holds.up; sides = by_side _ both.from both.to }
landed_holds log link session sides B place p (Write at bytes relaxed) holds there passes =
    let both = stored log (landing_entry B place (Write at bytes relaxed)) B A sides.b sides.a place p at bytes relaxed there (holds.sides B) (holds.sides A) in
    record { up = holds.up; sides = by_side _ both.to both.from }
landed_holds log link session sides A place p (Part number part) holds there passes =
    let both = moved log (landing_entry A place (Part number part)) A B sides.a sides.b place (record { place = p; what = Part number part }) (λ write. write) there (holds.sides A) (holds.sides B) in
    record { up = holds.up; sides = by_side _ both.from both.to }
landed_holds log link session sides B place p (Part number part) holds there passes =
    let both = moved log (landing_entry B place (Part number part)) B A sides.b sides.a place (record { place = p; what = Part number part }) (λ write. write) there (holds.sides B) (holds.sides A) in
    record { up = holds.up; sides = by_side _ both.to both.from }
landed_holds log link session sides A place p (Last number bytes) holds there passes =
    let both = moved log (landing_entry A place (Last number bytes)) A B sides.a sides.b place (record { place = p; what = Last number bytes }) (λ write. write) there (holds.sides A) (holds.sides B) in
    record { up = holds.up; sides = by_side _ both.from both.to }
landed_holds log link session sides B place p (Last number bytes) holds there passes =
    let both = moved log (landing_entry B place (Last number bytes)) B A sides.b sides.a place (record { place = p; what = Last number bytes }) (λ write. write) there (holds.sides B) (holds.sides A) in
    record { up = holds.up; sides = by_side _ both.to both.from }
landed_holds log Up session sides A place p (Request number at len) holds there passes =
    let both = answered log A B sides.a sides.b place p number at len refl there passes (holds.sides A) (holds.sides B) in
    subst (λ (up : Bool). Holds (log ++ request_entry A place number ∷ []) (with_step (told_answered up (told_gone log A place) B number at len)) (path_taken (path_with Up session sides) A place (Some (Request number at len))))
    (sym holds.up) (record { up = holds.up; sides = by_side _ both.from both.to })
landed_holds log Up session sides B place p (Request number at len) holds there passes =
    let both = answered log B A sides.b sides.a place p number at len refl there passes (holds.sides B) (holds.sides A) in
    subst (λ (up : Bool). Holds (log ++ request_entry B place number ∷ []) (with_step (told_answered up (told_gone log B place) A number at len)) (path_taken (path_with Up session sides) B place (Some (Request number at len))))
    (sym holds.up) (record { up = holds.up; sides = by_side _ both.to both.from })
landed_holds log Down session sides A place p (Request number at len) holds there passes =
    let both = moved log (request_entry A place number) A B sides.a sides.b place (record { place = p; what = Request number at len }) (λ write. write) there (holds.sides A) (holds.sides B) in
    subst (λ (up : Bool). Holds (log ++ request_entry A place number ∷ []) (with_step (told_answered up (told_gone log A place) B number at len)) (path_taken (path_with Down session sides) A place (Some (Request number at len))))
    (sym holds.up) (record { up = holds.up; sides = by_side _ both.from both.to })
landed_holds log Down session sides B place p (Request number at len) holds there passes =
    let both = moved log (request_entry B place number) B A sides.b sides.a place (record { place = p; what = Request number at len }) (λ write. write) there (holds.sides B) (holds.sides A) in
    subst (λ (up : Bool). Holds (log ++ request_entry B place number ∷ []) (with_step (told_answered up (told_gone log B place) A number at len)) (path_taken (path_with Down session sides) B place (Some (Request number at len))))
    (sym holds.up) (record { up = holds.up; sides = by_side _ both.to both.from })
landed_holds log Closing session sides A place p (Request number at len) holds there passes =
    let both = moved log (request_entry A place number) A B sides.a sides.b place (record { place = p; what = Request number at len }) (λ write. write) there (holds.sides A) (holds.sides B) in
    subst (λ (up : Bool). Holds (log ++ request_entry A place number ∷ []) (with_step (told_answered up (told_gone log A place) B number at len)) (path_taken (path_with Closing session sides) A place (Some (Request number at len))))
    (sym holds.up) (record { up = holds.up; sides = by_side _ both.from both.to })
landed_holds log Closing session sides B place p (Request number at len) holds there passes =
    let both = moved log (request_entry B place number) B A sides.b sides.a place (record { place = p; what = Request number at len }) (λ write. write) there (holds.sides B) (holds.sides A) in
    subst (λ (up : Bool). Holds (log ++ request_entry B place number ∷ []) (with_step (told_answered up (told_gone log B place) A number at len)) (path_taken (path_with Closing session sides) B place (Some (Request number at len))))
    (sym holds.up) (record { up = holds.up; sides = by_side _ both.to both.from })

-- The step

-- what a landing has to keep, if this stands at the place and may land or not
abbrev LandingHolds : List PathEntry → PathState → Side → ℕ → Option Sent → Option PathFlying → Bool → Type 0
LandingHolds log path side place sent flying lands =
    Holds (log ++ record { step = Land side place; answer = Landed (path_answer_for flying lands) } ∷ [])
    (with_step (if is_landing (path_answer_for flying lands) then told_taken (told_of log) side place sent else told_of log))
    (if lands then path_taken path side place flying else path)

is_landed : (what : PathFlying) → is_landing (landing_of what) ≡ true
is_landed (Write at bytes relaxed) = refl
is_landed (Request number at len) = refl
is_landed (Part number part) = refl
is_landed (Last number bytes) = refl

-- What holds of a path and its log still holds after a `land` of either side, whatever its answer.
pub landing_holds : (log : List PathEntry) (path : PathState) (side : Side) (place : ℕ) → Holds log (told_of log) path
    → Holds (log ++ record { step = Land side place; answer = Landed (path_land_answer path side place) } ∷ [])
    (told_after (told_of log) (record { step = Land side place; answer = Landed (path_land_answer path side place) })) (path_after_land path side place)
landing_holds log path side place holds =
    subst (λ (flying : Option PathFlying). LandingHolds log path side place (slice_get flight place) flying (lands_after flying (take place state)))
    (sym (slice_get-map (λ (sent : Sent). sent.what) flight place) ∙ ap (λ (l : List PathFlying). slice_get l place) (holds.sides side).flight)
    (by_sent (slice_get flight place) refl)
  where
    flight : List Sent
    flight = (told_side log side).flight

    state : List PathFlying
    state = (at_side path.sides side).flight

    where_it_may : (sent : Sent) → slice_get flight place ≡ Some sent → (lands : Bool) → may_pass_all sent.what (take place state) ≡ lands → LandingHolds log path side place (Some sent) (Some sent.what) lands
    where_it_may sent there false passes = nothing_changes log _ path holds
    where_it_may sent there true passes =
        subst
        (λ (landed : Bool).
        Holds (log ++ landing_entry side place sent.what ∷ []) (with_step (if landed then told_taken (told_of log) side place (Some sent) else told_of log)) (path_taken path side place (Some sent.what)))
        (sym (is_landed sent.what))
        (landed_holds log path.link path.session path.sides side place sent.place sent.what holds there passes)

    by_sent : (sent : Option Sent) → slice_get flight place ≡ sent → LandingHolds log path side place sent (option_map (λ (x : Sent). x.what) sent) (lands_after (option_map (λ (x : Sent). x.what) sent) (take place state))
    by_sent None there = nothing_changes log _ path holds
    by_sent (Some sent) there = where_it_may sent there (may_pass_all sent.what (take place state)) refl
