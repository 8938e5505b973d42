-- The numbers of reads: each side counts its own, and a request lands once.
use Rattle.std.proofs.Common.{◌≡◌, ◌≢◌, ℕ, zero, suc, ◌+◌, ◌-◌, ◌/◌, ◌==◌, ◌≤◌, ◌⊎◌, Bool, true, false, Option, Some, None, is_some, unwrap_or, List, [], ◌∷◌, ◌++◌, take, drop, remove, slice_get, length, refl, ap, ◌∙◌, inl, inr, if◌then◌else◌, cond, arith}
use Rattle.std.specs.List.{count_by, sum_by}
use Rattle.std.proofs.lemmas.Bool.{cases_eq, eq-eqb, ne_eqb, false≢true}
use Rattle.std.proofs.lemmas.List.Sums.{sum_by-append}
use Rattle.step_kinds.specs.Sides.{same_side}
use Rattle.host_memory.specs.Memory.{bytes_at}
use Rattle.step_kinds.specs.declared.names.Side.{Side}
use Rattle.step_kinds.specs.declared.names.Side.TheVariants.{A, B}
use Rattle.pair_model.specs.Both.{Both, at_side}
use Rattle.step_kinds.specs.Limits.{most_sessions}
use Rattle.pair_model.specs.Link.{refused_where}
use Rattle.pair_model.specs.declared.LinkState.{LinkState}
use Rattle.pair_model.specs.declared.LinkState.TheVariants.{Down, Up, Closing}
use Rattle.pair_model.specs.declared.LinkRefusal.{LinkRefusal}
use Rattle.pair_model.specs.declared.LinkRefusal.TheVariants.{SessionsSpent}
use Rattle.read_path.specs.InFlight.{PathFlying, Write, Request, Part, Last, lands_after, may_pass_all, parts_from, completions}
use Rattle.read_path.specs.Numbers.{is_read_of, lands_read_of, reads_in, landings_in}
use Rattle.read_path.specs.Path.{PathState, SideState, path_answer_for, landing_of, path_taken, path_land_answer, path_after_land, unless}
use Rattle.read_path.specs.PathLog.{PathEntry, path_answer_to, path_after_step}
use Rattle.read_path.specs.Pushed.{read_entry, request_entry}
use Rattle.read_path.specs.declared.steps.PathStep.{PathStep}
use Rattle.read_path.specs.declared.steps.PathStep.TheVariants.{Write as WriteStep, Read, Land, Show, Break, DropDone, Relink}
use Rattle.read_path.specs.declared.steps.PathAnswer.TheVariants.{Landed, Linked}
use Rattle.read_path.proofs.SidesHold.{by_side}

-- Requests in flight

abbrev pub requests : ℕ → PathFlying → Bool
requests n (Write at bytes relaxed) = false
requests n (Request number at len) = number == n
requests n (Part number part) = false
requests n (Last number bytes) = false

-- how many requests of this number are in flight
abbrev pub pending : ℕ → List PathFlying → ℕ
pending n flight = count_by (requests n) flight

abbrev pub one_if : Bool → ℕ
one_if b = cond b 1 0

pending_more : (n : ℕ) (flight : List PathFlying) (what : PathFlying) → pending n (flight ++ what ∷ []) ≡ pending n flight + one_if (requests n what)
pending_more n flight what = let both = sum_by-append (λ (f : PathFlying). one_if (requests n f)) flight (what ∷ []) in omega (arith, both)

pending_parts : (n number part count : ℕ) → pending n (parts_from number part count) ≡ 0
pending_parts n number part zero = refl
pending_parts n number part (suc count) =
    let both = sum_by-append (λ (f : PathFlying). one_if (requests n f)) (Part number part ∷ []) (parts_from number (part + 1) count) in
    let rest = pending_parts n number (part + 1) count in
    omega (arith, both, rest)

pending_completions : (n : ℕ) (flight : List PathFlying) (number : ℕ) (bytes : List ℕ) → pending n (flight ++ completions number bytes) ≡ pending n flight
pending_completions n flight number bytes =
    let parts = parts_from number 0 ((length bytes - 1) / 128) in
    let both = sum_by-append (λ (f : PathFlying). one_if (requests n f)) flight (parts ++ Last number bytes ∷ []) in
    let each = pending_more n parts (Last number bytes) in
    let none = pending_parts n number 0 ((length bytes - 1) / 128) in
    omega (arith, both, each, none)

split_there : (flight : List PathFlying) (place : ℕ) (x : PathFlying) → slice_get flight place ≡ Some x → flight ≡ take place flight ++ x ∷ drop (suc place) flight
split_there [] place x is = absurd (false≢true (ap is_some is))
split_there (y ∷ flight) zero x is = ap (λ o. unwrap_or o x ∷ flight) is
split_there (y ∷ flight) (suc place) x is = ap (λ (l : List PathFlying). y ∷ l) (split_there flight place x is)

-- Taking an item out of a flight lowers the number of requests of a read in flight by one if it is one, else by none.
pub pending_without : (n : ℕ) (flight : List PathFlying) (place : ℕ) (x : PathFlying) → slice_get flight place ≡ Some x → pending n (remove flight place) + one_if (requests n x) ≡ pending n flight
pending_without n flight place x there =
    let f : PathFlying → ℕ = λ (what : PathFlying). one_if (requests n what) in
    let before = take place flight in
    let after = drop (suc place) flight in
    let all : sum_by f flight ≡ sum_by f before + sum_by f (x ∷ after) = ap (sum_by f) (split_there flight place x there) ∙ sum_by-append f before (x ∷ after) in
    let one : sum_by f (x ∷ after) ≡ sum_by f (x ∷ []) + sum_by f after = sum_by-append f (x ∷ []) after in
    let rest : sum_by f (remove flight place) ≡ sum_by f before + sum_by f after = sum_by-append f before after in
    omega (arith, all, one, rest)

-- What holds of a side

pub record SideNumbers (log : List PathEntry) (side : Side) (state : SideState) : Type 0 where
  pub reads : state.reads ≡ reads_in log side
  -- a request is in flight or has landed, once at most
  pub once : (n : ℕ) → pending n state.flight + landings_in log side n ≤ 1
  -- and none that wasn't made
  pub none_new : (n : ℕ) → state.reads ≤ n → pending n state.flight + landings_in log side n ≡ 0

pub record NumbersHold (log : List PathEntry) (path : PathState) : Type 0 where
  pub sides : (side : Side) → SideNumbers log side (at_side path.sides side)

reads_more : (log : List PathEntry) (e : PathEntry) (side : Side) → reads_in (log ++ e ∷ []) side ≡ reads_in log side + one_if (is_read_of side e.step e.answer)
reads_more log e side = let both = sum_by-append (λ (x : PathEntry). one_if (is_read_of side x.step x.answer)) log (e ∷ []) in omega (arith, both)

landings_more : (log : List PathEntry) (e : PathEntry) (side : Side) (n : ℕ) → landings_in (log ++ e ∷ []) side n ≡ landings_in log side n + one_if (lands_read_of side n e.step e.answer)
landings_more log e side n = let both = sum_by-append (λ (x : PathEntry). one_if (lands_read_of side n x.step x.answer)) log (e ∷ []) in omega (arith, both)

-- no read is made and no request of the side lands, and no more requests are in flight
side_quiet : (log : List PathEntry) (e : PathEntry) (side : Side) (state new : SideState) → is_read_of side e.step e.answer ≡ false → ((n : ℕ) → lands_read_of side n e.step e.answer ≡ false)
    → new.reads ≡ state.reads → ((n : ℕ) → pending n new.flight ≤ pending n state.flight) → SideNumbers log side state → SideNumbers (log ++ e ∷ []) side new
side_quiet log e side state new no_read no_landing same fewer holds = record {
  reads = let more = reads_more log e side in let none = ap one_if no_read in let before = holds.reads in omega (arith, more, none, same, before);
  once =
      λ n.
      let more = landings_more log e side n in
      let none = ap one_if (no_landing n) in
      let before = holds.once n in
      let few = fewer n in
      omega (arith, more, none, before, few);
  none_new =
      λ n past.
      let more = landings_more log e side n in
      let none = ap one_if (no_landing n) in
      let before = holds.none_new n (omega (arith, past, same)) in
      let few = fewer n in
      omega (arith, more, none, before, few);
}

side_is_itself : (side : Side) → same_side side side ≡ true
side_is_itself A = refl
side_is_itself B = refl

-- a read is made
side_reads : (log : List PathEntry) (side : Side) (state : SideState) (at len : ℕ) → SideNumbers log side state
    → SideNumbers (log ++ read_entry side at len state.reads ∷ []) side (record { memory = state.memory; flight = state.flight ++ Request state.reads at len ∷ []; reads = state.reads + 1 })
side_reads log side state at len holds = record {
  reads = let more = reads_more log (read_entry side at len state.reads) side in let one = ap one_if (side_is_itself side) in let before = holds.reads in omega (arith, more, one, before);
  once = λ n. by_number n (cases_eq state.reads n);
  none_new =
      λ n past.
      let landings = landings_more log (read_entry side at len state.reads) side n in
      let more = pending_more n state.flight (Request state.reads at len) in
      let other = ap one_if (ne_eqb state.reads n (λ is. absurd (omega (arith, is, past)))) in
      let before = holds.none_new n (omega (arith, past)) in
      omega (arith, landings, more, other, before);
} where
  by_number : (n : ℕ) → (state.reads ≡ n) ⊎ (state.reads ≢ n) → pending n (state.flight ++ Request state.reads at len ∷ []) + landings_in (log ++ read_entry side at len state.reads ∷ []) side n ≤ 1
  by_number n (inl same) =
      let landings = landings_more log (read_entry side at len state.reads) side n in
      let more = pending_more n state.flight (Request state.reads at len) in
      let one = ap one_if (eq-eqb state.reads n same) in
      let before = holds.none_new n (omega (arith, same)) in
      omega (arith, landings, more, one, before)
  by_number n (inr differs) =
      let landings = landings_more log (read_entry side at len state.reads) side n in
      let more = pending_more n state.flight (Request state.reads at len) in
      let other = ap one_if (ne_eqb state.reads n differs) in
      let before = holds.once n in
      omega (arith, landings, more, other, before)

-- a request lands
side_lands : (log : List PathEntry) (side : Side) (state : SideState) (place number at len : ℕ) → slice_get state.flight place ≡ Some (Request number at len) → SideNumbers log side state
    → SideNumbers (log ++ request_entry side place number ∷ []) side (record { memory = state.memory; flight = remove state.flight place; reads = state.reads })
side_lands log side state place number at len there holds = record {
  reads = let more = reads_more log (request_entry side place number) side in let before = holds.reads in omega (arith, more, before);
  once = λ n. let same = moved n in let before = holds.once n in omega (arith, same, before);
  none_new = λ n past. let same = moved n in let before = holds.none_new n past in omega (arith, same, before);
} where
  moved : (n : ℕ) → pending n (remove state.flight place) + landings_in (log ++ request_entry side place number ∷ []) side n ≡ pending n state.flight + landings_in log side n
  moved n =
      let landings = landings_more log (request_entry side place number) side n in
      let one : one_if (lands_read_of side n (Land side place) (request_entry side place number).answer) ≡ one_if (number == n) = ap (λ b. one_if (if b then number == n else false)) (side_is_itself side) in
      let without = pending_without n state.flight place (Request number at len) there in
      omega (arith, landings, one, without)

-- What holds of both sides

abbrev pub entry_of : PathState → PathStep → PathEntry
entry_of path step = record { step = step; answer = path_answer_to path step }

abbrev path_with : LinkState → ℕ → Both SideState → PathState
path_with link session sides = record { link = link; session = session; sides = sides }

-- a side of which a step says nothing
untouched : (log : List PathEntry) (e : PathEntry) (side : Side) (state : SideState) → is_read_of side e.step e.answer ≡ false → ((n : ℕ) → lands_read_of side n e.step e.answer ≡ false)
    → SideNumbers log side state → SideNumbers (log ++ e ∷ []) side state
untouched log e side state no_read no_landing holds = side_quiet log e side state state no_read no_landing refl (λ n. omega arith) holds

-- a step that makes no read, lands no request, and changes no side
nothing_counted : (log : List PathEntry) (e : PathEntry) (link : LinkState) (session : ℕ) (path : PathState) → ((side : Side) → is_read_of side e.step e.answer ≡ false)
    → ((side : Side) (n : ℕ) → lands_read_of side n e.step e.answer ≡ false) → NumbersHold log path → NumbersHold (log ++ e ∷ []) (path_with link session path.sides)
nothing_counted log e link session path no_read no_landing holds =
    record { sides = λ side. untouched log e side (at_side path.sides side) (no_read side) (no_landing side) (holds.sides side) }

-- a write in flight is no request
side_writes : (log : List PathEntry) (e : PathEntry) (side : Side) (state : SideState) (at : ℕ) (bytes : List ℕ) (relaxed : Bool) → is_read_of side e.step e.answer ≡ false
    → ((n : ℕ) → lands_read_of side n e.step e.answer ≡ false) → SideNumbers log side state
    → SideNumbers (log ++ e ∷ []) side (record { memory = state.memory; flight = state.flight ++ Write at bytes relaxed ∷ []; reads = state.reads })
side_writes log e side state at bytes relaxed no_read no_landing holds =
    side_quiet log e side state (record { memory = state.memory; flight = state.flight ++ Write at bytes relaxed ∷ []; reads = state.reads }) no_read no_landing refl
    (λ n. let more = pending_more n state.flight (Write at bytes relaxed) in omega (arith, more)) holds

write_numbers : (log : List PathEntry) (link : LinkState) (session : ℕ) (sides : Both SideState) (side : Side) (at : ℕ) (bytes : List ℕ) (relaxed : Bool) → NumbersHold log (path_with link session sides)
    → NumbersHold (log ++ entry_of (path_with link session sides) (WriteStep side at bytes relaxed) ∷ []) (path_after_step (path_with link session sides) (WriteStep side at bytes relaxed))
write_numbers log Down session sides side at bytes relaxed holds = nothing_counted log _ Down session (path_with Down session sides) (λ s. refl) (λ s n. refl) holds
write_numbers log Closing session sides side at bytes relaxed holds = nothing_counted log _ Closing session (path_with Closing session sides) (λ s. refl) (λ s n. refl) holds
write_numbers log Up session sides A at bytes relaxed holds =
    record { sides = by_side _ (side_writes log _ A sides.a at bytes relaxed refl (λ n. refl) (holds.sides A)) (untouched log _ B sides.b refl (λ n. refl) (holds.sides B)) }
write_numbers log Up session sides B at bytes relaxed holds =
    record { sides = by_side _ (untouched log _ A sides.a refl (λ n. refl) (holds.sides A)) (side_writes log _ B sides.b at bytes relaxed refl (λ n. refl) (holds.sides B)) }

read_numbers : (log : List PathEntry) (link : LinkState) (session : ℕ) (sides : Both SideState) (side : Side) (at len : ℕ) → NumbersHold log (path_with link session sides)
    → NumbersHold (log ++ entry_of (path_with link session sides) (Read side at len) ∷ []) (path_after_step (path_with link session sides) (Read side at len))
read_numbers log Down session sides side at len holds = nothing_counted log _ Down session (path_with Down session sides) (λ s. refl) (λ s n. refl) holds
read_numbers log Closing session sides side at len holds = nothing_counted log _ Closing session (path_with Closing session sides) (λ s. refl) (λ s n. refl) holds
read_numbers log Up session sides A at len holds =
    record { sides = by_side _ (side_reads log A sides.a at len (holds.sides A)) (untouched log _ B sides.b refl (λ n. refl) (holds.sides B)) }
read_numbers log Up session sides B at len holds =
    record { sides = by_side _ (untouched log _ A sides.a refl (λ n. refl) (holds.sides A)) (side_reads log B sides.b at len (holds.sides B)) }

-- Landings

abbrev landing_entry : Side → ℕ → PathFlying → PathEntry
landing_entry side place what = record { step = Land side place; answer = Landed (landing_of what) }

abbrev IsRequest : PathFlying → Type 0
IsRequest (Write at bytes relaxed) = ⊥
IsRequest (Request number at len) = Unit {0}
IsRequest (Part number part) = ⊥
IsRequest (Last number bytes) = ⊥

not_landed : (side other : Side) (place n : ℕ) (what : PathFlying) → ¬ IsRequest what → lands_read_of side n (Land other place) (landing_entry other place what).answer ≡ false
not_landed side other place n (Write at bytes relaxed) differs = refl
not_landed side other place n (Request number at len) differs = absurd (differs tt)
not_landed side other place n (Part number part) differs = refl
not_landed side other place n (Last number bytes) differs = refl

-- something else than a request leaves a side
side_loses : (log : List PathEntry) (side : Side) (state : SideState) (place : ℕ) (what : PathFlying) → ¬ IsRequest what → slice_get state.flight place ≡ Some what → SideNumbers log side state
    → SideNumbers (log ++ landing_entry side place what ∷ []) side (record { memory = state.memory; flight = remove state.flight place; reads = state.reads })
side_loses log side state place what differs there holds =
    side_quiet log (landing_entry side place what) side state (record { memory = state.memory; flight = remove state.flight place; reads = state.reads }) refl (λ n. not_landed side side place n what differs) refl
    (λ n. let without = pending_without n state.flight place what there in omega (arith, without)) holds

-- completions reach the flight of the peer, or nothing does
peer_answers : (log : List PathEntry) (e : PathEntry) (side : Side) (state : SideState) (number : ℕ) (bytes : List ℕ) → is_read_of side e.step e.answer ≡ false → ((n : ℕ) → lands_read_of side n e.step e.answer ≡ false)
    → SideNumbers log side state → SideNumbers (log ++ e ∷ []) side (record { memory = state.memory; flight = state.flight ++ completions number bytes; reads = state.reads })
peer_answers log e side state number bytes no_read no_landing holds =
    side_quiet log e side state (record { memory = state.memory; flight = state.flight ++ completions number bytes; reads = state.reads }) no_read no_landing refl
    (λ n. let same = pending_completions n state.flight number bytes in omega (arith, same)) holds

landed_numbers : (log : List PathEntry) (link : LinkState) (session : ℕ) (sides : Both SideState) (side : Side) (place : ℕ) (what : PathFlying) → NumbersHold log (path_with link session sides)
    → slice_get (at_side sides side).flight place ≡ Some what → NumbersHold (log ++ landing_entry side place what ∷ []) (path_taken (path_with link session sides) side place (Some what))
landed_numbers log link session sides A place (Write at bytes relaxed) holds there =
    record {
      sides =
          by_side _ (side_loses log A sides.a place (Write at bytes relaxed) (λ request. request) there (holds.sides A))
          (let same = untouched log (landing_entry A place (Write at bytes relaxed)) B sides.b refl (λ n. refl) (holds.sides B) in record { reads = same.reads; once = same.once; none_new = same.none_new });
    }
landed_numbers log link session sides B place (Write at bytes relaxed) holds there =
    record {
      sides =
          by_side _
          (let same = untouched log (landing_entry B place (Write at bytes relaxed)) A sides.a refl (λ n. refl) (holds.sides A) in record { reads = same.reads; once = same.once; none_new = same.none_new })
          (side_loses log B sides.b place (Write at bytes relaxed) (λ request. request) there (holds.sides B));
    }
landed_numbers log link session sides A place (Part number part) holds there =
    record { sides = by_side _ (side_loses log A sides.a place (Part number part) (λ request. request) there (holds.sides A)) (untouched log _ B sides.b refl (λ n. refl) (holds.sides B)) }
landed_numbers log link session sides B place (Part number part) holds there =
    record { sides = by_side _ (untouched log _ A sides.a refl (λ n. refl) (holds.sides A)) (side_loses log B sides.b place (Part number part) (λ request. request) there (holds.sides B)) }
landed_numbers log link session sides A place (Last number bytes) holds there =
    record { sides = by_side _ (side_loses log A sides.a place (Last number bytes) (λ request. request) there (holds.sides A)) (untouched log _ B sides.b refl (λ n. refl) (holds.sides B)) }
landed_numbers log link session sides B place (Last number bytes) holds there =
    record { sides = by_side _ (untouched log _ A sides.a refl (λ n. refl) (holds.sides A)) (side_loses log B sides.b place (Last number bytes) (λ request. request) there (holds.sides B)) }
landed_numbers log Up session sides A place (Request number at len) holds there =
    record {
      sides =
          by_side _ (side_lands log A sides.a place number at len there (holds.sides A))
          (peer_answers log (request_entry A place number) B sides.b number (bytes_at at len sides.b.memory) refl (λ n. refl) (holds.sides B));
    }
landed_numbers log Up session sides B place (Request number at len) holds there =
    record {
      sides =
          by_side _ (peer_answers log (request_entry B place number) A sides.a number (bytes_at at len sides.a.memory) refl (λ n. refl) (holds.sides A))
          (side_lands log B sides.b place number at len there (holds.sides B));
    }
landed_numbers log Down session sides A place (Request number at len) holds there =
    record { sides = by_side _ (side_lands log A sides.a place number at len there (holds.sides A)) (untouched log _ B sides.b refl (λ n. refl) (holds.sides B)) }
landed_numbers log Down session sides B place (Request number at len) holds there =
    record { sides = by_side _ (untouched log _ A sides.a refl (λ n. refl) (holds.sides A)) (side_lands log B sides.b place number at len there (holds.sides B)) }
landed_numbers log Closing session sides A place (Request number at len) holds there =
    record { sides = by_side _ (side_lands log A sides.a place number at len there (holds.sides A)) (untouched log _ B sides.b refl (λ n. refl) (holds.sides B)) }
landed_numbers log Closing session sides B place (Request number at len) holds there =
    record { sides = by_side _ (untouched log _ A sides.a refl (λ n. refl) (holds.sides A)) (side_lands log B sides.b place number at len there (holds.sides B)) }

-- what a landing has to keep, if this stands at the place and may land or not
abbrev LandingNumbers : List PathEntry → PathState → Side → ℕ → Option PathFlying → Bool → Type 0
LandingNumbers log path side place flying lands =
    NumbersHold (log ++ record { step = Land side place; answer = Landed (path_answer_for flying lands) } ∷ []) (if lands then path_taken path side place flying else path)

landing_numbers : (log : List PathEntry) (path : PathState) (side : Side) (place : ℕ) → NumbersHold log path
    → NumbersHold (log ++ record { step = Land side place; answer = Landed (path_land_answer path side place) } ∷ []) (path_after_land path side place)
landing_numbers log path side place holds = by_flying (slice_get flight place) refl where
  flight : List PathFlying
  flight = (at_side path.sides side).flight

  where_it_may : (what : PathFlying) → slice_get flight place ≡ Some what → (lands : Bool) → LandingNumbers log path side place (Some what) lands
  where_it_may what there false = nothing_counted log _ path.link path.session path (λ s. refl) (λ s n. refl) holds
  where_it_may what there true = landed_numbers log path.link path.session path.sides side place what holds there

  by_flying : (flying : Option PathFlying) → slice_get flight place ≡ flying → LandingNumbers log path side place flying (lands_after flying (take place flight))
  by_flying None there = nothing_counted log _ path.link path.session path (λ s. refl) (λ s n. refl) holds
  by_flying (Some what) there = where_it_may what there (may_pass_all what (take place flight))

-- Steps

-- a drop leaves no request in flight
side_drops : (log : List PathEntry) (e : PathEntry) (side : Side) (state : SideState) → is_read_of side e.step e.answer ≡ false → ((n : ℕ) → lands_read_of side n e.step e.answer ≡ false) → SideNumbers log side state
    → SideNumbers (log ++ e ∷ []) side (record { memory = state.memory; flight = []; reads = state.reads })
side_drops log e side state no_read no_landing holds =
    side_quiet log e side state (record { memory = state.memory; flight = []; reads = state.reads }) no_read no_landing refl (λ n. omega arith) holds

drop_numbers : (log : List PathEntry) (link : LinkState) (session : ℕ) (sides : Both SideState) → NumbersHold log (path_with link session sides)
    → NumbersHold (log ++ entry_of (path_with link session sides) DropDone ∷ []) (path_after_step (path_with link session sides) DropDone)
drop_numbers log Up session sides holds = nothing_counted log _ Up session (path_with Up session sides) (λ s. refl) (λ s n. refl) holds
drop_numbers log Down session sides holds = nothing_counted log _ Down session (path_with Down session sides) (λ s. refl) (λ s n. refl) holds
drop_numbers log Closing session sides holds =
    record { sides = by_side _ (side_drops log _ A sides.a refl (λ n. refl) (holds.sides A)) (side_drops log _ B sides.b refl (λ n. refl) (holds.sides B)) }

break_numbers : (log : List PathEntry) (link : LinkState) (session : ℕ) (sides : Both SideState) → NumbersHold log (path_with link session sides)
    → NumbersHold (log ++ entry_of (path_with link session sides) Break ∷ []) (path_after_step (path_with link session sides) Break)
break_numbers log Up session sides holds = nothing_counted log _ Closing session (path_with Up session sides) (λ s. refl) (λ s n. refl) holds
break_numbers log Down session sides holds = nothing_counted log _ Down session (path_with Down session sides) (λ s. refl) (λ s n. refl) holds
break_numbers log Closing session sides holds = nothing_counted log _ Closing session (path_with Closing session sides) (λ s. refl) (λ s n. refl) holds

relink_numbers : (log : List PathEntry) (link : LinkState) (session : ℕ) (sides : Both SideState) → NumbersHold log (path_with link session sides)
    → NumbersHold (log ++ entry_of (path_with link session sides) Relink ∷ []) (path_after_step (path_with link session sides) Relink)
relink_numbers log Up session sides holds = nothing_counted log _ Up session (path_with Up session sides) (λ s. refl) (λ s n. refl) holds
relink_numbers log Closing session sides holds = nothing_counted log _ Closing session (path_with Closing session sides) (λ s. refl) (λ s n. refl) holds
relink_numbers log Down session sides holds = by_refusal (refused_where (session == most_sessions) SessionsSpent None) where
  by_refusal : (refusal : Option LinkRefusal)
      → NumbersHold (log ++ record { step = Relink; answer = Linked refusal } ∷ []) (unless refusal (path_with Down session sides) (path_with Up (session + 1) sides))
  by_refusal None = nothing_counted log _ Up (session + 1) (path_with Down session sides) (λ s. refl) (λ s n. refl) holds
  by_refusal (Some refusal) = nothing_counted log _ Down session (path_with Down session sides) (λ s. refl) (λ s n. refl) holds

-- what holds before a step holds after it
pub numbers_after : (log : List PathEntry) (path : PathState) (step : PathStep) → NumbersHold log path → NumbersHold (log ++ entry_of path step ∷ []) (path_after_step path step)
numbers_after log path (WriteStep side at bytes relaxed) holds = write_numbers log path.link path.session path.sides side at bytes relaxed holds
numbers_after log path (Read side at len) holds = read_numbers log path.link path.session path.sides side at len holds
numbers_after log path (Land side place) holds = landing_numbers log path side place holds
numbers_after log path (Show side at len) holds = nothing_counted log _ path.link path.session path (λ s. refl) (λ s n. refl) holds
numbers_after log path Break holds = break_numbers log path.link path.session path.sides holds
numbers_after log path DropDone holds = drop_numbers log path.link path.session path.sides holds
numbers_after log path Relink holds = relink_numbers log path.link path.session path.sides holds
