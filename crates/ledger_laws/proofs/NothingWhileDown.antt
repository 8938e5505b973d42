-- While the link is down nothing is in flight, and no bytes of raw writes are kept.
use Rattle.std.proofs.Common.{◌≡◌, ℕ, zero, suc, Bool, true, false, Option, Some, None, List, [], ◌∷◌, ◌++◌, refl, sym, ap, ◌∙◌}
use Rattle.std.specs.Prelude.{if◌then◌else◌, remove, slice_get}
use Rattle.std.proofs.lemmas.Bool.{false≢true, both_ways}
use Rattle.step_kinds.specs.Sides.{other_side}
use Rattle.step_kinds.specs.declared.names.LaneName.{LaneName}
use Rattle.step_kinds.specs.declared.names.Side.{Side}
use Rattle.step_kinds.specs.declared.names.Side.TheVariants.{A, B}
use Rattle.step_kinds.specs.declared.plan.DevPlan.{DevPlan}
use Rattle.step_kinds.specs.declared.plan.PairPlan.{PairPlan}
use Rattle.step_kinds.specs.declared.plan.Plan.{Plan}
use Rattle.step_kinds.specs.declared.steps.Answer.{Answer}
use Rattle.step_kinds.specs.declared.steps.Label.{Label}
use Rattle.step_kinds.specs.declared.steps.Label.TheVariants.{Pad, Raw}
use Rattle.step_kinds.specs.declared.steps.Step.{Step}
use Rattle.step_kinds.specs.declared.steps.Step.TheVariants.{Enable, Train, Break, DropDone, Clean, Offer, Check, Ready, Join, Begin, QpDown, Xbegin, Post, Land, Look, Copy, Clear, Ack, Wake, Irq, Mask, Unmask, Spad, Poke}
use Rattle.pair_model.specs.Headers.{Bytes, Found, ALinkDownEntry, AnEntry}
use Rattle.ledger_model.specs.Ledger.{LanePart, SidePart, PairPart, side_of, lane_of, link_up, with_side_part, with_lane, posts, posts_raw}
use Rattle.ledger_model.specs.Next.{fresh_pair, read_next}
use Rattle.ledger_model.specs.Outcome.{Outcome, decided}
use Rattle.ledger_model.specs.Reading.{Reading, reading_of}
use Rattle.ledger_model.specs.Receiving.{lands_on, poked_without, raws_before, taken_out, land_found, look_at}
use Rattle.ledger_model.specs.Sending.{next_begun, posts_through, post_first}
use Rattle.ledger_model.specs.LinkSteps.{cleaned_side}
use Rattle.pair_model.specs.Both.{at_side, with_side}
use Rattle.pair_model.specs.Link.{is_down, cleaned_link}
use Rattle.pair_model.specs.Plans.{pair_plan}
use Rattle.ledger_laws.specs.States.{NothingInFlightWhileDown}
use Rattle.ledger_laws.proofs.AtStart.{down-not_up, each_fresh_side, fresh-flight}
use Rattle.ledger_laws.proofs.InFlight.{EmptyOf, empty_kept}
use Rattle.ledger_laws.proofs.EachPair.{AnyStep}
use Rattle.ledger_laws.proofs.PairStates.{HoldsOfPair, pair_after, landing_cases}
use Rattle.ledger_laws.proofs.walk.Cases.{train_cases, break_cases, copy_cases}
use Rattle.ledger_laws.proofs.walk.Logs.{all_fit, HoldsAlways, always_after}

-- no bytes of raw writes are kept on a link that is down
abbrev KeepsNone : PairPart → Type 0
KeepsNone pair = is_down pair.link.state ≡ true → (side : Side) → (side_of pair side).poked ≡ []

-- a change that leaves the link's state and the bytes kept
record Leaves (old new : PairPart) : Type 0 where
  state : new.link.state ≡ old.link.state
  poked : (side : Side) → (side_of new side).poked ≡ (side_of old side).poked

leaves_all : (pair : PairPart) → Leaves pair pair
leaves_all pair = record { state = refl; poked = λ side. refl }

leaves_both : {a b c : PairPart} → Leaves a b → Leaves b c → Leaves a c
leaves_both first second = record { state = second.state ∙ first.state; poked = λ side. second.poked side ∙ first.poked side }

none_left : {old new : PairPart} → Leaves old new → KeepsNone old → KeepsNone new
none_left leaves none down side = leaves.poked side ∙ none (ap is_down (sym leaves.state) ∙ down) side

none_decided : (old : PairPart) (refusal : Option Answer) (answer : Answer) (new : PairPart) → KeepsNone old → KeepsNone new → KeepsNone (decided old refusal answer new).after
none_decided old None answer new first second = second
none_decided old (Some r) answer new first second = first

-- a side's part with the same bytes kept, and another lane
leaves_side : (pair : PairPart) (side : Side) (part : SidePart) → part.poked ≡ (side_of pair side).poked → Leaves pair (with_side_part pair side part)
leaves_side pair side part same = record { state = refl; poked = λ other. go side other same }
  where
    go : (side other : Side) → part.poked ≡ (side_of pair side).poked → (side_of (with_side_part pair side part) other).poked ≡ (side_of pair other).poked
    go A A e = e
    go A B e = refl
    go B A e = refl
    go B B e = e

leaves_lane : (pair : PairPart) (from : Side) (queue : ℕ) (part : LanePart) → Leaves pair (with_lane pair from queue part)
leaves_lane pair from queue part = record { state = refl; poked = λ side. refl }

leaves_posts : (pair : PairPart) (side : Side) (label : Label) → Leaves pair (posts pair side label)
leaves_posts pair side label = go (link_up pair)
  where
    go : (up : Bool) → Leaves pair (if up then with_side_part pair side (record (side_of pair side) { flight = (side_of pair side).flight ++ label ∷ [] }) else pair)
    go true = leaves_side pair side _ refl
    go false = leaves_all pair

leaves_through : (reading : Reading) (pair : PairPart) (side : Side) (label : Label) → Leaves pair (posts_through reading pair side label)
leaves_through reading pair side label = go (reading.reaches side label)
  where
    go : (reaches : Bool) → Leaves pair (if reaches then posts pair side label else pair)
    go true = leaves_posts pair side label
    go false = leaves_all pair

-- bytes past the transport are kept where the link is up
none_raw : (pair : PairPart) (side : Side) (label : Label) (bytes : List ℕ) → KeepsNone pair → KeepsNone (posts_raw pair side label bytes)
none_raw pair side label bytes none = go (link_up pair) refl
  where
    go : (up : Bool) → link_up pair ≡ up
        → KeepsNone (if up then with_side_part pair side (record (side_of pair side) { flight = (side_of pair side).flight ++ label ∷ []; poked = (side_of pair side).poked ++ bytes ∷ [] }) else pair)
    go true up down side = absurd (both_ways (link_up pair) (down-not_up pair.link.state down) up)
    go false up down side = none down side

none_posted : (reading : Reading) (pair : PairPart) (side : Side) (queue : ℕ) (lane : LanePart) (todo : List Label) → KeepsNone pair → KeepsNone (post_first reading pair side queue lane todo).after
none_posted reading pair side queue lane [] none = none
none_posted reading pair side queue lane (label ∷ rest) none =
    none_left (leaves_both (leaves_lane pair side queue (record lane { todo = rest })) (leaves_through reading (with_lane pair side queue (record lane { todo = rest })) side label)) none

-- a write lands
remove-nothing : (place : ℕ) → remove {X = List ℕ} [] place ≡ []
remove-nothing zero = refl
remove-nothing (suc place) = refl

without-nothing : (own : SidePart) (place : ℕ) (label : Label) → own.poked ≡ [] → poked_without own place label ≡ []
without-nothing own place (Raw window offset len) none = ap (λ kept. remove kept (raws_before own.flight place)) none ∙ remove-nothing (raws_before own.flight place)
without-nothing own place label none = none

none_taken : (pair : PairPart) (side : Side) (place : ℕ) (label : Label) → KeepsNone pair → KeepsNone (taken_out pair side place label)
none_taken pair side place label none down other = go side other
  where
    go : (side other : Side) → (side_of (taken_out pair side place label) other).poked ≡ []
    go A A = without-nothing (side_of pair A) place label (none down A)
    go A B = none down B
    go B A = none down A
    go B B = without-nothing (side_of pair B) place label (none down B)

leaves_landed : (pair : PairPart) (side : Side) (label : Label) → Leaves pair (lands_on pair side label)
leaves_landed pair side label =
    landing_cases (Leaves pair) pair side label (leaves_all pair) (leaves_lane pair) (λ part keeps. leaves_side pair (other_side side) part keeps.poked)

none_landed : (plan : PairPlan) (pair : PairPart) (side : Side) (place : ℕ) (found : Option Label) → KeepsNone pair → KeepsNone (land_found plan pair side place found).after
none_landed plan pair side place None none = none
none_landed plan pair side place (Some label) none =
    none_decided pair _ _ (lands_on (taken_out pair side place label) side label) none (none_left (leaves_landed (taken_out pair side place label) side label) (none_taken pair side place label none))

-- the receiver
none_found : (pair : PairPart) (side : Side) (queue : ℕ) (found : Found) → KeepsNone pair → KeepsNone (look_at pair side queue found).after
none_found pair side queue ALinkDownEntry none = none_left (leaves_side pair side _ refl) none
none_found pair side queue (AnEntry len left) none = none
none_found pair side queue found none = none

-- each step
none_next : (devs : List DevPlan) (plan : PairPlan) (reading : Reading) (bytes : Bytes) (pair : PairPart) (step : Step) → KeepsNone pair → KeepsNone (read_next devs plan reading bytes pair step).after
none_next devs plan reading bytes pair (Enable p side) none = none_decided pair _ _ _ none none
none_next devs plan reading bytes pair (Train p) none = train_cases (λ (o : Outcome). KeepsNone o.after) pair (λ r is. none) (λ made down side. absurd (false≢true down))
none_next devs plan reading bytes pair (Break p) none = break_cases (λ (o : Outcome). KeepsNone o.after) pair (λ r is. none) (λ made down side. absurd (false≢true down))
none_next devs plan reading bytes pair (DropDone p) none = none_decided pair _ _ _ none (λ down side. dropped side)
  where
    dropped : (side : Side) → (at_side (record { a = record pair.sides.a { flight = []; poked = [] }; b = record pair.sides.b { flight = []; poked = [] } }) side).poked ≡ []
    dropped A = refl
    dropped B = refl
none_next devs plan reading bytes pair (Clean p side) none = none_decided pair _ _ _ none (none_left (cleans side) none)
  where
    cleans : (side : Side) → Leaves pair (record pair { link = cleaned_link pair.link side; sides = with_side pair.sides side (cleaned_side (side_of pair side)) })
    cleans side = record { state = refl; poked = (leaves_side pair side (cleaned_side (side_of pair side)) refl).poked }
none_next devs plan reading bytes pair (Offer p side) none = none_decided pair _ _ _ none (none_left (leaves_both (leaves_side pair side _ refl) (leaves_posts _ side _)) none)
none_next devs plan reading bytes pair (Check p side) none = none_decided pair _ _ _ none (none_left (leaves_side pair side _ refl) none)
none_next devs plan reading bytes pair (Ready p side queue) none = none_decided pair _ _ _ none (none_left (leaves_both (leaves_side pair side _ refl) (leaves_posts _ side _)) none)
none_next devs plan reading bytes pair (Join p side queue) none = none_decided pair _ _ _ none (none_left (leaves_side pair side _ refl) none)
none_next devs plan reading bytes pair (Begin p side queue frame) none = none_decided pair _ _ _ none none
none_next devs plan reading bytes pair (QpDown p side queue) none = none_decided pair _ _ _ none (none_left (leaves_side pair side _ refl) none)
none_next devs plan reading bytes pair (Xbegin p side queue dev dst kind payload) none = none_decided _ _ _ _ none none
none_next devs plan reading bytes pair (Post p side queue) none =
    none_posted reading pair side queue (next_begun queue (lane_of pair side queue)) (next_begun queue (lane_of pair side queue)).todo none
none_next devs plan reading bytes pair (Land p side place) none = none_landed plan pair side place (slice_get (side_of pair side).flight place) none
none_next devs plan reading bytes pair (Look p side queue) none = none_decided pair _ _ _ none (none_found pair side queue (reading.found side queue) none)
none_next devs plan reading bytes pair (Copy p side queue) none =
    copy_cases reading (λ (o : Outcome). KeepsNone o.after) pair side queue (λ r is. none) (λ turn more. none) (λ turn last more. none) (λ turn last whole. none)
none_next devs plan reading bytes pair (Clear p side queue) none = none_decided pair _ _ _ none none
none_next devs plan reading bytes pair (Ack p side queue) none =
    none_decided pair _ _ _ none (none_left (leaves_both (leaves_lane pair (other_side side) queue _) (leaves_through reading _ side _)) none)
none_next devs plan reading bytes pair (Wake p side queue dev) none = none_decided pair _ _ _ none none
none_next devs plan reading bytes pair (Irq p side) none = none_left (leaves_side pair side _ refl) none
none_next devs plan reading bytes pair (Mask p side bits) none = none_left (leaves_side pair side _ refl) none
none_next devs plan reading bytes pair (Unmask p side bits) none = none_left (leaves_side pair side _ refl) none
none_next devs plan reading bytes pair (Spad p side i value) none = none_left (leaves_posts pair side (Pad i value)) none
none_next devs plan reading bytes pair (Poke p side window offset poked) none = none_raw pair side _ poked none
none_next devs plan reading bytes pair step none = none

fresh-poked : (plan : PairPlan) (side : Side) → (side_of (fresh_pair plan) side).poked ≡ []
fresh-poked plan = each_fresh_side plan (λ part. part.poked ≡ []) (λ own peer. refl) refl

none_holds : (plan : Plan) (pair : ℕ) → HoldsOfPair plan pair AnyStep KeepsNone
none_holds plan pair = record {
  fresh = λ down side. fresh-poked (pair_plan plan pair) side;
  steps = λ bytes part step fits on todos none. none_next plan.devs (pair_plan plan pair) (reading_of (pair_plan plan pair) bytes part) bytes part step none;
}

-- Nothing is in flight either way on a link that is down, before any step and after each turn.
pub empty_runs : (plan : Plan) (lane : LaneName) → HoldsAlways plan lane (λ log s. EmptyOf s)
empty_runs plan lane = record {
  fresh = λ down. (fresh-flight (pair_plan plan lane.pair) lane.from, fresh-flight (pair_plan plan lane.pair) (other_side lane.from));
  turns = λ log s made news t tells turn h. empty_kept plan lane s made news t turn h;
}

-- While a pair's link is down a side has nothing in flight, and no bytes of raw writes are kept.
pub nothing_in_flight_while_down : NothingInFlightWhileDown
nothing_in_flight_while_down plan memories steps pair side down =
    let lane : LaneName = record { pair = pair; from = side; queue = 0 } in record {
      none_in_flight = (always_after plan lane _ (empty_runs plan lane) memories steps down).0;
      none_kept = pair_after plan pair _ KeepsNone (none_holds plan pair) memories steps (all_fit steps) down side;
    }
