-- Where writes in flight arrive, and that they still have their place as memories change.
use Rattle.std.proofs.Common.{◌≡◌, ℕ, ◌+◌, ◌*◌, ◌<◌, ◌≤◌, Bool, true, false, List, Option, Some, None, length, take, drop, suc, if◌then◌else◌, subst, All, Contains, arith}
use Rattle.std.specs.List.{remove}
use Rattle.std.proofs.Math.Nat.{mul-le-mul_right, suc-mul}
use Rattle.std.proofs.lemmas.List.Elements.{All-append, All-drop, All-get_or, All-take, All-weaker}
use Rattle.std.proofs.lemmas.Option.{get_or_from_slice_get, slice_get_within}
use Rattle.host_memory.specs.Memory.{Contents}
use Rattle.order_rules.specs.Order.{Order}
use Rattle.pair_model.specs.Plans.{side_plan}
use Rattle.posted_queue.specs.Flight.{Flight}
use Rattle.posted_queue.specs.Landing.{answer_for, land_answer}
use Rattle.posted_queue.specs.declared.LandAnswer.TheVariants.{Landed}
use Rattle.step_kinds.specs.Sides.{other_side}
use Rattle.step_kinds.specs.declared.names.Side.{Side}
use Rattle.step_kinds.specs.declared.plan.PairPlan.{PairPlan}
use Rattle.plan_numbers.specs.Memories.{memory_size}
use Rattle.bridge_pair.specs.Calls.{HasPages}
use Rattle.bridge_pair.specs.Ends.{HasPlace, IsRegister}
use Rattle.bridge_pair.specs.Flights.{Flying, Translates, arrival_of}
use Rattle.bridge_pair.specs.Writes.{IsTarget}
use Rattle.bridge_pair.specs.declared.flying_write.Arrival.{Arrival}
use Rattle.bridge_pair.specs.declared.flying_write.Arrival.TheVariants.{AtAddress, AtPad, AtBell}
use Rattle.bridge_pair.specs.declared.write.Target.{Target}
use Rattle.bridge_pair.specs.declared.write.Target.TheVariants.{ThroughWindow, ToPad, ToBell}

-- a place stays while the memory keeps its length and all promises
pub still_has_place : (old new : Contents) (arrival : Arrival) → length new.bytes ≡ length old.bytes → ((page : ℕ) → Contains old.promised page → Contains new.promised page)
    → HasPlace old arrival → HasPlace new arrival
still_has_place old new (AtAddress at bytes) size stay there = (omega (arith, size, there.0), λ page touches. stay page (there.1 page touches))
still_has_place old new (AtPad index value) size stay there = there
still_has_place old new (AtBell bit) size stay there = there

-- and so do those of all writes in flight
pub still_have_places : (old new : Contents) (writes : List Flying) → length new.bytes ≡ length old.bytes → ((page : ℕ) → Contains old.promised page → Contains new.promised page)
    → All (λ (flying : Flying). HasPlace old flying.arrival) writes → All (λ (flying : Flying). HasPlace new flying.arrival) writes
still_have_places old new writes size stay there =
    All-weaker (λ (flying : Flying). HasPlace old flying.arrival) (λ (flying : Flying). HasPlace new flying.arrival)
    (λ (flying : Flying) (h : HasPlace old flying.arrival). still_has_place old new flying.arrival size stay h) writes there

was_landed : {W : Type 0} (found : Option W) (lands : Bool) (write : W) → Landed write ≡ answer_for found lands → found ≡ Some write
was_landed None lands write e = absurd (cc e)
was_landed (Some w) true write e = cc
was_landed (Some w) false write e = absurd (cc e)

-- what holds of all writes in flight holds of the one that lands
pub landed_is : {W : Type 0} (P : W → Type 0) (order : W → Order) (flight : Flight W) (place : ℕ) (write : W) → Landed write ≡ land_answer order flight place → All P flight.writes → P write
landed_is P order flight place write answer each =
    let found = was_landed _ _ write answer in
    subst P (get_or_from_slice_get flight.writes place write write found) (All-get_or P flight.writes place write (slice_get_within flight.writes place write found) each)

-- and of those that stay
pub rest_is : {W : Type 0} (P : W → Type 0) (flight : Flight W) (lands : Bool) (place : ℕ) → All P flight.writes
    → All P (if lands then record { writes = remove flight.writes place; spare = flight.spare } else flight).writes
rest_is P flight true place each = All-append P (take place flight.writes) (drop (suc place) flight.writes) (All-take P place flight.writes each) (All-drop P (suc place) flight.writes each)
rest_is P flight false place each = each

-- as much is promised as before
pub spare_is : {W : Type 0} {most : ℕ} (flight : Flight W) (lands : Bool) (place : ℕ) → flight.spare ≤ most
    → (if lands then record { writes = remove flight.writes place; spare = flight.spare } else flight).spare ≤ most
spare_is flight true place few = few
spare_is flight false place few = few

-- what arrives at a register has its place in each memory
pub register_has_place : (memory : Contents) (arrival : Arrival) → IsRegister arrival → HasPlace memory arrival
register_has_place memory (AtAddress at bytes) register = absurd register
register_has_place memory (AtPad index value) register = register
register_has_place memory (AtBell bit) register = register

-- bytes that stay in their window stay in the memory
in_memory : (windows cap window offset len : ℕ) → window < windows → offset + len ≤ cap → window * cap + offset + len ≤ windows * cap
in_memory windows cap window offset len among fits =
    let row : suc window * cap ≤ windows * cap = mul-le-mul_right cap among in
    let ends : suc window * cap ≡ window * cap + cap = suc-mul window cap in
    omega (arith, row, ends)

-- what translates has its place
pub translated : (plan : PairPlan) (side : Side) (memory : Contents) (target : Target) → length memory.bytes ≡ memory_size plan (other_side side) → IsTarget target
    → Translates plan side target → HasPages memory.promised (arrival_of plan side target) → HasPlace memory (arrival_of plan side target)
translated plan side memory (ThroughWindow window offset bytes) size is_target fits pages =
    let peer = side_plan plan (other_side side) in
    let least : offset + length bytes ≤ peer.cap = omega (arith, fits.1) in
    let inside = in_memory peer.windows peer.cap window offset (length bytes) fits.0 least in
    (omega (arith, inside, size), pages)
translated plan side memory (ToPad index value) size is_target fits pages = is_target
translated plan side memory (ToBell bit) size is_target fits pages = is_target
