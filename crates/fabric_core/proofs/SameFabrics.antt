-- What is the same represents the same steps, and what represents one list of steps is the same.
use Rattle.std.proofs.Common.{◌≡◌, ◌∙◌, ℕ, ◌<◌, ◌||◌, Bool, true, false, not, List, length, refl, sym, ap, subst, if◌then◌else◌}
use Rattle.std.proofs.lemmas.Bool.{false≢true}
use Rattle.step_kinds.specs.declared.names.Side.{Side}
use Rattle.step_kinds.specs.declared.plan.DevPlan.{DevPlan}
use Rattle.step_kinds.specs.declared.plan.PairPlan.{PairPlan}
use Rattle.step_kinds.specs.declared.plan.Plan.{Plan}
use Rattle.step_kinds.specs.declared.steps.Label.{Label}
use Rattle.step_kinds.specs.declared.steps.Step.{Step}
use Rattle.lane_model.specs.Lane.{Entry}
use Rattle.lane_model.specs.Tests.{is_empty_list}
use Rattle.pair_model.specs.Link.{Link}
use Rattle.pair_model.specs.Plans.{pair_plan}
use Rattle.ledger_model.specs.Memory.{Site, site_of}
use Rattle.bridge_pair.specs.Bridge.{Bridge}
use Rattle.frame_ring.specs.Port.{PortState, Receiving, Sending}
use Rattle.frame_ring.specs.Same.{IsSamePort}
use Rattle.fabric_rule.specs.InPlace.{SendingEnd, last_entry}
use Rattle.fabric_rule.specs.Parts.{PairState, QueuePart, queue_of, queues_of}
use Rattle.fabric_rule.specs.StandsFor.{PairStands, QueueStands, QueueView, SideStandsIn, has_link_forgotten, is_left, port_for, sending_for, view_of}
use Rattle.fabric_core.specs.Fabric.{FabricState, StandsFor, bare_plan, pair_of, plan_kept}
use Rattle.fabric_core.specs.InFlight.{SameKeys}
use Rattle.fabric_core.specs.LogClauses.{HasMade}
use Rattle.fabric_core.proofs.InFlight.{same_fabric_keys}
use Rattle.fabric_core.proofs.StepsOfFabrics.{MadeSome, plan_of_standing}
use Rattle.fabric_core.specs.Same.{AreSamePairs, IsSameFabric, IsSamePair, IsSamePart, OneListMakesSame, SameHasMadeSame}

-- Whether something is left to post, by the port and by the ledger

-- something is left by the ledger where it is by the port
left_where_busy : (todo : List Label) (waiting : List Entry) → (not (is_empty_list todo) || not (is_empty_list waiting)) ≡ true → (sends : SendingEnd) → todo ≡ sends.todo → waiting ≡ sends.waiting → is_left sends ≡ true
left_where_busy todo waiting busy sends same same_waiting = by_tests (is_empty_list sends.todo) (is_empty_list sends.waiting)
    (subst (λ (waiting : List Entry). (not (is_empty_list sends.todo) || not (is_empty_list waiting)) ≡ true) same_waiting
    (subst (λ (todo : List Label). (not (is_empty_list todo) || not (is_empty_list waiting)) ≡ true) same busy))
  where
    by_tests : (none nor : Bool) → (not none || not nor) ≡ true → (if none then (if nor then false else true) else true) ≡ true
    by_tests true true busy = absurd (false≢true busy)
    by_tests true false busy = refl
    by_tests false nor busy = refl

-- and by the port where it is by the ledger
busy_where_left : (todo : List Label) (waiting : List Entry) (sends : SendingEnd) → todo ≡ sends.todo → waiting ≡ sends.waiting → is_left sends ≡ true → (not (is_empty_list todo) || not (is_empty_list waiting)) ≡ true
busy_where_left todo waiting sends same same_waiting left =
    subst (λ (waiting : List Entry). (not (is_empty_list todo) || not (is_empty_list waiting)) ≡ true) (sym same_waiting)
    (subst (λ (todo : List Label). (not (is_empty_list todo) || not (is_empty_list sends.waiting)) ≡ true) (sym same) (by_tests (is_empty_list sends.todo) (is_empty_list sends.waiting) left))
  where
    by_tests : (none nor : Bool) → (if none then (if nor then false else true) else true) ≡ true → (not none || not nor) ≡ true
    by_tests true true left = absurd (false≢true left)
    by_tests true false left = refl
    by_tests false nor left = refl

-- One queue

-- a port of these parts
port_of_parts : (port : PortState) (plan : PairPlan) (side : Side) (queue : ℕ) (sending : Sending) (receiving : Receiving) → port.plan ≡ plan → port.side ≡ side → port.queue ≡ queue → port.sending ≡ sending → port.receiving ≡ receiving →
    port ≡ record { plan = plan; side = side; queue = queue; sending = sending; receiving = receiving }
port_of_parts port plan side queue sending receiving is_plan is_side is_queue sends receives =
    ap (λ (plan : PairPlan). made plan port.side port.queue port.sending port.receiving) is_plan ∙ ap (λ (side : Side). made plan side port.queue port.sending port.receiving) is_side
    ∙ ap (λ (queue : ℕ). made plan side queue port.sending port.receiving) is_queue ∙ ap (λ (sending : Sending). made plan side queue sending port.receiving) sends
    ∙ ap (λ (receiving : Receiving). made plan side queue sending receiving) receives
  where
    made : PairPlan → Side → ℕ → Sending → Receiving → PortState
    made plan side queue sending receiving = record { plan = plan; side = side; queue = queue; sending = sending; receiving = receiving }

-- a sending end of these parts, with its own entry
sending_of_parts : (sending : Sending) (begun told : ℕ) (todo : List Label) (waiting : List Entry) → sending.begun ≡ begun → sending.told ≡ told → sending.todo ≡ todo → sending.waiting ≡ waiting →
    sending ≡ record { begun = begun; told = told; entry = sending.entry; todo = todo; waiting = waiting }
sending_of_parts sending begun told todo waiting is_begun is_told is_todo is_waiting =
    ap (λ (begun : ℕ). made begun sending.told sending.todo sending.waiting) is_begun ∙ ap (λ (told : ℕ). made begun told sending.todo sending.waiting) is_told
    ∙ ap (λ (todo : List Label). made begun told todo sending.waiting) is_todo ∙ ap (λ (waiting : List Entry). made begun told todo waiting) is_waiting
  where
    made : ℕ → ℕ → List Label → List Entry → Sending
    made begun told todo waiting = record { begun = begun; told = told; entry = sending.entry; todo = todo; waiting = waiting }

module _ (devs : List DevPlan) (plan : PairPlan) (k : ℕ) (side : Side) (queue : ℕ) (view : QueueView) where
  -- the port of a queue that is the same has the ledger's numbers too
  port_stands : (forgotten : Bool) (own : QueueView) (part other : QueuePart) → IsSamePort part.queue.port other.queue.port →
      QueueStands devs plan k side queue forgotten view part → QueueStands devs plan k side queue forgotten own other →
      other.queue.port ≡ port_for plan side queue forgotten view other.queue.port.sending.entry
  port_stands true own part other same stands owns = owns.port
  port_stands false own part other same stands owns =
      let port = other.queue.port in
      port_of_parts port plan side queue (sending_for view.sends port.sending.entry) view.receives.port
      (ap (λ (port : PortState). port.plan) owns.port) (ap (λ (port : PortState). port.side) owns.port) (ap (λ (port : PortState). port.queue) owns.port)
      (sending_of_parts port.sending (length view.sends.sent) view.sends.told view.sends.todo view.sends.waiting
      (sym same.sending.begun ∙ ap (λ (port : PortState). port.sending.begun) stands.port) (sym same.sending.told ∙ ap (λ (port : PortState). port.sending.told) stands.port)
      (sym same.sending.todo ∙ ap (λ (port : PortState). port.sending.todo) stands.port) (sym same.sending.waiting ∙ ap (λ (port : PortState). port.sending.waiting) stands.port))
      (sym same.receiving ∙ ap (λ (port : PortState). port.receiving) stands.port)

  -- and so the entry that is left to post
  entry_stands : (forgotten : Bool) (part other : QueuePart) → IsSamePort part.queue.port other.queue.port → QueueStands devs plan k side queue forgotten view part →
      forgotten ≡ false → is_left view.sends ≡ true → other.queue.port.sending.entry ≡ last_entry view.sends
  entry_stands true part other same stands is left = absurd (false≢true (sym is))
  entry_stands false part other same stands is left =
      sym (same.sending.entry (busy_where_left part.queue.port.sending.todo part.queue.port.sending.waiting view.sends
      (ap (λ (port : PortState). port.sending.todo) stands.port) (ap (λ (port : PortState). port.sending.waiting) stands.port) left))
      ∙ stands.entry is left

  -- a queue that is the same represents the same view
  queue_stands : (forgotten : Bool) (own : QueueView) (part other : QueuePart) → IsSamePart part other →
      QueueStands devs plan k side queue forgotten view part → QueueStands devs plan k side queue forgotten own other →
      QueueStands devs plan k side queue forgotten view other
  queue_stands forgotten own part other same stands owns =
      record {
        port = port_stands forgotten own part other same.queue.port stands owns;
        entry = entry_stands forgotten part other same.queue.port stands;
        closed = sym same.queue.closed ∙ stands.closed;
        stopped = sym same.stopped ∙ stands.stopped;
        limits = owns.limits;
        counters = sym same.counters ∙ stands.counters;
        accepted = λ session. sym (same.accepted session) ∙ stands.accepted session;
        delivered = λ session. sym (same.delivered session) ∙ stands.delivered session;
        sending = stands.sending;
        receiving = stands.receiving;
        forgets = stands.forgets;
        stops = stands.stops;
      }

  -- two ports that represent one view
  same_ports : (forgotten : Bool) (part other : QueuePart) → QueueStands devs plan k side queue forgotten view part → QueueStands devs plan k side queue forgotten view other →
      IsSamePort part.queue.port other.queue.port
  same_ports true part other stands owns =
      let same : part.queue.port ≡ other.queue.port = stands.port ∙ sym owns.port in
      subst (λ (port : PortState). IsSamePort part.queue.port port) same
      (record { sending = record { begun = refl; told = refl; todo = refl; waiting = refl; entry = λ busy. refl }; receiving = refl })
  same_ports false part other stands owns =
      record {
        sending = record {
          begun = ap (λ (port : PortState). port.sending.begun) stands.port ∙ sym (ap (λ (port : PortState). port.sending.begun) owns.port);
          told = ap (λ (port : PortState). port.sending.told) stands.port ∙ sym (ap (λ (port : PortState). port.sending.told) owns.port);
          todo = ap (λ (port : PortState). port.sending.todo) stands.port ∙ sym (ap (λ (port : PortState). port.sending.todo) owns.port);
          waiting = ap (λ (port : PortState). port.sending.waiting) stands.port ∙ sym (ap (λ (port : PortState). port.sending.waiting) owns.port);
          entry = λ busy.
              let left = left_where_busy part.queue.port.sending.todo part.queue.port.sending.waiting busy view.sends
              (ap (λ (port : PortState). port.sending.todo) stands.port) (ap (λ (port : PortState). port.sending.waiting) stands.port) in
              stands.entry refl left ∙ sym (owns.entry refl left);
        };
        receiving = ap (λ (port : PortState). port.receiving) stands.port ∙ sym (ap (λ (port : PortState). port.receiving) owns.port);
      }

  -- two queues that represent one view are the same
  same_part : (forgotten : Bool) (part other : QueuePart) → QueueStands devs plan k side queue forgotten view part → QueueStands devs plan k side queue forgotten view other →
      IsSamePart part other
  same_part forgotten part other stands owns =
      record {
        queue = record { port = same_ports forgotten part other stands owns; closed = stands.closed ∙ sym owns.closed };
        stopped = stands.stopped ∙ sym owns.stopped;
        counters = stands.counters ∙ sym owns.counters;
        accepted = λ session. stands.accepted session ∙ sym (owns.accepted session);
        delivered = λ session. stands.delivered session ∙ sym (owns.delivered session);
      }

-- One pair

module _ (devs : List DevPlan) (plan : PairPlan) (k : ℕ) (site : Site) (pair other : PairState) (stands : PairStands devs plan k site pair) where
  -- the link is the same in both ledgers
  same_link : (own : Site) → IsSamePair pair other → PairStands devs plan k own other → own.pair.link ≡ site.pair.link
  same_link own same owns = sym (ap (λ (bridge : Bridge). bridge.link) owns.bridge) ∙ sym (ap (λ (bridge : Bridge). bridge.link) same.bridge) ∙ ap (λ (bridge : Bridge). bridge.link) stands.bridge

  -- a side that is the same represents the same ledger
  side_stands : (own : Site) → IsSamePair pair other → PairStands devs plan k own other → (side : Side) → SideStandsIn devs plan k site.pair side (queues_of other side)
  side_stands own same owns side =
      let its = stands.sides side in
      let theirs = owns.sides side in
      record {
        none_joined = its.none_joined;
        in_flight = its.in_flight;
        all_queues = theirs.all_queues;
        queues = λ queue below.
            queue_stands devs plan k side queue (view_of site.pair side queue) (has_link_forgotten site.pair.link side) (view_of own.pair side queue)
            (queue_of pair side queue) (queue_of other side queue) ((same.queues side).each queue (subst (λ n. queue < n) (sym its.all_queues) below)) (its.queues queue below)
            (subst (λ (link : Link). QueueStands devs plan k side queue (has_link_forgotten link side) (view_of own.pair side queue) (queue_of other side queue)) (same_link own same owns) (theirs.queues queue below));
      }

  -- so does a pair
  pair_stands : (own : Site) → IsSamePair pair other → PairStands devs plan k own other → PairStands devs plan k site other
  pair_stands own same owns = record { bridge = sym same.bridge ∙ stands.bridge; link = stands.link; sides = side_stands own same owns }

  -- two pairs that represent one ledger are the same
  same_pair : PairStands devs plan k site other → IsSamePair pair other
  same_pair owns =
      record {
        bridge = stands.bridge ∙ sym owns.bridge;
        queues = λ side.
            let its = stands.sides side in
            let theirs = owns.sides side in
            record {
              all = its.all_queues ∙ sym theirs.all_queues;
              each = λ queue below.
                  let among = subst (λ n. queue < n) its.all_queues below in
                  same_part devs plan k side queue (view_of site.pair side queue) (has_link_forgotten site.pair.link side) (queue_of pair side queue) (queue_of other side queue)
                  (its.queues queue among) (theirs.queues queue among);
            };
      }

-- A fabric

-- a fabric that is the same represents the same steps
pub same_stands : (plan : Plan) (steps own : List Step) (fabric other : FabricState) → IsSameFabric fabric other → StandsFor plan steps fabric → StandsFor plan own other → StandsFor plan steps other
same_stands plan steps own fabric other same stands owns =
    record {
      devs = owns.devs;
      all_pairs = owns.all_pairs;
      pairs = λ k below.
          pair_stands plan.devs (pair_plan plan k) k (site_of plan k steps) (pair_of fabric k) (pair_of other k) (stands.pairs k below) (site_of plan k own)
          (same.pairs.each k (subst (λ n. k < n) (sym stands.all_pairs) below)) (owns.pairs k below);
    }

-- so it has made them
pub same_has_made_same : SameHasMadeSame
same_has_made_same plan steps own fabric other same made owns =
    record { declared = made.declared; permitted = made.permitted; stands = same_stands plan steps own fabric other same made.stands owns.stands }

-- two fabrics that have made one list of steps are the same
pub one_list_makes_same : OneListMakesSame
one_list_makes_same plan steps fabric other made owns =
    record {
      devs = made.stands.devs ∙ sym owns.stands.devs;
      pairs = record {
        all = made.stands.all_pairs ∙ sym owns.stands.all_pairs;
        each = λ k below.
            let among = subst (λ n. k < n) made.stands.all_pairs below in
            same_pair plan.devs (pair_plan plan k) k (site_of plan k steps) (pair_of fabric k) (pair_of other k) (made.stands.pairs k among) (owns.stands.pairs k among);
      };
    }

-- By a comparison of the pairs

-- what one fabric has made, another of its pairs and devices has made too, if their pairs are the same
pub merged : (fabric other : FabricState) → plan_kept fabric ≡ plan_kept other → MadeSome (plan_kept other) other → AreSamePairs fabric.pairs other.pairs →
    (plan : Plan) (steps : List Step) → HasMade plan steps fabric → HasMade plan steps other
merged fabric other plans some same plan steps made =
    let bare : plan_kept other ≡ bare_plan plan = sym plans ∙ plan_of_standing plan steps fabric made.stands in
    let owns = subst (λ (plan : Plan). StandsFor plan some.steps other) bare some.made.stands in
    record {
      declared = made.declared;
      permitted = made.permitted;
      stands =
          same_stands plan steps some.steps fabric other (record { devs = ap (λ (plan : Plan). plan.devs) plans; pairs = same }) made.stands
          (record { devs = owns.devs; all_pairs = owns.all_pairs; pairs = owns.pairs });
    }

-- Keys

-- so their keys are
pub same_keys : SameKeys
same_keys plan steps fabric other made owns = same_fabric_keys fabric other (one_list_makes_same plan steps fabric other made owns)
