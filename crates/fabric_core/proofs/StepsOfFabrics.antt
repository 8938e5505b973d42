-- What a fabric that represents steps lets its pairs do, and what it represents after one more.
use Rattle.std.proofs.Common.{◌≡◌, ◌≢◌, ◌∙◌, ℕ, ◌<◌, Bool, true, false, List, [], ◌∷◌, ◌++◌, map, length, refl, sym, ap, subst, arith, ext_get_or, get_or-set_other, get_or-set_same, length-set, set, slice_index_or, Result, Ok, Err, IfOk, OnOk, OnErr, IsErr, inl, inr, ◌⊎◌}
use Rattle.std.specs.List.{AllByRecursion}
use Rattle.std.proofs.lemmas.Bool.{cases_eq, true≢false}
use Rattle.std.proofs.lemmas.List.{get_or-map, length-map}
use Rattle.std.proofs.Math.Seq.{map-set_same}
use Rattle.step_kinds.specs.Bits.{has_bit}
use Rattle.step_kinds.specs.Subject.{subject_of}
use Rattle.step_kinds.specs.declared.names.Side.{Side}
use Rattle.step_kinds.specs.declared.names.Side.TheVariants.{A, B}
use Rattle.step_kinds.specs.declared.plan.DevPlan.{DevPlan}
use Rattle.step_kinds.specs.declared.plan.PairPlan.{PairPlan}
use Rattle.step_kinds.specs.declared.plan.Plan.{Plan}
use Rattle.step_kinds.specs.declared.steps.Answer.{Answer}
use Rattle.step_kinds.specs.declared.steps.Answer.TheVariants.{Up}
use Rattle.step_kinds.specs.declared.steps.Step.{Step}
use Rattle.step_kinds.specs.declared.steps.Step.TheVariants.{Check, Ready, Join, Begin, QpDown, Xbegin, Post, Look, Copy, Clear, Ack, Wake, Spad, Poke, ShowMem, ShowPad, Relay, Xnext}
use Rattle.pair_model.specs.Both.{Both, at_side}
use Rattle.pair_model.specs.DeclaredPlans.{Agree, IsDeclared, IsPair, IsPairOf, IsPermitted, IsPoke, IsQueueOf, IsShown, SizesFit}
use Rattle.pair_model.specs.Plans.{no_pair, pair_plan, side_plan}
use Rattle.pair_model.proofs.Facade.{permitted_by_other, queue_of_other}
use Rattle.ledger_laws.proofs.Facade.{answers_are_right, are_ordinary, has_sides, joined_means_agreement, laws_hold, log_of-last, no_ordinary_ver_differs_or_long, up_means_agreement}
use Rattle.step_kinds.specs.Answers.{is_made}
use Rattle.ledger_model.specs.Ledger.{PairPart, side_of}
use Rattle.ledger_model.specs.Log.{ledger_of}
use Rattle.ledger_model.specs.Next.{pair_next}
use Rattle.ledger_model.specs.Memory.{Site, bytes_of_site, memory_of, site_of}
use Rattle.ledger_laws.proofs.Facade.{memories_keep_pairs_apart, site_of-elsewhere, sites_are_the_ledger, steps_of_log}
use Rattle.bridge_pair.specs.Bridge.{Bridge, book_of}
use Rattle.plan_numbers.specs.Memories.{WindowsFit}
use Rattle.frame_ring.specs.PortView.{FitsRings}
use Rattle.hand_shake.specs.Checks.{check_answer}
use Rattle.hand_shake.specs.declared.CheckAnswer.TheVariants.{Up as ComesUp}
use Rattle.fabric_rule.specs.Answers.{of_check}
use Rattle.fabric_rule.specs.Parts.{PairState, QueuePart, plain_bridge, plain_pair}
use Rattle.fabric_rule.specs.StandsFor.{PairStands, SideStandsIn, bridge_for}
use Rattle.fabric_rule.proofs.Facade.{each_step_stands}
use Rattle.fabric_core.specs.Fabric.{FabricState, StandsFor, bare_plan, may_want_memory, no_state, pair_of, plain, plan_kept}
use Rattle.fabric_core.specs.Fabrics.{IsFabric, fabric_seen}
use Rattle.fabric_core.specs.Parts.{BridgeAgrees, CanMake}
use Rattle.fabric_core.specs.declared.fabric.Fabric.TheInside.{Inside}
use Rattle.fabric_core.proofs.RefusedMoves.{refused_left}
use Rattle.fabric_core.specs.Lawful.{IsLawful}
use Rattle.fabric_core.specs.FabricStep.{HasStepped}
use Rattle.fabric_core.specs.StepCalls.{HasMadeStep}
use Rattle.fabric_core.specs.FrameDue.{rule_answer}
use Rattle.fabric_core.specs.Wants.{MayWant}
use Rattle.fabric_core.specs.LogClauses.{HasMade, IsAnswered, IsLikely, log_after}
use Rattle.fabric_rule.specs.Moves.{move_of}

-- A pair that differs in promises alone

same_bridge : (old new : PairState) → plain_pair new ≡ plain_pair old → plain_bridge new.bridge ≡ plain_bridge old.bridge
same_bridge old new same = ap (λ (pair : PairState). pair.bridge) same

-- A pair that differs in promises alone from one that represents some steps represents them too.
pub stands_plain : (devs : List DevPlan) (plan : PairPlan) (k : ℕ) (site : Site) (old new : PairState) → plain_pair new ≡ plain_pair old → PairStands devs plan k site old → PairStands devs plan k site new
stands_plain devs plan k site old new same stands =
    record {
      bridge = same_bridge old new same ∙ stands.bridge;
      link = stands.link;
      sides = λ side.
          subst (λ (queues : Both (List QueuePart)). SideStandsIn devs plan k site.pair side (at_side queues side)) (sym (ap (λ (pair : PairState). pair.queues) same)) (stands.sides side);
    }

-- The plan of a fabric

-- A pair that represents steps on one of a plan's pairs has that pair's plan in its bridge.
pub plan_of_pair : (devs : List DevPlan) (plan : PairPlan) (k : ℕ) (site : Site) (state : PairState) → PairStands devs plan k site state → state.bridge.plan ≡ plan
plan_of_pair devs plan k site state stands = ap (λ (bridge : Bridge). bridge.plan) stands.bridge

-- A fabric that represents steps of a plan keeps that plan's pairs and devices, and nothing else of it.
pub plan_of_standing : (plan : Plan) (steps : List Step) (fabric : FabricState) → StandsFor plan steps fabric → plan_kept fabric ≡ bare_plan plan
plan_of_standing plan steps fabric stands =
    ap (λ pairs. record { pairs = pairs; devs = fabric.devs; switches = []; steps = []; traffic = [] }) pairs ∙ ap (λ devs. record { pairs = plan.pairs; devs = devs; switches = []; steps = []; traffic = [] }) stands.devs
  where
    plan_at : PairState → PairPlan
    plan_at pair = pair.bridge.plan

    at_k : (k : ℕ) → k < length (map plan_at fabric.pairs) → slice_index_or (map plan_at fabric.pairs) k no_pair ≡ slice_index_or plan.pairs k no_pair
    at_k k below =
        let among : k < length plan.pairs = omega (arith, length-map fabric.pairs plan_at, stands.all_pairs, below) in
        get_or-map plan_at fabric.pairs k _ no_pair (omega (arith, length-map fabric.pairs plan_at, below))
        ∙ plan_of_pair plan.devs (pair_plan plan k) k (site_of plan k steps) (pair_of fabric k) (stands.pairs k among)

    pairs : map plan_at fabric.pairs ≡ plan.pairs
    pairs = ext_get_or no_pair (map plan_at fabric.pairs) plan.pairs (length-map fabric.pairs plan_at ∙ stands.all_pairs) at_k

-- Steps that a plan permits

-- of the pairs and devices alone, so of the plan
pub queue_of_bare : (plan : Plan) (k : ℕ) (side : Side) (queue : ℕ) → IsQueueOf (bare_plan plan) k side queue → IsQueueOf plan k side queue
queue_of_bare plan k side queue may = queue_of_other (bare_plan plan) plan.switches plan.steps plan.traffic k side queue may

-- A plan permits each step that its pairs and devices alone permit.
pub permitted_bare : (plan : Plan) (step : Step) → IsPermitted (bare_plan plan) step → IsPermitted plan step
permitted_bare plan step may = permitted_by_other (bare_plan plan) plan.switches plan.steps plan.traffic step may

-- The pairs and devices of a plan that a script can declare are by themselves such a plan.
pub declared_bare : (plan : Plan) → IsDeclared plan → IsDeclared (bare_plan plan)
declared_bare plan declared =
    record {
      few_pairs = declared.few_pairs;
      pairs = declared.pairs;
      few_devices = declared.few_devices;
      devices = λ k below.
          let dev = declared.devices k below in
          record { queue = record { declared = dev.queue.declared; among = dev.queue.among }; address = dev.address; thresholds = dev.thresholds };
      one_on_a_queue = declared.one_on_a_queue;
    }

-- If all items of a list have a property and one more has it too, so have all with that one at the end.
pub all_last : {X : Type 0} (P : X → Type 0) (xs : List X) (x : X) → AllByRecursion P xs → P x → AllByRecursion P (xs ++ x ∷ [])
all_last P [] x all own = (own, tt)
all_last P (first ∷ xs) x all own = (all.0, all_last P xs x all.1 own)

-- The log of one step more

-- An answer that the ledger gives by the pair's site after some steps is that of the log with the step after them.
pub goes_on : (plan : Plan) (steps : List Step) (step : Step) (answer : Answer)
    → answer ≡ (pair_next plan.devs (pair_plan plan (subject_of step)) (bytes_of_site (site_of plan (subject_of step) steps)) (site_of plan (subject_of step) steps).pair step).answer
    → IsAnswered plan steps step answer
goes_on plan steps step answer is =
    log_of-last plan (memory_of plan) steps step
    ∙ ap (λ given. log_after plan steps ++ record { step = step; answer = given } ∷ [])
    (ap (λ made. (pair_next plan.devs (pair_plan plan k) (bytes_of_site (site_of plan k made)) (ledger_of plan (memory_of plan) steps k) step).answer) (steps_of_log plan (memory_of plan) steps)
    ∙ ap (λ (pair : PairPart). (pair_next plan.devs (pair_plan plan k) (bytes_of_site (site_of plan k steps)) pair step).answer) (sym (sites_are_the_ledger plan steps k))
    ∙ sym is)
  where
    k : ℕ
    k = subject_of step

-- Agreement

half : (plan : PairPlan) → SizesFit plan → (side : Side) → WindowsFit plan side
half plan fits A = fits.1
half plan fits B = fits.0

joined_book : (bridge other : Bridge) (side : Side) → plain_bridge bridge ≡ other → (book_of bridge side).joined ≡ (book_of other side).joined
joined_book bridge other A same = ap (λ (bridge : Bridge). bridge.books.a.joined) same
joined_book bridge other B same = ap (λ (bridge : Bridge). bridge.books.b.joined) same

joined_there : (plan : PairPlan) (site : Site) (side : Side) → (book_of (bridge_for plan site) side).joined ≡ (side_of site.pair side).joined
joined_there plan site A = refl
joined_there plan site B = refl

module _ (plan : Plan) (steps : List Step) (k : ℕ) (declared : IsDeclared plan) (permitted : AllByRecursion (IsPermitted plan) steps) (among : IsPairOf plan k) (state : PairState)
    (stands : PairStands plan.devs (pair_plan plan k) k (site_of plan k steps) state) where
  pair : PairPlan
  pair = pair_plan plan k

  own : IsPair (pair_plan plan k)
  own = declared.pairs k among

  in_ledger : (side : Side) (queue : ℕ) → has_bit (book_of state.bridge side).joined queue ≡ true → has_bit (side_of (ledger_of plan (memory_of plan) steps k) side).joined queue ≡ true
  in_ledger side queue joined =
      subst (λ (pair : PairPart). has_bit (side_of pair side).joined queue ≡ true) (sites_are_the_ledger plan steps k)
      (ap (λ bits. has_bit bits queue) (sym (joined_book state.bridge (bridge_for (pair_plan plan k) (site_of plan k steps)) side stands.bridge ∙ joined_there (pair_plan plan k) (site_of plan k steps) side)) ∙ joined)

  fits_where_joined : (side : Side) (queue : ℕ) → has_bit (book_of state.bridge side).joined queue ≡ true → (raw : Bool) → (pair_plan plan k).raw ≡ raw → FitsRings (pair_plan plan k)
  fits_where_joined side queue joined true is =
      record { queues = λ no. absurd (true≢false (sym is ∙ no)); windows = λ no. absurd (true≢false (sym is ∙ no)); sizes = own.raw is }
  fits_where_joined side queue joined false is =
      let agree : Agree (pair_plan plan k) = joined_means_agreement plan (memory_of plan) steps k side queue own (are_ordinary plan k is steps permitted) (in_ledger side queue joined) in
      record { queues = λ no. agree.queues; windows = λ no. agree.windows; sizes = agree.sizes }

  check_made : (side : Side) → check_answer state.bridge side ≡ ComesUp → IsAnswered plan steps (Check k side) Up
  check_made side up = goes_on plan steps (Check k side) Up (ap of_check (sym up) ∙ (each_step_stands plan steps (Check k side) state declared permitted among among stands).0)

  fit_where_up : (side : Side) → check_answer state.bridge side ≡ ComesUp → (raw : Bool) → (pair_plan plan k).raw ≡ raw → WindowsFit (pair_plan plan k) side
  fit_where_up side up true is = half (pair_plan plan k) (own.raw is) side
  fit_where_up side up false is =
      (up_means_agreement plan (memory_of plan) steps k side (has_sides plan declared) among
      (are_ordinary plan k is (steps ++ Check k side ∷ []) (all_last (IsPermitted plan) steps (Check k side) permitted among)) (check_made side up)).size_fits

  pub agrees : BridgeAgrees state.bridge
  agrees =
      let plan_is = plan_of_pair plan.devs (pair_plan plan k) k (site_of plan k steps) state stands in
      record {
        joined = λ side queue joined. subst FitsRings (sym plan_is) (fits_where_joined side queue joined (pair_plan plan k).raw refl);
        up = λ side up. subst (λ (pair : PairPlan). WindowsFit pair side) (sym plan_is) (fit_where_up side up (pair_plan plan k).raw refl);
      }

-- What each step needs of its pair

queue_there : (plan : Plan) (k : ℕ) (side : Side) (queue : ℕ) (bridge : Bridge) → bridge.plan ≡ pair_plan plan k → IsQueueOf plan k side queue → queue < (side_plan bridge.plan side).queues
queue_there plan k side queue bridge is may = subst (λ (pair : PairPlan). queue < (side_plan pair side).queues) (sym is) may.among

-- A permitted step finds all that it needs of its bridge, if queues are joined and sides come up only if all fits.
pub can_make : (plan : Plan) (step : Step) (bridge : Bridge) → IsDeclared plan → bridge.plan ≡ pair_plan plan (subject_of step) → BridgeAgrees bridge → IsPermitted plan step → CanMake plan.devs bridge step
can_make plan (Check p side) bridge declared is agree may = agree.up side
can_make plan (Ready p side queue) bridge declared is agree may = queue_there plan p side queue bridge is may
can_make plan (Join p side queue) bridge declared is agree may = queue_there plan p side queue bridge is may
can_make plan (Begin p side queue frame) bridge declared is agree may = (queue_there plan p side queue bridge is may.0, may.1.0)
can_make plan (QpDown p side queue) bridge declared is agree may = (queue_there plan p side queue bridge is may, tt)
can_make plan (Xbegin p side queue dev dst kind payload) bridge declared is agree may = (queue_there plan p side queue bridge is may.0, (may.1.declared, (declared.devices dev may.1.declared).address, may.2))
can_make plan (Post p side queue) bridge declared is agree may = (queue_there plan p side queue bridge is may, tt)
can_make plan (Look p side queue) bridge declared is agree may = (queue_there plan p side queue bridge is may, tt)
can_make plan (Copy p side queue) bridge declared is agree may = (queue_there plan p side queue bridge is may, tt)
can_make plan (Clear p side queue) bridge declared is agree may = (queue_there plan p side queue bridge is may, tt)
can_make plan (Ack p side queue) bridge declared is agree may = (queue_there plan p side queue bridge is may, tt)
can_make plan (Wake p side queue dev) bridge declared is agree may = (queue_there plan p side queue bridge is may.0, tt)
can_make plan (Spad p side i value) bridge declared is agree may = may.1.among
can_make plan (Poke p side window offset bytes) bridge declared is agree may = subst (λ (pair : PairPlan). IsPoke pair side window offset bytes) (sym is) may.1
can_make plan (ShowMem p side at len) bridge declared is agree may = subst (λ (pair : PairPlan). IsShown (side_plan pair side) at len) (sym is) may.1
can_make plan (ShowPad p side i) bridge declared is agree may = may.1
can_make plan step bridge declared is agree may = tt

-- One step more

-- the fabric after a step of the pair with this number, which left it so, promises aside
pub record HasMoved (old new : FabricState) (step : Step) (answer : Answer) : Type 0 where
  pub devs : new.devs ≡ old.devs
  pub all_pairs : length new.pairs ≡ length old.pairs
  pub others : (k : ℕ) → k ≢ subject_of step → pair_of new k ≡ pair_of old k
  pub answer_is : answer ≡ (move_of old.devs (pair_of old (subject_of step)) step).answer
  pub moved : plain_pair (pair_of new (subject_of step)) ≡ plain_pair (move_of old.devs (pair_of old (subject_of step)) step).after

-- A step that a plan permits is made on one of the plan's pairs.
pub pair_among : (plan : Plan) (step : Step) → IsPermitted plan step → IsPairOf plan (subject_of step)
pair_among plan (Ready p side queue) may = may.declared
pair_among plan (Join p side queue) may = may.declared
pair_among plan (Begin p side queue frame) may = may.0.declared
pair_among plan (QpDown p side queue) may = may.declared
pair_among plan (Xbegin p side queue dev dst kind payload) may = may.0.declared
pair_among plan (Post p side queue) may = may.declared
pair_among plan (Look p side queue) may = may.declared
pair_among plan (Copy p side queue) may = may.declared
pair_among plan (Clear p side queue) may = may.declared
pair_among plan (Ack p side queue) may = may.declared
pair_among plan (Wake p side queue dev) may = may.0.declared
pair_among plan (Spad p side i value) may = may.0
pair_among plan (Poke p side window offset bytes) may = may.0
pair_among plan (ShowMem p side at len) may = may.0
pair_among plan (ShowPad p side i) may = may.0
pair_among plan (Relay p side queue switch port) may = absurd may
pair_among plan (Xnext p side queue dev) may = absurd may
pair_among plan step may = may

module _ (plan : Plan) (steps : List Step) (step : Step) (old new : FabricState) (made : HasMade plan steps old) (may : IsPermitted plan step) (answer : Answer) (moves : HasMoved old new step answer) where
  k : ℕ
  k = subject_of step

  among : IsPairOf plan (subject_of step)
  among = pair_among plan step may

  abbrev AnswerAndAfter : List DevPlan → Type 0
  AnswerAndAfter devs =
      (answer ≡ (move_of devs (pair_of old (subject_of step)) step).answer)
      × (plain_pair (pair_of new (subject_of step)) ≡ plain_pair (move_of devs (pair_of old (subject_of step)) step).after)

  by_plan : AnswerAndAfter plan.devs
  by_plan = subst AnswerAndAfter made.stands.devs (moves.answer_is, moves.moved)

  followed : ((move_of plan.devs (pair_of old (subject_of step)) step).answer ≡ (pair_next plan.devs (pair_plan plan (subject_of step)) (bytes_of_site (site_of plan (subject_of step) steps)) (site_of plan (subject_of step) steps).pair step).answer)
      × PairStands plan.devs (pair_plan plan (subject_of step)) (subject_of step) (site_of plan (subject_of step) (steps ++ step ∷ [])) (move_of plan.devs (pair_of old (subject_of step)) step).after
  followed = each_step_stands plan steps step (pair_of old (subject_of step)) made.declared made.permitted may among (made.stands.pairs (subject_of step) among)

  pub step_answered : IsAnswered plan steps step answer
  step_answered = goes_on plan steps step answer (by_plan.0 ∙ followed.0)

  pub step_likely : IsLikely plan step answer
  step_likely ordinary = no_ordinary_ver_differs_or_long plan (memory_of plan) steps step answer ordinary step_answered

  pair_stands : (j : ℕ) → j < length plan.pairs → PairStands plan.devs (pair_plan plan j) j (site_of plan j (steps ++ step ∷ [])) (pair_of new j)
  pair_stands j below = here (cases_eq j (subject_of step)) where
    here : ((j ≡ subject_of step) ⊎ (j ≢ subject_of step)) → PairStands plan.devs (pair_plan plan j) j (site_of plan j (steps ++ step ∷ [])) (pair_of new j)
    here (inl is) =
        subst (λ j. PairStands plan.devs (pair_plan plan j) j (site_of plan j (steps ++ step ∷ [])) (pair_of new j)) (sym is)
        (stands_plain plan.devs (pair_plan plan (subject_of step)) (subject_of step) (site_of plan (subject_of step) (steps ++ step ∷ [])) _ (pair_of new (subject_of step)) by_plan.1 followed.1)
    here (inr other) =
        subst (λ (site : Site). PairStands plan.devs (pair_plan plan j) j site (pair_of new j)) (sym (site_of-elsewhere plan j steps step (λ e. other (sym e))))
        (subst (λ (pair : PairState). PairStands plan.devs (pair_plan plan j) j (site_of plan j steps) pair) (sym (moves.others j other)) (made.stands.pairs j below))

  pub step_made : HasMade plan (steps ++ step ∷ []) new
  step_made =
      record {
        declared = made.declared;
        permitted = all_last (IsPermitted plan) steps step made.permitted may;
        stands = record { devs = moves.devs ∙ made.stands.devs; all_pairs = moves.all_pairs ∙ made.stands.all_pairs; pairs = pair_stands };
      }

-- Where nothing but promises changed it represents the same steps

-- A fabric that differs in promises alone from one that has made some steps has made them too.
pub still_made : (plan : Plan) (steps : List Step) (old new : FabricState) → plain new ≡ plain old → HasMade plan steps old → HasMade plan steps new
still_made plan steps old new same made =
    record {
      declared = made.declared;
      permitted = made.permitted;
      stands = record {
        devs = devs ∙ made.stands.devs;
        all_pairs = lengths ∙ made.stands.all_pairs;
        pairs = λ k below. stands_plain plan.devs (pair_plan plan k) k (site_of plan k steps) (pair_of old k) (pair_of new k) (at_k k (omega (arith, below, made.stands.all_pairs))) (made.stands.pairs k below);
      };
    }
  where
    devs : new.devs ≡ old.devs
    devs = ap (λ (fabric : FabricState). fabric.devs) same

    pairs : map plain_pair new.pairs ≡ map plain_pair old.pairs
    pairs = ap (λ (fabric : FabricState). fabric.pairs) same

    lengths : length new.pairs ≡ length old.pairs
    lengths = sym (length-map new.pairs plain_pair) ∙ ap length pairs ∙ length-map old.pairs plain_pair

    at_k : (k : ℕ) → k < length old.pairs → plain_pair (pair_of new k) ≡ plain_pair (pair_of old k)
    at_k k below =
        sym (get_or-map plain_pair new.pairs k _ (plain_pair no_state) (omega (arith, lengths, below)))
        ∙ ap (λ pairs. slice_index_or pairs k (plain_pair no_state)) pairs
        ∙ get_or-map plain_pair old.pairs k _ (plain_pair no_state) below

-- A fabric with another pair in one's place

abbrev pub with_pair : FabricState → ℕ → PairState → FabricState
with_pair fabric k pair = record fabric { pairs = set fabric.pairs k pair }

-- A fabric in which a step's pair is set to what the step leaves of it, promises aside, has moved by that step.
pub set_moved : (old : FabricState) (step : Step) (pair : PairState) (answer : Answer) → subject_of step < length old.pairs
    → answer ≡ (move_of old.devs (pair_of old (subject_of step)) step).answer → plain_pair pair ≡ plain_pair (move_of old.devs (pair_of old (subject_of step)) step).after
    → HasMoved old (with_pair old (subject_of step) pair) step answer
set_moved old step pair answer below is moved =
    record {
      devs = refl;
      all_pairs = length-set old.pairs (subject_of step) pair;
      others = λ k other. get_or-set_other old.pairs (subject_of step) k pair no_state other;
      answer_is = is;
      moved = ap plain_pair (get_or-set_same old.pairs (subject_of step) pair no_state below) ∙ moved;
    }

-- A fabric with one pair set to another that differs in promises alone is the same, promises aside.
pub set_plain : (old : FabricState) (k : ℕ) (pair : PairState) → plain_pair pair ≡ plain_pair (pair_of old k) → plain (with_pair old k pair) ≡ plain old
set_plain old k pair same = ap (λ pairs. record { devs = old.devs; pairs = pairs }) (map-set_same plain_pair old.pairs k pair no_state same)

-- The laws of every log

-- The laws of every log hold of whatever steps a fabric has made.
pub always_lawful : (plan : Plan) (steps : List Step) (fabric : FabricState) → HasMade plan steps fabric → IsLawful plan steps
always_lawful plan steps fabric made = laws_hold plan (memory_of plan) steps made.declared made.permitted (memories_keep_pairs_apart plan)

-- What a step leaves of a fabric, by what it leaves of its pair

-- it has made some steps of the plan
pub record MadeSome (plan : Plan) (fabric : FabricState) : Type 0 where
  pub steps : List Step
  pub made : HasMade plan steps fabric

-- If a fabric has made some steps of an earlier one's plan, both have the same pairs and devices in their plans.
pub same_plan : (old new : FabricState) → MadeSome (plan_kept old) new → plan_kept new ≡ plan_kept old
same_plan old new some = plan_of_standing (plan_kept old) some.steps new some.made.stands

module _ (old : FabricState) (step : Step) (pair : PairState) (may : IsPermitted (plan_kept old) step) where
  pub permitted_by : (plan : Plan) (steps : List Step) → HasMade plan steps old → IsPermitted plan step
  permitted_by plan steps made = permitted_bare plan step (subst (λ plan. IsPermitted plan step) (plan_of_standing plan steps old made.stands) may)

  pub among_pairs : subject_of step < length old.pairs
  among_pairs = let below = pair_among (plan_kept old) step may in omega (arith, below, length-map old.pairs (λ (pair : PairState). pair.bridge.plan))

  -- The rule answers a permitted step as the log does, by the pair as it is.
  pub rule_answers : (plan : Plan) (steps : List Step) → HasMade plan steps old → IsAnswered plan steps step (rule_answer old step)
  unfolding rule_answer
  rule_answers plan steps made =
      let next = move_of old.devs (pair_of old (subject_of step)) step in
      step_answered plan steps step old (with_pair old (subject_of step) next.after) made (permitted_by plan steps made) next.answer (set_moved old step next.after next.answer among_pairs refl refl)

  pub fabric_moved : {E : Type 0} (result : Result Answer E) → MadeSome (plan_kept old) old → HasMadeStep old.devs step (pair_of old (subject_of step)) pair result
      → HasStepped old (with_pair old (subject_of step) pair) step result
  unfolding rule_answer
  fabric_moved (Ok answer) some moved =
      let moves = set_moved old step pair answer among_pairs moved.answer moved.after in
      let new = with_pair old (subject_of step) pair in
      record {
        answered = λ plan steps made.
            let may = permitted_by plan steps made in
            (step_answered plan steps step old new made may answer moves, step_likely plan steps step old new made may answer moves);
        told = moved.answer;
        right = λ plan steps made.
            let may = permitted_by plan steps made in
            answers_are_right plan (memory_of plan) steps step answer made.declared (all_last (IsPermitted plan) steps step made.permitted may) (step_answered plan steps step old new made may answer moves);
        stands = λ plan steps made. step_made plan steps step old new made (permitted_by plan steps made) answer moves;
        lawful = λ plan steps made. always_lawful plan (steps ++ step ∷ []) new (step_made plan steps step old new made (permitted_by plan steps made) answer moves);
        refused = λ refused. refused_left old step pair (ap is_made (sym moved.answer) ∙ refused) moved.after;
        still_stands = λ plan steps made. tt;
        err = tt;
        wants = moved.wants;
        border = λ plan steps made. tt;
        plan = same_plan old new (record { steps = some.steps ++ step ∷ []; made = step_made (plan_kept old) some.steps step old new some.made may answer moves });
      }
  fabric_moved (Err e) some moved =
      let new = with_pair old (subject_of step) pair in
      let same = set_plain old (subject_of step) pair moved.err in
      record {
        answered = λ plan steps made. tt;
        told = tt;
        right = λ plan steps made. tt;
        stands = λ plan steps made. tt;
        lawful = λ plan steps made. tt;
        refused = tt;
        still_stands = λ plan steps made. still_made plan steps old new same made;
        err = same;
        wants = moved.wants;
        border = λ plan steps made. (rule_answer old step, rule_answers plan steps made, moved.border);
        plan = same_plan old new (record { steps = some.steps; made = still_made (plan_kept old) some.steps old new same some.made });
      }

-- A fabric that has made some steps of a plan has made some after a step more too, even one out of memory.
pub some_made : {E : Type 0} (old new : FabricState) (step : Step) (result : Result Answer E) (plan : Plan) → MadeSome plan old → HasStepped old new step result → MadeSome plan new
some_made old new step (Ok answer) plan some moved = record { steps = some.steps ++ step ∷ []; made = moved.stands plan some.steps some.made }
some_made old new step (Err e) plan some moved = record { steps = some.steps; made = moved.still_stands plan some.steps some.made }

-- A fabric that has made some steps of an earlier one's plan has made some of its own plan.
pub made_itself : (old new : FabricState) → MadeSome (plan_kept old) new → MadeSome (plan_kept new) new
made_itself old new some = subst (λ plan. MadeSome plan new) (sym (same_plan old new some)) some

-- so does what a fabric keeps

-- Each fabric, as the crate keeps it, has made some steps of the plan of its own pairs and devices.
pub some : (kept : Inside) → IsFabric kept → MadeSome (plan_kept (fabric_seen kept)) (fabric_seen kept)
some kept is = record { steps = is.steps; made = record { declared = is.declared; permitted = is.permitted; stands = is.stands } }

-- What is so of every fabric that the crate keeps is so of one that has made some steps of its own plan.
pub from_some : (kept : Inside) → MadeSome (plan_kept (fabric_seen kept)) (fabric_seen kept) → IsFabric kept
from_some kept some = record { declared = some.made.declared; steps = some.steps; permitted = some.made.permitted; stands = some.made.stands }

-- the pair that a step is made on, as it is
pub pair_agrees : (fabric : FabricState) (k : ℕ) → MadeSome (plan_kept fabric) fabric → k < length fabric.pairs → BridgeAgrees (pair_of fabric k).bridge
pair_agrees fabric k some below =
    agrees (plan_kept fabric) some.steps k some.made.declared some.made.permitted (omega (arith, below, length-map fabric.pairs (λ (pair : PairState). pair.bridge.plan))) (pair_of fabric k)
    (some.made.stands.pairs k (omega (arith, below, length-map fabric.pairs (λ (pair : PairState). pair.bridge.plan))))

-- A fabric that has made some steps of its plan gives any permitted step all that it needs of its pair.
pub pair_can : (fabric : FabricState) (step : Step) → MadeSome (plan_kept fabric) fabric → IsPermitted (plan_kept fabric) step → CanMake fabric.devs (pair_of fabric (subject_of step)).bridge step
pair_can fabric step some may =
    let k = subject_of step in
    let among = pair_among (plan_kept fabric) step may in
    can_make (plan_kept fabric) step (pair_of fabric k).bridge some.made.declared
    (plan_of_pair fabric.devs (pair_plan (plan_kept fabric) k) k (site_of (plan_kept fabric) k some.steps) (pair_of fabric k) (some.made.stands.pairs k among))
    (pair_agrees fabric k some (among_pairs fabric step (pair_of fabric k) may)) may
