-- Every step: a fabric answers as the ledger says, and then represents one step more.
use Rattle.std.proofs.Common.{◌≡◌, ℕ, ◌≤◌, ◌==◌, Bool, true, false, None, List, [], ◌∷◌, ◌++◌, refl, sym, ap, ◌∙◌, subst, ⊎_elim}
use Rattle.std.specs.Prelude.{if◌then◌else◌}
use Rattle.std.specs.List.{AllByRecursion}
use Rattle.std.proofs.lemmas.Bool.{eq-eqb, true≢false}
use Rattle.step_kinds.specs.Bits.{has_bit}
use Rattle.step_kinds.specs.Sides.{other_side}
use Rattle.step_kinds.specs.Subject.{subject_of}
use Rattle.step_kinds.specs.declared.names.Side.{Side}
use Rattle.step_kinds.specs.declared.names.Side.TheVariants.{A, B}
use Rattle.step_kinds.specs.declared.plan.DevPlan.{DevPlan}
use Rattle.step_kinds.specs.declared.plan.PairPlan.{PairPlan}
use Rattle.step_kinds.specs.declared.plan.Plan.{Plan}
use Rattle.step_kinds.specs.declared.steps.Answer.TheVariants.{Up}
use Rattle.step_kinds.specs.declared.steps.Step.{Step}
use Rattle.step_kinds.specs.declared.steps.Step.TheVariants.{Enable, Train, Break, DropDone, Clean, Offer, Check, Ready, Join, Begin, QpDown, Xbegin, Post, Land, Look, Copy, Clear, Ack, Wake, Irq, Mask, Unmask, Spad, Poke, ShowMem, ShowPad, ShowQueue, Relay, Xnext}
use Rattle.pair_model.specs.DeclaredPlans.{IsDeclared, IsPair, IsPairOf, IsPermitted, SizesFit}
use Rattle.pair_model.specs.Plans.{pair_plan, side_plan}
use Rattle.ledger_laws.proofs.Facade.{joined_means_agreement, up_side_agrees}
use Rattle.ledger_laws.specs.Laws.{IsOrdinaryOn}
use Rattle.ledger_model.specs.Handshake.{check_refusal}
use Rattle.ledger_model.specs.Ledger.{PairPart, link_up, side_of, with_side_part}
use Rattle.ledger_model.specs.Next.{pair_next, read_next}
use Rattle.ledger_model.specs.Outcome.{Outcome, decided}
use Rattle.ledger_model.specs.Reading.{by_bytes, by_ledger}
use Rattle.ledger_model.specs.Memory.{Site, bytes_of_site, memory_of, site_from, site_next, site_of, fresh_site}
use Rattle.fabric_rule.specs.Laws.{EachStepStands}
use Rattle.fabric_rule.specs.StandsFor.{PairStands}
use Rattle.fabric_rule.proofs.Aside.{poke_follows, show_mem_follows, show_queue_follows, spad_follows}
use Rattle.fabric_rule.proofs.BeginSteps.{begin_follows, qpdown_follows, xbegin_follows}
use Rattle.fabric_rule.proofs.BothReadings.{bytes_say_the_ledger, sites_are_the_ledger}
use Rattle.fabric_rule.proofs.CopySteps.{copy_follows}
use Rattle.fabric_rule.proofs.Follows.{Follows, follows_if, made_by_bytes, pages_in, spare_in}
use Rattle.fabric_rule.proofs.GivingBack.{ack_follows, clear_follows}
use Rattle.fabric_rule.proofs.GoingOn.{wake_follows}
use Rattle.fabric_rule.proofs.Handshake.{check_follows, join_follows, offer_follows, ready_follows}
use Rattle.fabric_rule.proofs.LandSteps.{land_follows}
use Rattle.fabric_rule.proofs.Links.{break_follows, clean_follows, drop_follows, enable_follows, train_follows}
use Rattle.fabric_rule.proofs.LookSteps.{look_follows}
use Rattle.fabric_rule.proofs.OneQueue.{Standing, kept}
use Rattle.fabric_rule.proofs.PostingNext.{post_follows}
use Rattle.fabric_rule.proofs.Registers.{irq_follows, mask_follows, show_pad_follows, unmask_follows}
use Rattle.fabric_rule.specs.Moves.{move_of}

-- what a log says of sizes: they fit where a queue is joined, and the peer's fits where a check comes up
pub record SizesKnown (plan : PairPlan) (site : Site) : Type 0 where
  pub joined : (side : Side) (queue : ℕ) → has_bit (side_of site.pair side).joined queue ≡ true → SizesFit plan
  pub checked : (side : Side) → check_refusal (side_plan plan side) (side_of site.pair side) (link_up site.pair) ≡ None → (side_plan plan (other_side side)).size ≤ (side_plan plan side).cap

module _ (plan : Plan) where
  abbrev Follow : Step → Type 0
  Follow step =
      (now : Standing plan.devs (pair_plan plan (subject_of step)) (subject_of step)) → SizesKnown (pair_plan plan (subject_of step)) now.site → IsPermitted plan step
      → Follows plan.devs (pair_plan plan (subject_of step)) (subject_of step) now.site step (made_by_bytes plan.devs (pair_plan plan (subject_of step)) now.site step)
      (move_of plan.devs (kept now) step)

  by_bytes_follows : (step : Step) → Follow step
  by_bytes_follows (Enable k side) now sizes may = enable_follows plan.devs (pair_plan plan k) k now.site now.pages now.spare now.queues now.link now.sides side
  by_bytes_follows (Train k) now sizes may = train_follows plan.devs (pair_plan plan k) k now.site now.pages now.spare now.queues now.link now.sides
  by_bytes_follows (Break k) now sizes may = break_follows plan.devs (pair_plan plan k) k now.site now.pages now.spare now.queues now.link now.sides
  by_bytes_follows (DropDone k) now sizes may = drop_follows plan.devs (pair_plan plan k) k now.site now.pages now.spare now.queues now.link now.sides
  by_bytes_follows (Clean k side) now sizes may = clean_follows plan.devs (pair_plan plan k) k now.site now.pages now.spare now.queues now.link now.sides side
  by_bytes_follows (Offer k side) now sizes may = offer_follows plan.devs (pair_plan plan k) k now.site now.pages now.spare now.queues now.link now.sides side
  by_bytes_follows (Check k side) now sizes may = check_follows plan.devs (pair_plan plan k) k now.site now.pages now.spare now.queues now.link now.sides side now.declared (sizes.checked side)
  by_bytes_follows (Ready k side queue) now sizes may = ready_follows plan.devs (pair_plan plan k) k now.site now.pages now.spare now.queues now.link now.sides side queue
  by_bytes_follows (Join k side queue) now sizes may = join_follows plan.devs (pair_plan plan k) k now.site now.pages now.spare now.queues now.link now.sides side queue
  by_bytes_follows (Begin k side queue frame) now sizes may = begin_follows now side queue frame may.0.among (sizes.joined side queue)
  by_bytes_follows (QpDown k side queue) now sizes may = qpdown_follows now side queue may.among (sizes.joined side queue)
  by_bytes_follows (Xbegin k side queue dev dst kind payload) now sizes may =
      xbegin_follows now side queue dev dst kind payload may.0.among may.1.declared (record { its_pair = may.1.its_pair; its_side = may.1.its_side; its_queue = may.1.its_queue }) (sizes.joined side queue)
  by_bytes_follows (Post k side queue) now sizes may = post_follows now side queue may.among
  by_bytes_follows (Land k side place) now sizes may = land_follows now place side
  by_bytes_follows (Look k side queue) now sizes may = look_follows now side queue may.among (sizes.joined side queue)
  by_bytes_follows (Copy k side queue) now sizes may = copy_follows now side queue may.among
  by_bytes_follows (Clear k side queue) now sizes may = clear_follows now side queue may.among
  by_bytes_follows (Ack k side queue) now sizes may = ack_follows now side queue may.among
  by_bytes_follows (Wake k side queue dev) now sizes may = wake_follows now side queue dev may.0.among may.1.declared (record { its_pair = may.1.its_pair; its_side = may.1.its_side; its_queue = may.1.its_queue })
  by_bytes_follows (Irq k side) now sizes may = irq_follows plan.devs (pair_plan plan k) k now.site now.pages now.spare now.queues now.link now.sides k side
  by_bytes_follows (Mask k side bits) now sizes may = mask_follows plan.devs (pair_plan plan k) k now.site now.pages now.spare now.queues now.link now.sides k side bits
  by_bytes_follows (Unmask k side bits) now sizes may = unmask_follows plan.devs (pair_plan plan k) k now.site now.pages now.spare now.queues now.link now.sides k side bits
  by_bytes_follows (Spad k side i value) now sizes may = spad_follows plan.devs (pair_plan plan k) k now.site now.pages now.spare now.queues now.link now.sides side i value
  by_bytes_follows (Poke k side window offset bytes) now sizes may = poke_follows plan.devs (pair_plan plan k) k now.site now.pages now.spare now.queues now.link now.sides side window offset bytes may.1
  by_bytes_follows (ShowMem k side at len) now sizes may = show_mem_follows plan.devs (pair_plan plan k) k now.site now.pages now.spare now.queues now.link now.sides side at len may.1
  by_bytes_follows (ShowPad k side i) now sizes may = show_pad_follows plan.devs (pair_plan plan k) k now.site now.pages now.spare now.queues now.link now.sides k side i
  by_bytes_follows (ShowQueue k side place) now sizes may = show_queue_follows plan.devs (pair_plan plan k) k now.site now.pages now.spare now.queues now.link now.sides side place
  by_bytes_follows (Relay k side queue switch port) now sizes may = absurd may
  by_bytes_follows (Xnext k side queue dev) now sizes may = absurd may

  -- the steps that are permitted are ordinary on an ordinary pair
  is_ordinary : (k : ℕ) → (pair_plan plan k).raw ≡ false → (step : Step) → IsPermitted plan step → IsOrdinaryOn k step
  is_ordinary k no_raw (Spad p side i value) may on =
      ⊎_elim (λ own. own) (λ raw. absurd (true≢false (sym raw ∙ ap (λ j. (pair_plan plan j).raw) on ∙ no_raw))) may.1.free
  is_ordinary k no_raw (Poke p side window offset bytes) may on = true≢false (sym may.1.raw ∙ ap (λ j. (pair_plan plan j).raw) on ∙ no_raw)
  is_ordinary k no_raw step may on = tt

  are_ordinary : (k : ℕ) → (pair_plan plan k).raw ≡ false → (steps : List Step) → AllByRecursion (IsPermitted plan) steps → AllByRecursion (IsOrdinaryOn k) steps
  are_ordinary k no_raw [] may = tt
  are_ordinary k no_raw (step ∷ steps) may = (is_ordinary k no_raw step may.0, are_ordinary k no_raw steps may.1)

  all_last : (steps : List Step) (step : Step) → AllByRecursion (IsPermitted plan) steps → IsPermitted plan step → AllByRecursion (IsPermitted plan) (steps ++ step ∷ [])
  all_last [] step all own = (own, tt)
  all_last (first ∷ steps) step all own = (all.0, all_last steps step all.1 own)

  -- a site of one step more
  site_last : (devs : List DevPlan) (pair : PairPlan) (k : ℕ) (site : Site) (steps : List Step) (step : Step)
      → site_from devs pair k site (steps ++ step ∷ []) ≡ (if subject_of step == k then site_next devs pair (site_from devs pair k site steps) step else site_from devs pair k site steps)
  site_last devs pair k site [] step = refl
  site_last devs pair k site (first ∷ steps) step = site_last devs pair k (if subject_of first == k then site_next devs pair site first else site) steps step

  one_more : (steps : List Step) (step : Step) → site_of plan (subject_of step) (steps ++ step ∷ []) ≡ site_next plan.devs (pair_plan plan (subject_of step)) (site_of plan (subject_of step) steps) step
  one_more steps step =
      site_last plan.devs (pair_plan plan (subject_of step)) (subject_of step) (fresh_site (pair_plan plan (subject_of step))) steps step
      ∙ ap (λ b. if b then site_next plan.devs (pair_plan plan (subject_of step)) (site_of plan (subject_of step) steps) step else site_of plan (subject_of step) steps) (eq-eqb (subject_of step) (subject_of step) refl)

  -- a check that passes brings its side up
  up_then : (side : Side) (pair : PairPart) → (side_of (with_side_part pair side (record (side_of pair side) { up = true })) side).up ≡ true
  up_then A pair = refl
  up_then B pair = refl

  sizes_known : (k : ℕ) (steps : List Step) → IsDeclared plan → AllByRecursion (IsPermitted plan) steps → IsPairOf plan k → SizesKnown (pair_plan plan k) (site_of plan k steps)
  sizes_known k steps declared may among = by_raw (pair_plan plan k).raw refl
    where
      own : IsPair (pair_plan plan k)
      own = declared.pairs k among

      half : SizesFit (pair_plan plan k) → (side : Side) → (side_plan (pair_plan plan k) (other_side side)).size ≤ (side_plan (pair_plan plan k) side).cap
      half fits A = fits.1
      half fits B = fits.0

      by_raw : (raw : Bool) → (pair_plan plan k).raw ≡ raw → SizesKnown (pair_plan plan k) (site_of plan k steps)
      by_raw true is = record { joined = λ side queue joined. own.raw is; checked = λ side passed. half (own.raw is) side }
      by_raw false is =
          record {
            joined = λ side queue joined.
                (joined_means_agreement plan (memory_of plan) steps k side queue own (are_ordinary k is steps may)
                (subst (λ (pair : PairPart). has_bit (side_of pair side).joined queue ≡ true) (sites_are_the_ledger plan steps k) joined)).sizes;
            checked = λ side passed.
                (up_side_agrees plan (memory_of plan) (steps ++ Check k side ∷ []) k side own (are_ordinary k is (steps ++ Check k side ∷ []) (all_last steps (Check k side) may among))
                (subst (λ (pair : PairPart). (side_of pair side).up ≡ true) (sites_are_the_ledger plan (steps ++ Check k side ∷ []) k)
                (subst (λ (site : Site). (side_of site.pair side).up ≡ true) (sym (one_more steps (Check k side)))
                (subst (λ refusal. (side_of (decided (site_of plan k steps).pair refusal Up (with_side_part (site_of plan k steps).pair side (record (side_of (site_of plan k steps).pair side) { up = true }))).after side).up ≡ true) (sym passed)
                (up_then side (site_of plan k steps).pair))))).size_fits;
          }

-- the reading of a pair is the same as its bytes
same_outcome : (plan : Plan) (steps : List Step) (step : Step) → IsDeclared plan → AllByRecursion (IsPermitted plan) steps → IsPermitted plan step → IsPairOf plan (subject_of step)
    → made_by_bytes plan.devs (pair_plan plan (subject_of step)) (site_of plan (subject_of step) steps) step
    ≡ pair_next plan.devs (pair_plan plan (subject_of step)) (bytes_of_site (site_of plan (subject_of step) steps)) (site_of plan (subject_of step) steps).pair step
same_outcome plan steps step declared may own among = by_raw (pair_plan plan (subject_of step)).raw refl
  where
    site : Site
    site = site_of plan (subject_of step) steps

    by : Bool → Outcome
    by raw =
        read_next plan.devs (pair_plan plan (subject_of step))
        (if raw then by_bytes (pair_plan plan (subject_of step)) (bytes_of_site (site_of plan (subject_of step) steps)) (site_of plan (subject_of step) steps).pair else by_ledger (pair_plan plan (subject_of step)) (site_of plan (subject_of step) steps).pair)
        (bytes_of_site (site_of plan (subject_of step) steps)) (site_of plan (subject_of step) steps).pair step

    by_raw : (raw : Bool) → (pair_plan plan (subject_of step)).raw ≡ raw → by true ≡ by (pair_plan plan (subject_of step)).raw
    by_raw true is = ap by (sym is)
    by_raw false is = bytes_say_the_ledger plan steps step declared may own among is ∙ ap by (sym is)

-- A pair that represents the permitted steps made answers one more as the ledger does, and then represents it too.
pub each_step_stands : EachStepStands
each_step_stands plan steps step state declared may own among stands = (follows.0, subst (λ (site : Site). PairStands plan.devs (pair_plan plan (subject_of step)) (subject_of step) site (move_of plan.devs state step).after) (sym (one_more plan steps step)) follows.1)
  where
    pair : PairPlan
    pair = pair_plan plan (subject_of step)

    now : Standing plan.devs (pair_plan plan (subject_of step)) (subject_of step)
    now =
        record {
          site = site_of plan (subject_of step) steps;
          pages = pages_in state.bridge;
          spare = spare_in state.bridge;
          queues = state.queues;
          link = stands.link;
          sides = stands.sides;
          declared = declared.pairs (subject_of step) among;
        }

    follows : Follows plan.devs (pair_plan plan (subject_of step)) (subject_of step) (site_of plan (subject_of step) steps) step
        (pair_next plan.devs (pair_plan plan (subject_of step)) (bytes_of_site (site_of plan (subject_of step) steps)) (site_of plan (subject_of step) steps).pair step) (move_of plan.devs state step)
    follows =
        subst (λ (made : Outcome). Follows plan.devs (pair_plan plan (subject_of step)) (subject_of step) (site_of plan (subject_of step) steps) step made (move_of plan.devs state step))
        (same_outcome plan steps step declared may own among)
        (follows_if plan.devs (pair_plan plan (subject_of step)) (subject_of step) (site_of plan (subject_of step) steps) step
        (made_by_bytes plan.devs (pair_plan plan (subject_of step)) (site_of plan (subject_of step) steps) step) state stands
        (by_bytes_follows plan step now (sizes_known plan (subject_of step) steps declared may among) own))
