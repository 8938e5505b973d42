-- The steps of a side: its link, its handshake, its registers, and what it writes by hand. Each is the turn of one end
-- of a lane.
use Rattle.std.proofs.Common.{◌≡◌, ℕ, ◌+◌, ◌==◌, Bool, true, false, None, length, refl, sym, ap, ◌∙◌, subst}
use Rattle.std.specs.Prelude.{slice_index, slice_index_or, bit_and}
use Rattle.std.proofs.lemmas.Bool.{not-false, and_parts}
use Rattle.step_kinds.specs.Bits.{has_bit, with_bit, without_bits}
use Rattle.step_kinds.specs.declared.names.LaneName.{LaneName}
use Rattle.step_kinds.specs.declared.names.Side.{Side}
use Rattle.step_kinds.specs.declared.names.Side.TheVariants.{A, B}
use Rattle.step_kinds.specs.declared.plan.Plan.{Plan}
use Rattle.step_kinds.specs.declared.steps.Answer.{Answer}
use Rattle.step_kinds.specs.declared.steps.Answer.TheVariants.{Ok as Done, OkSession, Up, Irq as IrqBits, Offered, Joined}
use Rattle.step_kinds.specs.declared.steps.Label.{Label}
use Rattle.step_kinds.specs.declared.steps.Label.TheVariants.{Pad}
use Rattle.step_kinds.specs.declared.steps.Step.{Step}
use Rattle.step_kinds.specs.declared.steps.Step.TheVariants.{Enable, Train, Break, DropDone, Clean, Offer, Check, Ready, Join, Irq}
use Rattle.ledger_model.specs.Handshake.{pad_in, check_refusal}
use Rattle.pair_model.specs.Pads.{offers, pad_index}
use Rattle.ledger_model.specs.Ledger.{PairPart, side_of, link_up, posts, with_side_part}
use Rattle.pair_model.specs.Link.{is_down, enabled_link, enable_refusal, train_refusal, cut_refusal, drop_refusal, clean_refusal}
use Rattle.ledger_model.specs.LinkSteps.{fresh_lane}
use Rattle.pair_model.specs.declared.LinkState.TheVariants.{Down as LinkIsDown, Up as LinkIsUp}
use Rattle.pair_model.specs.declared.LinkRefusal.TheVariants.{NotDown, Dirty, NotEnabled, NotUp, NotClosing}
use Rattle.pair_model.specs.Pads.{links_pad}
use Rattle.pair_model.specs.Plans.{pair_plan, side_plan}
use Rattle.ledger_laws.specs.Laws.{IsOrdinaryOn}
use Rattle.ledger_laws.proofs.Offers.{offer-is_pad, offer-no_link}
use Rattle.ledger_laws.proofs.Outcomes.{passed, refused_passed}
use Rattle.ledger_laws.proofs.walk.Cases.{trained, broken, dropped, cleaned, offering, next_offer, readied, ready_pad, joining}
use Rattle.ledger_model.specs.Receiving.{closes}
use Rattle.ledger_laws.proofs.walk.Sight.{Sight, each_way, with_up, end-own, Role, end_at, with_enabled, posted, side_at, by_role, sight, sight-posts, with_number, ReadyQueues, JoinedQueues, ClosedQueues, OffersMade, PendingBells, MaskedBells}
use Rattle.ledger_laws.proofs.walk.Turn.{MayTrain, IsForeign, is_handshake, forgotten, dropped_end, turned, Enables, Trains, Breaks, Drops, Forgets, Offers, Checks, Readies, Joins, Shuts, Says, TakesBells, Masks}
use Rattle.ledger_laws.proofs.walk.News.{Tells, looked_news}
use Rattle.ledger_laws.proofs.walk.Tells.{is_read, tells_no, tells_train, tells_break, tells_drop, tells_check, tells_irq}
use Rattle.ledger_laws.proofs.walk.TurnAt.{TurnAt, shown_as}

module _ (plan : Plan) (lane : LaneName) (pair : PairPart) where
  abbrev Now : Sight
  Now = sight lane.from lane.queue pair

  -- The link

  pub enable : (p : ℕ) (side : Side) → enable_refusal pair.link side ≡ None → TurnAt plan lane pair (Enable p side) (record { answer = Done; after = record pair { link = enabled_link pair.link side } })
  enable p side = by_role lane.from (λ s. enable_refusal pair.link s ≡ None → TurnAt plan lane pair (Enable p s) (record { answer = Done; after = record pair { link = enabled_link pair.link s } })) each side
    where
      each : (e : Role) → enable_refusal pair.link (side_at lane.from e) ≡ None
          → TurnAt plan lane pair (Enable p (side_at lane.from e)) (record { answer = Done; after = record pair { link = enabled_link pair.link (side_at lane.from e) } })
      each e none =
          let a = refused_passed _ NotDown _ none in
          let b = refused_passed _ Dirty _ a.1 in
          shown_as plan lane pair (Enable p (side_at lane.from e)) Done (record pair { link = enabled_link pair.link (side_at lane.from e) }) (with_enabled e true Now)
          (each_way (λ f r. sight f lane.queue (record pair { link = enabled_link pair.link (side_at f r) }) ≡ with_enabled r true (sight f lane.queue pair)) refl refl refl refl lane.from e)
          (turned (Enables e (record { down = not-false _ a.0; clean = ap (λ own. own.clean) (end-own lane.from lane.queue pair e) ∙ not-false _ b.0 }))
          (tells_no plan lane Now.lane (Enable p (side_at lane.from e)) Done refl))

  pub train : (p : ℕ) → p ≡ lane.pair → train_refusal pair.link ≡ None → TurnAt plan lane pair (Train p) (record { answer = OkSession (pair.link.session + 1); after = trained pair })
  train p same none =
      let a = refused_passed _ NotDown _ none in
      let b = refused_passed _ NotEnabled _ a.1 in
      let both = and_parts _ _ (not-false _ b.0) in
      shown_as plan lane pair (Train p) _ (trained pair) _ (looks_so lane.from)
      (turned (Trains (agreed lane.from (not-false _ a.0) both.0 both.1)) (tells_train plan lane Now.lane p same (pair.link.session + 1)))
    where
      looks_so : (f : Side) → sight f lane.queue (trained pair) ≡ record (sight f lane.queue pair) { state = LinkIsUp; session = pair.link.session + 1; lane = fresh_lane }
      looks_so A = refl
      looks_so B = refl

      agreed : (f : Side) → is_down pair.link.state ≡ true → pair.link.enabled.a ≡ true → pair.link.enabled.b ≡ true → MayTrain (sight f lane.queue pair)
      agreed A down a b = record { down = down; sender = a; receiver = b }
      agreed B down a b = record { down = down; sender = b; receiver = a }

  pub break : (p : ℕ) → p ≡ lane.pair → cut_refusal pair.link ≡ None → TurnAt plan lane pair (Break p) (record { answer = Done; after = broken pair })
  break p same none = turned (Breaks (record { up = not-false _ ((refused_passed _ NotUp _ none).0) })) (tells_break plan lane Now.lane p same)

  pub drop : (p : ℕ) → p ≡ lane.pair → drop_refusal pair.link ≡ None → TurnAt plan lane pair (DropDone p) (record { answer = Done; after = dropped pair })
  drop p same none =
      shown_as plan lane pair (DropDone p) Done (dropped pair) _ (looks_so lane.from)
      (turned (Drops (record { closing = not-false _ ((refused_passed _ NotClosing _ none).0) })) (tells_drop plan lane Now.lane p same))
    where
      looks_so : (f : Side) → sight f lane.queue (dropped pair)
          ≡ record (sight f lane.queue pair) { state = LinkIsDown; sender = dropped_end (sight f lane.queue pair).sender; receiver = dropped_end (sight f lane.queue pair).receiver }
      looks_so A = refl
      looks_so B = refl

  pub clean : (p : ℕ) (side : Side) → clean_refusal pair.link ≡ None → TurnAt plan lane pair (Clean p side) (record { answer = Done; after = cleaned pair side })
  clean p side none = by_role lane.from (λ s. TurnAt plan lane pair (Clean p s) (record { answer = Done; after = cleaned pair s })) each side
    where
      each : (e : Role) → TurnAt plan lane pair (Clean p (side_at lane.from e)) (record { answer = Done; after = cleaned pair (side_at lane.from e) })
      each e =
          shown_as plan lane pair (Clean p (side_at lane.from e)) Done (cleaned pair (side_at lane.from e)) (forgotten e Now)
          (each_way (λ f r. sight f lane.queue (cleaned pair (side_at f r)) ≡ forgotten r (sight f lane.queue pair)) refl refl refl refl lane.from e)
          (turned (Forgets e (record { down = not-false _ ((refused_passed _ NotDown _ none).0) })) (tells_no plan lane Now.lane (Clean p (side_at lane.from e)) Done refl))

  -- The handshake

  pub offer : (p : ℕ) (side : Side) → link_up pair ≡ true → ((side_of pair side).offered == length (offers (side_plan (pair_plan plan lane.pair) side))) ≡ false
      → TurnAt plan lane pair (Offer p side) (record { answer = Offered (pad_index (next_offer (pair_plan plan lane.pair) pair side)); after = posts (offering pair side) side (next_offer (pair_plan plan lane.pair) pair side) })
  offer p side up =
      by_role lane.from
      (λ s. ((side_of pair s).offered == length (offers (side_plan (pair_plan plan lane.pair) s))) ≡ false
      → TurnAt plan lane pair (Offer p s) (record { answer = Offered (pad_index (next_offer (pair_plan plan lane.pair) pair s)); after = posts (offering pair s) s (next_offer (pair_plan plan lane.pair) pair s) })) each side
    where
      each : (e : Role) → ((side_of pair (side_at lane.from e)).offered == length (offers (side_plan (pair_plan plan lane.pair) (side_at lane.from e)))) ≡ false
          → TurnAt plan lane pair (Offer p (side_at lane.from e))
          (record {
            answer = Offered (pad_index (next_offer (pair_plan plan lane.pair) pair (side_at lane.from e)));
            after = posts (offering pair (side_at lane.from e)) (side_at lane.from e) (next_offer (pair_plan plan lane.pair) pair (side_at lane.from e));
          })
      each e more =
          let s : Side = side_at lane.from e in
          let label : Label = next_offer (pair_plan plan lane.pair) pair s in
          let count = ap (λ own. own.offered) (end-own lane.from lane.queue pair e) in
          shown_as plan lane pair (Offer p s) _ (posts (offering pair s) s label) (posted e label (with_number OffersMade e ((end_at Now e).offered + 1) Now))
          (sight-posts lane.from lane.queue (offering pair s) e label
          ∙ ap (posted e label)
          (each_way (λ f r. sight f lane.queue (offering pair (side_at f r)) ≡ with_number OffersMade r ((end_at (sight f lane.queue pair) r).offered + 1) (sight f lane.queue pair)) refl refl refl refl lane.from e))
          (turned (Offers e label (record {
            up = up;
            is_next = ap (λ n. slice_index_or (offers (side_plan (pair_plan plan lane.pair) s)) n (Pad 0 0)) (sym count);
            a_pad = offer-is_pad (side_plan (pair_plan plan lane.pair) s) (side_of pair s).offered;
            no_link = offer-no_link (side_plan (pair_plan plan lane.pair) s) (side_of pair s).offered;
            more = ap (λ n. n == length (offers (side_plan (pair_plan plan lane.pair) s))) count ∙ more;
          })) (tells_no plan lane Now.lane (Offer p s) _ refl))

  pub check : (p : ℕ) (side : Side) → p ≡ lane.pair → check_refusal (side_plan (pair_plan plan lane.pair) side) (side_of pair side) (link_up pair) ≡ None
      → TurnAt plan lane pair (Check p side) (record { answer = Up; after = with_side_part pair side (record (side_of pair side) { up = true }) })
  check p side same =
      by_role lane.from
      (λ s. check_refusal (side_plan (pair_plan plan lane.pair) s) (side_of pair s) (link_up pair) ≡ None → TurnAt plan lane pair (Check p s) (record { answer = Up; after = with_side_part pair s (record (side_of pair s) { up = true }) }))
      each side
    where
      each : (e : Role) → check_refusal (side_plan (pair_plan plan lane.pair) (side_at lane.from e)) (side_of pair (side_at lane.from e)) (link_up pair) ≡ None
          → TurnAt plan lane pair (Check p (side_at lane.from e)) (record { answer = Up; after = with_side_part pair (side_at lane.from e) (record (side_of pair (side_at lane.from e)) { up = true }) })
      each e none =
          let s : Side = side_at lane.from e in
          let a = passed _ _ _ none in
          let b = passed _ _ _ a.1 in
          let is = end-own lane.from lane.queue pair e in
          shown_as plan lane pair (Check p s) Up (with_side_part pair s (record (side_of pair s) { up = true })) (with_up e true Now)
          (each_way (λ f r. sight f lane.queue (with_side_part pair (side_at f r) (record (side_of pair (side_at f r)) { up = true })) ≡ with_up r true (sight f lane.queue pair)) refl refl refl refl lane.from e)
          (turned (Checks e (record {
            up = not-false _ a.0;
            not_yet = ap (λ own. own.up) is ∙ b.0;
            passes = ap (λ own. check_refusal (side_plan (pair_plan plan lane.pair) s) own.part (link_up pair)) is ∙ none;
          })) (tells_check plan lane Now.lane p same e))

  pub ready : (p : ℕ) (side : Side) (queue : ℕ) → link_up pair ≡ true → (side_of pair side).up ≡ true
      → TurnAt plan lane pair (Ready p side queue) (record { answer = Done; after = posts (readied pair side queue) side (ready_pad pair side queue) })
  ready p side queue up =
      by_role lane.from (λ s. (side_of pair s).up ≡ true → TurnAt plan lane pair (Ready p s queue) (record { answer = Done; after = posts (readied pair s queue) s (ready_pad pair s queue) })) each side
    where
      each : (e : Role) → (side_of pair (side_at lane.from e)).up ≡ true
          → TurnAt plan lane pair (Ready p (side_at lane.from e) queue)
          (record { answer = Done; after = posts (readied pair (side_at lane.from e) queue) (side_at lane.from e) (ready_pad pair (side_at lane.from e) queue) })
      each e checked =
          let s : Side = side_at lane.from e in
          let is = end-own lane.from lane.queue pair e in
          shown_as plan lane pair (Ready p s queue) Done (posts (readied pair s queue) s (ready_pad pair s queue))
          (posted e (Pad links_pad (with_bit (end_at Now e).ready queue)) (with_number ReadyQueues e (with_bit (end_at Now e).ready queue) Now))
          (sight-posts lane.from lane.queue (readied pair s queue) e (ready_pad pair s queue)
          ∙ ap (λ bits. posted e (Pad links_pad (with_bit bits queue)) (sight lane.from lane.queue (readied pair s queue))) (sym (ap (λ own. own.ready) is))
          ∙ ap (posted e (Pad links_pad (with_bit (end_at Now e).ready queue))) (looks_so e))
          (turned (Readies e queue (record { up = up; checked = ap (λ own. own.up) is ∙ checked })) (tells_no plan lane Now.lane (Ready p s queue) Done refl))
        where
          looks_so : (e : Role) → sight lane.from lane.queue (readied pair (side_at lane.from e) queue) ≡ with_number ReadyQueues e (with_bit (end_at Now e).ready queue) Now
          looks_so = each_way (λ f r. sight f lane.queue (readied pair (side_at f r) queue) ≡ with_number ReadyQueues r (with_bit (end_at (sight f lane.queue pair) r).ready queue) (sight f lane.queue pair)) refl refl refl refl lane.from

  pub join : (p : ℕ) (side : Side) (queue : ℕ) → link_up pair ≡ true → has_bit (side_of pair side).ready queue ≡ true → has_bit (pad_in (side_of pair side) links_pad) queue ≡ true
      → TurnAt plan lane pair (Join p side queue) (record { answer = Joined; after = joining pair side queue })
  join p side queue up =
      by_role lane.from
      (λ s. has_bit (side_of pair s).ready queue ≡ true → has_bit (pad_in (side_of pair s) links_pad) queue ≡ true → TurnAt plan lane pair (Join p s queue) (record { answer = Joined; after = joining pair s queue }))
      each side
    where
      each : (e : Role) → has_bit (side_of pair (side_at lane.from e)).ready queue ≡ true → has_bit (pad_in (side_of pair (side_at lane.from e)) links_pad) queue ≡ true
          → TurnAt plan lane pair (Join p (side_at lane.from e) queue) (record { answer = Joined; after = joining pair (side_at lane.from e) queue })
      each e has asked =
          let s : Side = side_at lane.from e in
          let is = end-own lane.from lane.queue pair e in
          shown_as plan lane pair (Join p s queue) Joined (joining pair s queue) (with_number JoinedQueues e (with_bit (end_at Now e).joined queue) Now)
          (each_way (λ f r. sight f lane.queue (joining pair (side_at f r) queue) ≡ with_number JoinedQueues r (with_bit (end_at (sight f lane.queue pair) r).joined queue) (sight f lane.queue pair)) refl refl refl refl lane.from e)
          (turned (Joins e queue (record { up = up; ready = ap (λ own. has_bit own.ready queue) is ∙ has; asked = ap (λ own. has_bit (slice_index own.pads links_pad) queue) is ∙ asked }))
          (tells_no plan lane Now.lane (Join p s queue) Joined refl))

  -- Registers

  pub irq : (p : ℕ) → p ≡ lane.pair → (side : Side)
      → TurnAt plan lane pair (Irq p side) (record {
        answer = IrqBits (without_bits (side_of pair side).pending (side_of pair side).masked);
        after = with_side_part pair side (record (side_of pair side) { pending = bit_and (side_of pair side).pending (side_of pair side).masked });
      })
  irq p same =
      by_role lane.from
      (λ s. TurnAt plan lane pair (Irq p s) (record {
        answer = IrqBits (without_bits (side_of pair s).pending (side_of pair s).masked);
        after = with_side_part pair s (record (side_of pair s) { pending = bit_and (side_of pair s).pending (side_of pair s).masked });
      }))
      (λ e. subst
      (λ own. TurnAt plan lane pair (Irq p (side_at lane.from e)) (record {
        answer = IrqBits (without_bits own.pending own.masked);
        after = with_side_part pair (side_at lane.from e) (record (side_of pair (side_at lane.from e)) { pending = bit_and own.pending own.masked });
      }))
      (end-own lane.from lane.queue pair e)
      (shown_as plan lane pair (Irq p (side_at lane.from e)) (IrqBits (without_bits (end_at Now e).pending (end_at Now e).masked))
      (with_side_part pair (side_at lane.from e) (record (side_of pair (side_at lane.from e)) { pending = bit_and (end_at Now e).pending (end_at Now e).masked }))
      (with_number PendingBells e (bit_and (end_at Now e).pending (end_at Now e).masked) Now)
      (each_way (λ f r. sight f lane.queue (with_side_part pair (side_at f r) (record (side_of pair (side_at f r)) { pending = bit_and (end_at Now e).pending (end_at Now e).masked }))
      ≡ with_number PendingBells r (bit_and (end_at Now e).pending (end_at Now e).masked) (sight f lane.queue pair)) refl refl refl refl lane.from e)
      (turned (TakesBells e) (tells_irq plan lane Now.lane p same e (without_bits (end_at Now e).pending (end_at Now e).masked)))))

  pub mask : (step : Side → Step) → ((side : Side) → is_read (step side) Done ≡ false) → (masked : Side → ℕ) (side : Side)
      → TurnAt plan lane pair (step side) (record { answer = Done; after = with_side_part pair side (record (side_of pair side) { masked = masked side }) })
  mask step unread masked =
      by_role lane.from (λ s. TurnAt plan lane pair (step s) (record { answer = Done; after = with_side_part pair s (record (side_of pair s) { masked = masked s }) }))
      (λ e. shown_as plan lane pair (step (side_at lane.from e)) Done
      (with_side_part pair (side_at lane.from e) (record (side_of pair (side_at lane.from e)) { masked = masked (side_at lane.from e) })) (with_number MaskedBells e (masked (side_at lane.from e)) Now)
      (each_way (λ f r. (bits : ℕ) → sight f lane.queue (with_side_part pair (side_at f r) (record (side_of pair (side_at f r)) { masked = bits })) ≡ with_number MaskedBells r bits (sight f lane.queue pair))
      (λ bits. refl) (λ bits. refl) (λ bits. refl) (λ bits. refl) lane.from e (masked (side_at lane.from e)))
      (turned (Masks e (masked (side_at lane.from e))) (tells_no plan lane Now.lane (step (side_at lane.from e)) Done (unread (side_at lane.from e)))))

  -- a queue is shut
  pub shut : (step : Side → Step) (answer : Answer) (looked : Side → Bool) → ((side : Side) → Tells plan lane Now.lane (record { step = step side; answer = answer }) (looked_news (looked side)))
      → (queue : ℕ) (side : Side) → TurnAt plan lane pair (step side) (record { answer = answer; after = closes pair side queue })
  shut step answer looked told queue =
      by_role lane.from (λ s. TurnAt plan lane pair (step s) (record { answer = answer; after = closes pair s queue }))
      (λ e. shown_as plan lane pair (step (side_at lane.from e)) answer (closes pair (side_at lane.from e) queue) (with_number ClosedQueues e (with_bit (end_at Now e).closed queue) Now)
      (each_way (λ f r. sight f lane.queue (closes pair (side_at f r) queue) ≡ with_number ClosedQueues r (with_bit (end_at (sight f lane.queue pair) r).closed queue) (sight f lane.queue pair)) refl refl refl refl lane.from e)
      (turned (Shuts e queue (looked (side_at lane.from e))) (told (side_at lane.from e))))

  -- a write by hand
  pub say : (step : Side → Step) → ((side : Side) → is_read (step side) Done ≡ false) → (label : Label) → ((e : Role) → IsForeign lane.queue e label)
      → ((side : Side) → IsOrdinaryOn lane.pair (step side) → is_handshake label ≡ false) → (after : Side → PairPart)
      → ((e : Role) → sight lane.from lane.queue (after (side_at lane.from e)) ≡ posted e label Now) → (side : Side)
      → TurnAt plan lane pair (step side) (record { answer = Done; after = after side })
  say step unread label foreign ordinary after looks_so =
      by_role lane.from (λ s. TurnAt plan lane pair (step s) (record { answer = Done; after = after s }))
      (λ e. shown_as plan lane pair (step (side_at lane.from e)) Done (after (side_at lane.from e)) _ (looks_so e)
      (turned (Says e label (record { foreign = foreign e; no_handshake = ordinary (side_at lane.from e) }))
      (tells_no plan lane Now.lane (step (side_at lane.from e)) Done (unread (side_at lane.from e)))))
