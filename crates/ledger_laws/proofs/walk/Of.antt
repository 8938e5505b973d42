-- Each step of a pair is one turn of each of its lanes: the only place where all steps are walked for what they do to
-- lanes.
use Rattle.std.proofs.Common.{◌≡◌, ℕ, true, false, List, ◌∷◌, length, refl, sym, ap, ◌∙◌}
use Rattle.std.specs.Prelude.{bit_or}
use Rattle.std.specs.List.{list_all}
use Rattle.std.proofs.lemmas.Bool.{le-ltb, and_parts, cond-false}
use Rattle.step_kinds.specs.Bits.{without_bits}
use Rattle.step_kinds.specs.Subject.{subject_of}
use Rattle.step_kinds.specs.declared.names.LaneName.{LaneName}
use Rattle.step_kinds.specs.declared.names.Side.{Side}
use Rattle.step_kinds.specs.declared.plan.Plan.{Plan}
use Rattle.step_kinds.specs.declared.steps.Answer.TheVariants.{PeerDown, Awake}
use Rattle.step_kinds.specs.declared.steps.Label.TheVariants.{Pad, Raw}
use Rattle.step_kinds.specs.declared.steps.Step.{Step}
use Rattle.step_kinds.specs.declared.steps.Step.TheVariants.{Enable, Train, Break, DropDone, Clean, Offer, Check, Ready, Join, Begin, QpDown, Xbegin, Post, Land, Look, Copy, Clear, Ack, Wake, Irq, Mask, Unmask, Spad, Poke}
use Rattle.ledger_model.specs.Ledger.{PairPart, side_of, lane_of, posts, posts_raw}
use Rattle.ledger_model.specs.Log.{Answered}
use Rattle.ledger_model.specs.Sending.{begun, with_next}
use Rattle.ledger_model.specs.Labels.{labels_of}
use Rattle.ledger_model.specs.Reading.{Reading, by_bytes, by_ledger, reading_of}
use Rattle.lane_model.specs.Lane.{Entry}
use Rattle.step_kinds.specs.declared.plan.PairPlan.{PairPlan}
use Rattle.step_kinds.specs.declared.steps.Label.{Label}
use Rattle.pair_model.specs.Plans.{dev_plan, pair_plan}
use Rattle.pair_model.specs.Sizes.{sizes_of}
use Rattle.pair_model.specs.Ethernet.{ethernet_frame}
use Rattle.pair_model.specs.Headers.{Bytes}
use Rattle.ledger_laws.proofs.LogGrowth.{made_by, left_by}
use Rattle.ledger_laws.proofs.walk.Cases.{enable_cases, train_cases, break_cases, drop_cases, clean_cases, offer_cases, check_cases, ready_cases, join_cases, begin_cases, qpdown_cases, xbegin_cases, post_cases, land_cases, look_cases, copy_cases, clear_cases, ack_cases, wake_cases, sent_frame}
use Rattle.ledger_laws.proofs.walk.Sight.{Sight, Role, Sender, Receiver, sight, sight-posts, sight-posts_raw}
use Rattle.ledger_laws.proofs.walk.Turn.{IsForeign, MayPostNext, on_queue, Turned, turned, Rests, Posts, PostsNext}
use Rattle.ledger_laws.proofs.walk.Tells.{tells_nothing, tells_no, unread-refused, at_receiver, tells_begin, tells_xbegin, tells_look}
use Rattle.ledger_laws.proofs.walk.TurnAt.{TurnAt, ReadsLedger, rests, refusal}
use Rattle.ledger_laws.proofs.walk.SideTurns as sides
use Rattle.ledger_laws.proofs.walk.SendingTurns as sending
use Rattle.ledger_laws.proofs.walk.ReceivingTurns as receiving
use Rattle.ledger_laws.proofs.walk.LandingTurns as landing

module _ (plan : Plan) (lane : LaneName) (bytes : Bytes) (pair : PairPart)
    (todos : (side : Side) (queue : ℕ) → list_all (on_queue queue) (lane_of pair side queue).todo ≡ true) where
  abbrev Now : Sight
  Now = sight lane.from lane.queue pair

  abbrev Own : PairPlan
  Own = pair_plan plan lane.pair

  abbrev Reads : Reading
  Reads = reading_of Own bytes pair

  reads : ReadsLedger plan lane pair Reads
  reads no_raw = cond-false Own.raw (by_bytes Own bytes pair) (by_ledger Own pair) no_raw

  pub turn_of : (step : Step) → subject_of step ≡ lane.pair → Turned plan lane Now (made_by plan lane.pair bytes pair step) (sight lane.from lane.queue (left_by plan lane.pair bytes pair step))
  turn_of (Enable p side) e = enable_cases (TurnAt plan lane pair (Enable p side)) pair side (λ r is. refusal plan lane pair (Enable p side) refl r _ is) (sides.enable plan lane pair p side)
  turn_of (Train p) e = train_cases (TurnAt plan lane pair (Train p)) pair (λ r is. refusal plan lane pair (Train p) refl r _ is) (sides.train plan lane pair p e)
  turn_of (Break p) e = break_cases (TurnAt plan lane pair (Break p)) pair (λ r is. refusal plan lane pair (Break p) refl r _ is) (sides.break plan lane pair p e)
  turn_of (DropDone p) e = drop_cases (TurnAt plan lane pair (DropDone p)) pair (λ r is. refusal plan lane pair (DropDone p) refl r _ is) (sides.drop plan lane pair p e)
  turn_of (Clean p side) e = clean_cases (TurnAt plan lane pair (Clean p side)) pair side (λ r is. refusal plan lane pair (Clean p side) refl r _ is) (sides.clean plan lane pair p side)
  turn_of (Offer p side) e = offer_cases (TurnAt plan lane pair (Offer p side)) (pair_plan plan lane.pair) pair side (λ r is. refusal plan lane pair (Offer p side) refl r _ is) (sides.offer plan lane pair p side)
  turn_of (Check p side) e = check_cases (TurnAt plan lane pair (Check p side)) (pair_plan plan lane.pair) pair side (λ r is. refusal plan lane pair (Check p side) refl r _ is) (sides.check plan lane pair p side e)
  turn_of (Ready p side queue) e = ready_cases (TurnAt plan lane pair (Ready p side queue)) pair side queue (λ r is. refusal plan lane pair (Ready p side queue) refl r _ is) (sides.ready plan lane pair p side queue)
  turn_of (Join p side queue) e = join_cases (TurnAt plan lane pair (Join p side queue)) pair side queue (λ r is. refusal plan lane pair (Join p side queue) refl r _ is) (sides.join plan lane pair p side queue)
  turn_of (Begin p side queue frame) e =
      begin_cases Reads (TurnAt plan lane pair (Begin p side queue frame)) (sizes_of Own side queue) pair side queue frame (λ r is. refusal plan lane pair (Begin p side queue frame) refl r _ is)
      (sending.begin plan lane pair Reads reads (λ s q. Begin p s q frame) (λ s q. begun (sizes_of Own s q) pair s q frame) frame (λ s q. refl) p e
      (λ s q n own. tells_begin plan lane Now.lane p s q frame n own) side queue)
  turn_of (QpDown p side queue) e =
      qpdown_cases Reads (TurnAt plan lane pair (QpDown p side queue)) (sizes_of Own side queue) pair side queue (λ r is. refusal plan lane pair (QpDown p side queue) refl r _ is)
      (sending.qpdown plan lane pair Reads reads p e side queue)
  turn_of (Xbegin p side queue dev dst kind payload) e =
      xbegin_cases Reads (TurnAt plan lane pair (Xbegin p side queue dev dst kind payload)) (sizes_of Own side queue) (dev_plan plan.devs dev) pair side queue dst kind payload
      (λ r is. turned (Rests false) (tells_no plan lane Now.lane (Xbegin p side queue dev dst kind payload) r (unread-refused (Xbegin p side queue dev dst kind payload) r refl is.is)))
      (sending.begin plan lane pair Reads reads (λ s q. Xbegin p s q dev dst kind payload)
      (λ s q. sent_frame Reads (sizes_of Own s q) (dev_plan plan.devs dev) pair s q (ethernet_frame dst (dev_plan plan.devs dev).address kind payload))
      (ethernet_frame dst (dev_plan plan.devs dev).address kind payload) (λ s q. refl) p e (λ s q n own. tells_xbegin plan lane Now.lane p s q dev dst kind payload n own) side queue)
  turn_of (Post p side queue) e =
      post_cases Reads (TurnAt plan lane pair (Post p side queue)) pair side queue (rests plan lane pair (Post p side queue) _ refl)
      (λ label rest next. sending.post plan lane pair Reads reads p e label rest (λ s q. lane_of pair s q) (λ s q. (lane_of pair s q).todo ≡ label ∷ rest)
      (λ s q is. and_parts (on_queue q label) (list_all (on_queue q) rest) (ap (list_all (on_queue q)) (sym is) ∙ todos s q))
      refl
      (λ is. Posts label rest (record { next = is; own = (and_parts (on_queue lane.queue label) (list_all (on_queue lane.queue) rest) (ap (list_all (on_queue lane.queue)) (sym is) ∙ todos lane.from lane.queue)).0 }))
      side queue next)
      (λ entry others label rest idle waits next. sending.post plan lane pair Reads reads p e label rest (λ s q. with_next q (lane_of pair s q) (entry ∷ others))
      (λ s q. MayPostNext q (record Now { lane = lane_of pair s q }) entry others label rest)
      (λ s q may. labelled q (length (lane_of pair s q).sent) entry label rest may.next)
      refl (λ may. PostsNext entry others label rest may)
      side queue (record { idle = idle; waits = waits; next = next; own = (labelled queue (length (lane_of pair side queue).sent) entry label rest next).0 }))
    where
      labelled : (q n : ℕ) (entry : Entry) (label : Label) (rest : List Label) → labels_of q n entry ≡ label ∷ rest → (on_queue q label ≡ true) × (list_all (on_queue q) rest ≡ true)
      labelled q n entry label rest is = and_parts (on_queue q label) (list_all (on_queue q) rest) (ap (list_all (on_queue q)) (sym is) ∙ sending.on_queue-labels q n entry)
  turn_of (Land p side place) e = land_cases (TurnAt plan lane pair (Land p side place)) (pair_plan plan lane.pair) pair side place (λ r is. refusal plan lane pair (Land p side place) refl r _ is) (landing.land plan lane pair p place e side)
  turn_of (Look p side queue) e =
      look_cases Reads (TurnAt plan lane pair (Look p side queue)) pair side queue (λ r is found. receiving.look_found plan lane pair Reads reads todos p side queue r found)
      (receiving.look_none plan lane pair Reads reads todos p e side queue) (receiving.look_ready plan lane pair Reads reads todos p e side queue)
      (λ may. sides.shut plan lane pair (λ s. Look p s queue) PeerDown (λ s. at_receiver lane p s queue) (λ s. tells_look plan lane Now.lane p s queue PeerDown refl refl (at_receiver lane p s queue) refl) queue side)
  turn_of (Copy p side queue) e =
      copy_cases Reads (TurnAt plan lane pair (Copy p side queue)) pair side queue (λ r is. refusal plan lane pair (Copy p side queue) refl r _ is)
      (receiving.copy_part plan lane pair Reads reads todos p e side queue) (receiving.copy_entry plan lane pair Reads reads todos p e side queue)
      (receiving.copy_last plan lane pair Reads reads todos p e side queue)
  turn_of (Clear p side queue) e = clear_cases (TurnAt plan lane pair (Clear p side queue)) pair side queue (λ r is. refusal plan lane pair (Clear p side queue) refl r _ is) (receiving.clear plan lane pair Reads reads todos p e side queue)
  turn_of (Ack p side queue) e = ack_cases Reads (TurnAt plan lane pair (Ack p side queue)) pair side queue (λ r is. refusal plan lane pair (Ack p side queue) refl r _ is) (receiving.ack plan lane pair Reads reads todos p e side queue)
  turn_of (Wake p side queue dev) e =
      wake_cases (TurnAt plan lane pair (Wake p side queue dev)) Reads (dev_plan plan.devs dev) pair side queue (λ r is. refusal plan lane pair (Wake p side queue dev) refl r _ is)
      (turned (Rests false) (tells_no plan lane Now.lane (Wake p side queue dev) Awake refl))
  turn_of (Irq p side) e = sides.irq plan lane pair p e side
  turn_of (Mask p side bits) e = sides.mask plan lane pair (λ s. Mask p s bits) (λ s. refl) (λ s. bit_or (side_of pair s).masked bits) side
  turn_of (Unmask p side bits) e = sides.mask plan lane pair (λ s. Unmask p s bits) (λ s. refl) (λ s. without_bits (side_of pair s).masked bits) side
  turn_of (Spad p side i value) e = sides.say plan lane pair (λ s. Spad p s i value) (λ s. refl) (Pad i value) foreign (λ s above. le-ltb i 12 (above e)) (λ s. posts pair s (Pad i value)) (λ r. sight-posts lane.from lane.queue pair r (Pad i value)) side
    where
      foreign : (e : Role) → IsForeign lane.queue e (Pad i value)
      foreign Sender = refl
      foreign Receiver = refl
  turn_of (Poke p side window offset poked) e = sides.say plan lane pair (λ s. Poke p s window offset poked) (λ s. refl) (Raw window offset (length poked)) foreign (λ s no_poke. absurd (no_poke e))
      (λ s. posts_raw pair s (Raw window offset (length poked)) poked) (λ r. sight-posts_raw lane.from lane.queue pair r (Raw window offset (length poked)) poked) side
    where
      foreign : (e : Role) → IsForeign lane.queue e (Raw window offset (length poked))
      foreign Sender = refl
      foreign Receiver = refl
  turn_of step e = rests plan lane pair step _ refl

-- a step on another pair is no turn at all
pub turn_elsewhere : (plan : Plan) (lane : LaneName) (s : Sight) (made : Answered) → (subject_of made.step ≡ lane.pair → ⊥) → Turned plan lane s made s
turn_elsewhere plan lane s made ne = turned (Rests false) (tells_nothing plan lane s.lane made.step made.answer (λ read. ne))
