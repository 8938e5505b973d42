-- The answer to a step, and the ledger after it.
use Rattle.std.specs.Prelude.{ℕ, true, false, List, [], length, replicate, if◌then◌else◌}
use Rattle.step_kinds.specs.Bits.{all_below}
use Rattle.step_kinds.specs.Subject.{subject_of}
use Rattle.step_kinds.specs.declared.plan.SidePlan.{SidePlan}
use Rattle.step_kinds.specs.declared.plan.PairPlan.{PairPlan}
use Rattle.step_kinds.specs.declared.plan.DevPlan.{DevPlan}
use Rattle.step_kinds.specs.declared.plan.Plan.{Plan}
use Rattle.step_kinds.specs.declared.steps.Step.{Step}
use Rattle.step_kinds.specs.declared.steps.Step.TheVariants.{Enable, Train, Break, DropDone, Clean, Offer, Check, Ready, Join, Begin, QpDown, Xbegin, Post, Land, Look, Copy, Clear, Ack, Wake, Irq, Mask, Unmask, Spad, Poke, ShowMem, ShowPad, ShowQueue, Relay, Xnext}
use Rattle.pair_model.specs.Both.{both_of}
use Rattle.pair_model.specs.Device.{no_counts}
use Rattle.ledger_model.specs.Handshake.{offer_step, check_step, ready_step, join_step}
use Rattle.ledger_model.specs.Ledger.{SidePart, DevPart, Tally, PairPart, updated}
use Rattle.pair_model.specs.Link.{fresh_link}
use Rattle.ledger_model.specs.LinkSteps.{fresh_lane, enable_step, train_step, break_step, drop_step, clean_step}
use Rattle.ledger_model.specs.Outcome.{Outcome, not_here}
use Rattle.pair_model.specs.Headers.{Bytes}
use Rattle.ledger_model.specs.Reading.{Reading, reading_of}
use Rattle.ledger_model.specs.Receiving.{land_step, look_step, copy_step, clear_step, ack_step}
use Rattle.ledger_model.specs.Registers.{irq_step, mask_step, unmask_step, spad_step, poke_step, show_mem_step, show_pad_step, show_queue_step}
use Rattle.ledger_model.specs.Sending.{begin_step, qpdown_step, xbegin_step, post_step, wake_step}
use Rattle.pair_model.specs.Pads.{offers, agreed_pads}
use Rattle.pair_model.specs.Sizes.{sizes_of}
use Rattle.pair_model.specs.Plans.{pair_plan, dev_plan}

-- The start of a pair

-- a side that has done nothing
abbrev pub idle_side : SidePart
idle_side =
    record { up = false; ready = 0; joined = 0; closed = 0; offered = 0; pads = replicate 16 0; pending = 0; masked = 0; flight = []; poked = [] }

-- a side after a whole handshake
abbrev pub agreed_side : SidePlan → SidePlan → SidePart
agreed_side own peer =
    record {
      up = true;
      ready = all_below own.queues;
      joined = all_below own.queues;
      closed = 0;
      offered = length (offers own);
      pads = agreed_pads peer;
      pending = 0;
      masked = 0;
      flight = [];
      poked = [];
    }

abbrev pub fresh_dev : DevPart
fresh_dev = record { stopped = false; counters = no_counts }

abbrev pub no_tally : Tally
no_tally = record { accepted = 0; delivered = 0 }

-- a pair before any step
abbrev pub fresh_pair : PairPlan → PairPart
fresh_pair plan =
    record {
      link = fresh_link plan.up;
      sides = (if plan.up then record { a = agreed_side plan.a plan.b; b = agreed_side plan.b plan.a } else both_of idle_side);
      lanes = both_of (λ queue. fresh_lane);
      devs = both_of (λ queue. fresh_dev);
      tallies = both_of (λ queue session. no_tally);
    }

-- The answer to a step on a pair, and the pair after it

-- the outcome of a step by what it reads of rings; `bytes` are what memories show
abbrev pub read_next : List DevPlan → PairPlan → Reading → Bytes → PairPart → Step → Outcome
read_next devs plan reading bytes pair (Enable p side) = enable_step pair side
read_next devs plan reading bytes pair (Train p) = train_step pair
read_next devs plan reading bytes pair (Break p) = break_step pair
read_next devs plan reading bytes pair (DropDone p) = drop_step pair
read_next devs plan reading bytes pair (Clean p side) = clean_step pair side
read_next devs plan reading bytes pair (Offer p side) = offer_step plan pair side
read_next devs plan reading bytes pair (Check p side) = check_step plan pair side
read_next devs plan reading bytes pair (Ready p side queue) = ready_step pair side queue
read_next devs plan reading bytes pair (Join p side queue) = join_step pair side queue
read_next devs plan reading bytes pair (Begin p side queue frame) = begin_step (sizes_of plan side queue) reading pair side queue frame
read_next devs plan reading bytes pair (QpDown p side queue) = qpdown_step (sizes_of plan side queue) reading pair side queue
read_next devs plan reading bytes pair (Xbegin p side queue dev dst kind payload) = xbegin_step (sizes_of plan side queue) reading (dev_plan devs dev) pair side queue dst kind payload
read_next devs plan reading bytes pair (Post p side queue) = post_step reading pair side queue
read_next devs plan reading bytes pair (Land p side place) = land_step plan pair side place
read_next devs plan reading bytes pair (Look p side queue) = look_step reading pair side queue
read_next devs plan reading bytes pair (Copy p side queue) = copy_step reading pair side queue
read_next devs plan reading bytes pair (Clear p side queue) = clear_step pair side queue
read_next devs plan reading bytes pair (Ack p side queue) = ack_step reading pair side queue
read_next devs plan reading bytes pair (Wake p side queue dev) = wake_step reading (dev_plan devs dev) pair side queue
read_next devs plan reading bytes pair (Irq p side) = irq_step pair side
read_next devs plan reading bytes pair (Mask p side bits) = mask_step pair side bits
read_next devs plan reading bytes pair (Unmask p side bits) = unmask_step pair side bits
read_next devs plan reading bytes pair (Spad p side i value) = spad_step pair side i value
read_next devs plan reading bytes pair (Poke p side window offset poked) = poke_step pair side window offset poked
read_next devs plan reading bytes pair (ShowMem p side at len) = show_mem_step pair (bytes side at len)
read_next devs plan reading bytes pair (ShowPad p side i) = show_pad_step pair side i
read_next devs plan reading bytes pair (ShowQueue p side place) = show_queue_step pair side place
read_next devs plan reading bytes pair (Relay p side queue switch port) = not_here pair
read_next devs plan reading bytes pair (Xnext p side queue dev) = not_here pair

-- the outcome of a step: an ordinary pair reads its ledger, a raw one its bytes
abbrev pub pair_next : List DevPlan → PairPlan → Bytes → PairPart → Step → Outcome
pair_next devs plan bytes pair step = read_next devs plan (reading_of plan bytes pair) bytes pair step

-- The same of a cluster

-- the pairs by their numbers
abbrev pub Ledger : Type 0
Ledger = ℕ → PairPart

-- the ledger before any step
abbrev pub start : Plan → Ledger
start plan = λ k. fresh_pair (pair_plan plan k)

-- the result of a step in a ledger; the pairs that it isn't made on stay as they are
abbrev pub outcome_in : Plan → (ℕ → Bytes) → Ledger → Step → Outcome
outcome_in plan bytes ledger step = pair_next plan.devs (pair_plan plan (subject_of step)) (bytes (subject_of step)) (ledger (subject_of step)) step

abbrev pub ledger_after : Plan → (ℕ → Bytes) → Ledger → Step → Ledger
ledger_after plan bytes ledger step = updated ledger (subject_of step) (outcome_in plan bytes ledger step).after
