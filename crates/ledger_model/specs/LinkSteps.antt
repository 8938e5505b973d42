-- The steps of a pair's link: enable, train, break, drop and clean.
use Rattle.std.specs.Prelude.{ℕ, ◌+◌, false, Option, Some, None, [], replicate}
use Rattle.step_kinds.specs.Sides.{other_side}
use Rattle.step_kinds.specs.declared.names.Side.{Side}
use Rattle.step_kinds.specs.declared.steps.Answer.{Answer}
use Rattle.step_kinds.specs.declared.steps.Answer.TheVariants.{Ok as Done, OkSession, NotDown as AnswerNotDown, Dirty as AnswerDirty, NotEnabled as AnswerNotEnabled, Spent, NotUp as AnswerNotUp, NotClosing as AnswerNotClosing}
use Rattle.lane_model.specs.Lane.{new_lane}
use Rattle.lane_model.specs.declared.Phase.TheVariants.{Idle}
use Rattle.pair_model.specs.Both.{Both, at_side, with_side, both_of}
use Rattle.ledger_model.specs.Ledger.{LanePart, SidePart, DevPart, PairPart, side_of}
use Rattle.pair_model.specs.Link.{enable_refusal, enabled_link, train_refusal, trained_link, cut_refusal, cut_link, drop_refusal, dropped_link, clean_refusal, cleaned_link}
use Rattle.ledger_model.specs.Outcome.{Outcome, decided}
use Rattle.pair_model.specs.declared.LinkRefusal.{LinkRefusal}
use Rattle.pair_model.specs.declared.LinkRefusal.TheVariants.{NotDown, Dirty, NotEnabled, NotUp, NotClosing, SessionsSpent}

-- the answer that says a refusal of the link
abbrev pub refusal_answer : LinkRefusal → Answer
refusal_answer NotDown = AnswerNotDown
refusal_answer Dirty = AnswerDirty
refusal_answer NotEnabled = AnswerNotEnabled
refusal_answer NotUp = AnswerNotUp
refusal_answer NotClosing = AnswerNotClosing
refusal_answer SessionsSpent = Spent

abbrev pub answer_of_refusal : Option LinkRefusal → Option Answer
answer_of_refusal None = None
answer_of_refusal (Some refusal) = Some (refusal_answer refusal)

-- a lane in which nothing was begun: its counts and its phase are those of a new lane, whose ring doesn't matter here
abbrev pub fresh_lane : LanePart
fresh_lane =
    let new = new_lane 0 0 [] 0 in
    record {
      sent = new.sent;
      waiting = [];
      todo = [];
      told = 0;
      flagged = new.flagged;
      got = new.got;
      cleared = new.cleared;
      acked = new.acked;
      freed = new.freed;
      phase = new.phase;
      part = new.part;
      len = 0;
      left = 0;
      gathered = [];
      done = 0;
    }

abbrev pub enable_step : PairPart → Side → Outcome
enable_step pair side = decided pair (answer_of_refusal (enable_refusal pair.link side)) Done (record pair { link = enabled_link pair.link side })

-- a new session begins with fresh lanes
abbrev pub train_step : PairPart → Outcome
train_step pair =
    decided pair (answer_of_refusal (train_refusal pair.link)) (OkSession (pair.link.session + 1))
    (record pair { link = trained_link pair.link; lanes = both_of (λ queue. fresh_lane) })

abbrev pub break_step : PairPart → Outcome
break_step pair = decided pair (answer_of_refusal (cut_refusal pair.link)) Done (record pair { link = cut_link pair.link })

-- a side whose writes in flight were dropped
abbrev pub emptied_side : SidePart → SidePart
emptied_side part = record part { flight = []; poked = [] }

abbrev pub drop_step : PairPart → Outcome
drop_step pair =
    decided pair (answer_of_refusal (drop_refusal pair.link)) Done
    (record pair { link = dropped_link pair.link; sides = record { a = emptied_side pair.sides.a; b = emptied_side pair.sides.b } })

-- a side that forgets the session: its mask stays
abbrev pub cleaned_side : SidePart → SidePart
cleaned_side part =
    record part { up = false; ready = 0; joined = 0; closed = 0; offered = 0; pads = replicate 16 0; pending = 0 }

-- a lane whose sender, or whose receiver, forgets the session
abbrev pub forgotten_by_sender : LanePart → LanePart
forgotten_by_sender lane = record lane { waiting = []; todo = [] }

abbrev pub forgotten_by_receiver : LanePart → LanePart
forgotten_by_receiver lane = record lane { phase = Idle; part = 0; gathered = [] }

abbrev pub started_dev : DevPart → DevPart
started_dev dev = record dev { stopped = false }

abbrev pub forgotten_lanes : Both (ℕ → LanePart) → Side → Both (ℕ → LanePart)
forgotten_lanes lanes side =
    let sending = with_side lanes side (λ queue. forgotten_by_sender (at_side lanes side queue)) in
    with_side sending (other_side side) (λ queue. forgotten_by_receiver (at_side lanes (other_side side) queue))

abbrev pub clean_step : PairPart → Side → Outcome
clean_step pair side =
    decided pair (answer_of_refusal (clean_refusal pair.link)) Done
    (record pair {
      link = cleaned_link pair.link side;
      sides = with_side pair.sides side (cleaned_side (side_of pair side));
      lanes = forgotten_lanes pair.lanes side;
      devs = with_side pair.devs side (λ queue. started_dev (at_side pair.devs side queue));
    })
