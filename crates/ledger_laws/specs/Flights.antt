-- What a side has in flight towards its peer, as a log says it: what it posted while the link was up, in the order of
-- posting. What landed and what was dropped isn't among it.
use Rattle.std.specs.Prelude.{◌≡◌, ℕ, ◌+◌, ◌==◌, Bool, true, false, ◌&&◌, List, [], ◌∷◌, ◌++◌, length, remove, slice_index_or, if◌then◌else◌}
use Rattle.std.specs.List.{fold}
use Rattle.step_kinds.specs.Sides.{same_side}
use Rattle.step_kinds.specs.Bits.{all_below, with_bit}
use Rattle.step_kinds.specs.declared.names.Side.{Side}
use Rattle.step_kinds.specs.declared.plan.Plan.{Plan}
use Rattle.step_kinds.specs.declared.steps.Answer.{Answer}
use Rattle.step_kinds.specs.declared.steps.Answer.TheVariants.{Ok as Done, OkSession, Offered, Posted, Landed, Acked}
use Rattle.step_kinds.specs.declared.steps.Label.{Label}
use Rattle.step_kinds.specs.declared.steps.Label.TheVariants.{Index, Pad, Raw}
use Rattle.step_kinds.specs.declared.steps.Step.{Step}
use Rattle.step_kinds.specs.declared.steps.Step.TheVariants.{Train, Break, DropDone, Clean, Offer, Ready, Post, Land, Ack, Spad, Poke}
use Rattle.ledger_model.specs.Ledger.{side_of}
use Rattle.ledger_model.specs.Log.{Answered, Memories, ledger_of, log_of}
use Rattle.pair_model.specs.Pads.{links_pad, offers}
use Rattle.pair_model.specs.Plans.{pair_plan, side_plan}
use Rattle.ledger_laws.specs.Laws.{IsOrdinaryPair}

-- of a side: whether its pair's link is up, how many of its numbers it has offered, which queues it has said are ready,
-- and what it has in flight. What it has offered and said is counted since its last clean.
pub record Outbox : Type 0 where
  pub up : Bool
  pub offered : ℕ
  pub ready : ℕ
  pub flight : List Label

-- a side posts a write: it is in flight where the link is up, and lost otherwise
abbrev pub goes_out : Outbox → Label → Outbox
goes_out now label = record now { flight = (if now.up then now.flight ++ label ∷ [] else now.flight) }

-- the same side after an entry of the log
abbrev pub outbox_next : Plan → ℕ → Side → Outbox → Answered → Outbox
outbox_next plan pair side now made = told made.step made.answer where
  -- what only a step on this pair, and on this side of it, leaves of it
  on_pair : ℕ → Outbox → Outbox
  on_pair p new = if p == pair then new else now

  on_side : ℕ → Side → Outbox → Outbox
  on_side p s new = if (p == pair) && same_side s side then new else now

  told : Step → Answer → Outbox
  told (Train p) (OkSession session) = on_pair p (record now { up = true })
  told (Break p) Done = on_pair p (record now { up = false })
  told (DropDone p) Done = on_pair p (record now { up = false; flight = [] })
  told (Clean p s) Done = on_side p s (record now { offered = 0; ready = 0 })
  told (Offer p s) (Offered index) =
      on_side p s (goes_out (record now { offered = now.offered + 1 }) (slice_index_or (offers (side_plan (pair_plan plan pair) side)) now.offered (Pad 0 0)))
  told (Ready p s queue) Done = on_side p s (goes_out (record now { ready = with_bit now.ready queue }) (Pad links_pad (with_bit now.ready queue)))
  told (Post p s queue) (Posted label) = on_side p s (goes_out now label)
  told (Ack p s queue) (Acked n) = on_side p s (goes_out now (Index queue n))
  told (Spad p s i value) Done = on_side p s (goes_out now (Pad i value))
  told (Poke p s window offset bytes) Done = on_side p s (goes_out now (Raw window offset (length bytes)))
  told (Land p s place) (Landed label) = on_side p s (record now { flight = remove now.flight place })
  told step answer = now

-- the same before any step: on a pair that is declared up all is offered, and all queues are ready
abbrev pub outbox_start : Plan → ℕ → Side → Outbox
outbox_start plan pair side =
    let own = side_plan (pair_plan plan pair) side in
    let up = (pair_plan plan pair).up in
    record { up = up; offered = (if up then length (offers own) else 0); ready = (if up then all_below own.queues else 0); flight = [] }

-- what a side has in flight after a log
abbrev pub in_flight : Plan → List Answered → ℕ → Side → List Label
in_flight plan log pair side = (fold (outbox_next plan pair side) (outbox_start plan pair side) log).flight

-- it is what the ledger has
abbrev pub InFlightIsPosted : Type 0
InFlightIsPosted = (plan : Plan) (memories : Memories) (steps : List Step) (pair : ℕ) (side : Side) → IsOrdinaryPair plan pair →
    (side_of (ledger_of plan memories steps pair) side).flight ≡ in_flight plan (log_of plan memories steps) pair side
