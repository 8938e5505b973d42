-- A step on one queue of one side: the other queues, and the other side, stand as they did.
use Rattle.std.proofs.Common.{◌≡◌, ℕ, ◌<◌, Bool, true, false, List, refl, sym, ap, ◌∙◌, subst, inl, inr}
use Rattle.std.specs.Prelude.{slice_index_or, slice_set}
use Rattle.std.proofs.lemmas.Bool.{cases_eq}
use Rattle.std.proofs.lemmas.List.{set-get_or, get_or-set_same, get_or-set_other, length-set}
use Rattle.step_kinds.specs.declared.names.Side.{Side}
use Rattle.step_kinds.specs.declared.names.Side.TheVariants.{A, B}
use Rattle.step_kinds.specs.declared.plan.DevPlan.{DevPlan}
use Rattle.step_kinds.specs.declared.plan.PairPlan.{PairPlan}
use Rattle.step_kinds.specs.declared.steps.Label.{Label}
use Rattle.lane_model.specs.Lane.{Entry}
use Rattle.pair_model.specs.Plans.{side_plan}
use Rattle.ledger_model.specs.Ledger.{DevPart, LanePart, updated}
use Rattle.fabric_rule.specs.InPlace.{FlightInPlace}
use Rattle.fabric_rule.specs.Parts.{PairState, QueuePart, no_queue, queue_of, with_queue}
use Rattle.fabric_rule.specs.StandsFor.{QueueStands, QueueView, SideStands, port_for, sent_in, sent_of, writes_labelled}
use Rattle.fabric_rule.proofs.Follows.{same_at, updated_same}

module _ (devs : List DevPlan) (plan : PairPlan) (k : ℕ) (side : Side) (down forgotten : Bool) (joined : ℕ) where
  -- the same side by views that are the same
  pub side_same : (flight : List Label) (poked : List (List ℕ)) (view view' : ℕ → QueueView) (parts : List QueuePart) → ((queue : ℕ) → view' queue ≡ view queue)
      → SideStands devs plan k side down forgotten joined flight poked view parts → SideStands devs plan k side down forgotten joined flight poked view' parts
  side_same flight poked view view' parts same stands = subst (λ (view : ℕ → QueueView). SideStands devs plan k side down forgotten joined flight poked view parts) (sym (same_at same)) stands

  -- a side of which one queue is another
  pub side_at : (flight flight' : List Label) (poked poked' : List (List ℕ)) (view view' : ℕ → QueueView) (parts : List QueuePart) (queue : ℕ) (part : QueuePart) → queue < (side_plan plan side).queues
      → ((other : ℕ) → (other ≡ queue → ⊥) → view' other ≡ view other)
      → FlightInPlace plan side down (sent_in view') flight' poked' (writes_labelled plan side (sent_in view') flight' poked')
      → QueueStands devs plan k side queue forgotten (view' queue) part
      → SideStands devs plan k side down forgotten joined flight poked view parts
      → SideStands devs plan k side down forgotten joined flight' poked' view' (slice_set parts queue part)
  side_at flight flight' poked poked' view view' parts queue part among others in_flight own stands =
      record {
        none_joined = stands.none_joined;
        in_flight = in_flight;
        all_queues = length-set parts queue part ∙ stands.all_queues;
        queues = λ other within. elim (cases_eq other queue) [
          | inl e ↦
              subst (λ (other : ℕ). QueueStands devs plan k side other forgotten (view' other) (slice_index_or (slice_set parts queue part) other no_queue)) (sym e)
              (subst (QueueStands devs plan k side queue forgotten (view' queue)) (sym (get_or-set_same parts queue part no_queue (subst (λ n. queue < n) (sym stands.all_queues) among))) own)
          | inr ne ↦
              subst (λ (v : QueueView). QueueStands devs plan k side other forgotten v (slice_index_or (slice_set parts queue part) other no_queue)) (sym (others other ne))
              (subst (QueueStands devs plan k side other forgotten (view other)) (sym (get_or-set_other parts queue other part no_queue ne)) (stands.queues other within))
        ];
      }

-- the entries sent on each queue, if those of a lane stay
pub sent_kept : (lanes : ℕ → LanePart) (queue : ℕ) (lane : LanePart) → lane.sent ≡ (lanes queue).sent → sent_of (updated lanes queue lane) ≡ sent_of lanes
sent_kept lanes queue lane same = same_at (updated_same (λ (lane : LanePart). lane.sent) lanes queue lane same)

-- the same queue, set again
pub set_again : (state : PairState) (side : Side) (queue : ℕ) → with_queue state side queue (queue_of state side queue) ≡ state
set_again state A queue = ap (λ parts. record state { queues = record { a = parts; b = state.queues.b } }) (set-get_or state.queues.a queue no_queue)
set_again state B queue = ap (λ parts. record state { queues = record { a = state.queues.a; b = parts } }) (set-get_or state.queues.b queue no_queue)

-- what a queue pair is
pub queue_is : (devs : List DevPlan) (plan : PairPlan) (k : ℕ) (side : Side) (queue : ℕ) (forgotten remembered : Bool) (view : QueueView) (part : QueuePart) → forgotten ≡ remembered → QueueStands devs plan k side queue forgotten view part
    → part.queue ≡ record { port = port_for plan side queue remembered view part.queue.port.sending.entry; closed = view.closed }
queue_is devs plan k side queue forgotten remembered view part same h =
    ap (λ port. record part.queue { port = port }) (h.port ∙ ap (λ b. port_for plan side queue b view part.queue.port.sending.entry) same)
    ∙ ap (λ closed. record { port = port_for plan side queue remembered view part.queue.port.sending.entry; closed = closed }) h.closed

-- a port knows nothing of its device
pub other_dev : (plan : PairPlan) (side : Side) (queue : ℕ) (forgotten : Bool) (view : QueueView) (dev : DevPart) (entry : Entry) → port_for plan side queue forgotten view entry ≡ port_for plan side queue forgotten (record view { dev = dev }) entry
other_dev plan side queue true view dev entry = refl
other_dev plan side queue false view dev entry = refl
