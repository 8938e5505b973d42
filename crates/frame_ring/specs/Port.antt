-- One queue of one side: how far it is with what it sends and with what it receives. It knows counts of its own and the
-- entry under way, and no entry that is gone.
use Rattle.std.specs.Prelude.{ℕ, suc, ◌+◌, ◌||◌, Bool, not, List, [], ◌∷◌, ◌++◌, length, map, if◌then◌else◌}
use Rattle.step_kinds.specs.declared.names.Side.{Side}
use Rattle.step_kinds.specs.declared.plan.PairPlan.{PairPlan}
use Rattle.step_kinds.specs.declared.steps.Label.{Label}
use Rattle.lane_model.specs.Lane.{Entry, GoesDown}
use Rattle.lane_model.specs.Tests.{is_empty_list, is_idle}
use Rattle.lane_model.specs.declared.Phase.{Phase}
use Rattle.lane_model.specs.declared.Phase.TheVariants.{Idle}
use Rattle.pair_model.specs.Labels.{labels_of}

pub record Sending : Type 0 where
  -- how many entries and how many frames were begun
  pub begun : ℕ
  pub told : ℕ
  -- the entry that was begun last, until its frame is posted whole; the labels of its writes that are left to post, and
  -- the entries of its frame that wait
  pub entry : Entry
  pub todo : List Label
  pub waiting : List Entry

pub record Receiving : Type 0 where
  -- how many entries were taken whole, and how many frames were delivered
  pub got : ℕ
  pub done : ℕ
  -- where the receiver stands with the entry at hand: how many parts of it were copied, its length, and how many
  -- entries of its frame follow it
  pub phase : Phase
  pub part : ℕ
  pub len : ℕ
  pub left : ℕ
  -- the bytes copied so far of the frame under way
  pub gathered : List ℕ

pub record PortState : Type 0 where
  pub plan : PairPlan
  pub side : Side
  pub queue : ℕ
  pub sending : Sending
  pub receiving : Receiving

-- Nothing was begun, and nothing found.

abbrev pub nothing_sent : Sending
nothing_sent = record { begun = 0; told = 0; entry = GoesDown; todo = []; waiting = [] }

abbrev pub nothing_received : Receiving
nothing_received = record { got = 0; done = 0; phase = Idle; part = 0; len = 0; left = 0; gathered = [] }

abbrev pub fresh_port : PairPlan → Side → ℕ → PortState
fresh_port plan side queue = record { plan = plan; side = side; queue = queue; sending = nothing_sent; receiving = nothing_received }

-- the same port with another end
abbrev pub with_sending : PortState → Sending → PortState
with_sending port sending = record port { sending = sending }

abbrev pub with_receiving : PortState → Receiving → PortState
with_receiving port receiving = record port { receiving = receiving }

-- a frame has writes or entries left to post
abbrev pub is_port_busy : Sending → Bool
is_port_busy sending = not (is_empty_list sending.todo) || not (is_empty_list sending.waiting)

-- What is left to post: the label of each write, with the entry that it is of.
pub record Left : Type 0 where
  pub entry : Entry
  pub label : Label

abbrev pub left_of_entry : Entry → List Label → List Left
left_of_entry entry labels = map (λ label. record { entry = entry; label = label }) labels

-- all writes of these entries, numbered from `n` on
abbrev pub writes_from : ℕ → ℕ → List Entry → List Left
writes_from queue n [] = []
writes_from queue n (entry ∷ entries) = left_of_entry entry (labels_of queue n entry) ++ writes_from queue (suc n) entries

abbrev pub writes_left : PortState → List Left
writes_left port = left_of_entry port.sending.entry port.sending.todo ++ writes_from port.queue port.sending.begun port.sending.waiting

-- How many promises of room for a write the port has that it hasn't used. There is one for each write left to post, and
-- one for the index write of an entry that was found and not given back.
abbrev pub unused_of : PortState → ℕ
unused_of port = length (writes_left port) + (if is_idle port.receiving.phase then 0 else 1)
