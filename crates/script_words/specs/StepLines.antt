-- Lines of steps and macros, grouped by their arguments: P is a pair, S a side, Q a queue of that side. The first word
-- is word 1.
use Rattle.std.specs.Prelude.{ℕ, ◌+◌, ◌*◌, Bool, true, false, not, ◌&&◌, Option, Some, None, Result, Ok, Err, List, [], ◌∷◌, length, codes, min, nat_lt, if◌then◌else◌}
use Rattle.std.specs.Str.{bytes_eq}
use Rattle.step_kinds.specs.Limits.{most_frame_bytes, most_poke_bytes, most_steps}
use Rattle.step_kinds.specs.Sides.{other_side}
use Rattle.step_kinds.specs.declared.names.Side.{Side}
use Rattle.step_kinds.specs.declared.plan.PairPlan.{PairPlan}
use Rattle.step_kinds.specs.declared.plan.Plan.{Plan}
use Rattle.step_kinds.specs.declared.steps.Step.{Step}
use Rattle.step_kinds.specs.declared.steps.Step.TheVariants.{Enable, Train, Break, DropDone, Clean, Offer, Check, Ready, Join, Begin, QpDown, Xbegin, Post, Land, Look, Copy, Clear, Ack, Wake, Irq, Mask, Unmask, Spad, Poke, ShowMem, ShowPad, ShowQueue, Relay, Xnext}
use Rattle.pair_model.specs.Ethernet.{ethernet_header}
use Rattle.pair_model.specs.Macros.{send, xmit, land_all, receive, offer_all}
use Rattle.pair_model.specs.Plans.{side_plan, pair_plan, dev_plan, switch_plan, port_device}
use Rattle.script_words.specs.Before.{Before, Given, MoreSteps, TrafficBegins, pair_word, dev_word, switch_word, named_side, named_queue}
use Rattle.script_words.specs.Ports.{is_port}
use Rattle.script_words.specs.Tests.{◌>>=◌, fault_if, fault_at, unknown_line, whole, at}
use Rattle.script_words.specs.Words.{number_word, word_number_in, hex_word, hex_of, kind_word}
use Rattle.script_words.specs.declared.fault.Cause.TheVariants.{BadNumber, UnknownName, BadPair, TooMany}
use Rattle.script_words.specs.declared.fault.LineFault.{LineFault}

-- A kind of line, by its first word; each function answers none for a word of another kind.

-- the steps of a line, if they don't pass the script's limit
abbrev pub steps_within : Before → List Step → Result Given LineFault
steps_within before steps = do
  _ ← fault_if (nat_lt most_steps (length before.plan.steps + length steps)) (whole TooMany)
  Ok (MoreSteps steps)

-- P
abbrev pub pair_step : List ℕ → Option (ℕ → Step)
pair_step word =
    if bytes_eq word (codes "train") then Some (λ pair. Train pair)
    else if bytes_eq word (codes "break") then Some (λ pair. Break pair)
    else if bytes_eq word (codes "drop") then Some (λ pair. DropDone pair)
    else None

abbrev pub pair_step_line : Before → (ℕ → Step) → List ℕ → Result Given LineFault
pair_step_line before step pair_text = do
  pair ← at 2 (pair_word before pair_text)
  steps_within before (step pair ∷ [])

-- P S
abbrev pub side_steps : List ℕ → Option (PairPlan → ℕ → Side → List Step)
side_steps word =
    if bytes_eq word (codes "enable") then Some (λ plan pair side. Enable pair side ∷ [])
    else if bytes_eq word (codes "clean") then Some (λ plan pair side. Clean pair side ∷ [])
    else if bytes_eq word (codes "offer") then Some (λ plan pair side. Offer pair side ∷ [])
    else if bytes_eq word (codes "check") then Some (λ plan pair side. Check pair side ∷ [])
    else if bytes_eq word (codes "irq") then Some (λ plan pair side. Irq pair side ∷ [])
    else if bytes_eq word (codes "offerall") then Some (λ plan pair side. offer_all pair side (side_plan plan side).windows)
    else None

abbrev pub side_line : Before → (PairPlan → ℕ → Side → List Step) → List ℕ → List ℕ → Result Given LineFault
side_line before steps pair_text side_text = do
  name ← named_side before 2 pair_text side_text
  steps_within before (steps (pair_plan before.plan name.pair) name.pair name.side)

-- P S Q
abbrev pub queue_steps : List ℕ → Option (ℕ → Side → ℕ → List Step)
queue_steps word =
    if bytes_eq word (codes "ready") then Some (λ pair side queue. Ready pair side queue ∷ [])
    else if bytes_eq word (codes "join") then Some (λ pair side queue. Join pair side queue ∷ [])
    else if bytes_eq word (codes "qpdown") then Some (λ pair side queue. QpDown pair side queue ∷ [])
    else if bytes_eq word (codes "post") then Some (λ pair side queue. Post pair side queue ∷ [])
    else if bytes_eq word (codes "look") then Some (λ pair side queue. Look pair side queue ∷ [])
    else if bytes_eq word (codes "copy") then Some (λ pair side queue. Copy pair side queue ∷ [])
    else if bytes_eq word (codes "clear") then Some (λ pair side queue. Clear pair side queue ∷ [])
    else if bytes_eq word (codes "ack") then Some (λ pair side queue. Ack pair side queue ∷ [])
    else if bytes_eq word (codes "recv") then Some (λ pair side queue. receive pair side queue 1)
    else None

abbrev pub queue_line : Before → (ℕ → Side → ℕ → List Step) → List ℕ → List ℕ → List ℕ → Result Given LineFault
queue_line before steps pair_text side_text queue_text = do
  name ← named_queue before 2 pair_text side_text queue_text
  steps_within before (steps name.pair name.side name.queue)

-- `recv P S Q COPIES`
abbrev pub receive_line : Before → List ℕ → List ℕ → List ℕ → List ℕ → Result Given LineFault
receive_line before pair_text side_text queue_text copies_text = do
  name ← named_queue before 2 pair_text side_text queue_text
  copies ← word_number_in 5 1 512 copies_text
  steps_within before (receive name.pair name.side name.queue copies)

-- P S Q HEX
abbrev pub frame_steps : List ℕ → Option (PairPlan → ℕ → Side → ℕ → List ℕ → List Step)
frame_steps word =
    if bytes_eq word (codes "begin") then Some (λ plan pair side queue frame. Begin pair side queue frame ∷ [])
    else if bytes_eq word (codes "send") then Some send
    else None

abbrev pub script_frame_line : Before → (PairPlan → ℕ → Side → ℕ → List ℕ → List Step) → List ℕ → List ℕ → List ℕ → List ℕ → Result Given LineFault
script_frame_line before steps pair_text side_text queue_text frame_text = do
  name ← named_queue before 2 pair_text side_text queue_text
  frame ← at 5 (hex_word frame_text)
  _ ← fault_if (nat_lt most_frame_bytes (length frame)) (whole TooMany)
  steps_within before (steps (pair_plan before.plan name.pair) name.pair name.side name.queue frame)

-- P S and a number: which numbers it takes, and what its steps are
pub record NumberedSteps : Type 0 where
  pub least : ℕ
  pub most : ℕ
  pub steps : ℕ → Side → ℕ → List Step

-- the largest number that a word spells
abbrev pub largest_number : ℕ
largest_number = 4294967295

abbrev pub numbered_steps : List ℕ → Option NumberedSteps
numbered_steps word =
    if bytes_eq word (codes "land") then Some (record { least = 0; most = largest_number; steps = λ pair side place. Land pair side place ∷ [] })
    else if bytes_eq word (codes "landall") then Some (record { least = 1; most = most_steps; steps = land_all })
    else if bytes_eq word (codes "mask") then Some (record { least = 0; most = largest_number; steps = λ pair side bits. Mask pair side bits ∷ [] })
    else if bytes_eq word (codes "unmask") then Some (record { least = 0; most = largest_number; steps = λ pair side bits. Unmask pair side bits ∷ [] })
    else if bytes_eq word (codes "showq") then Some (record { least = 0; most = largest_number; steps = λ pair side place. ShowQueue pair side place ∷ [] })
    else if bytes_eq word (codes "showspad") then Some (record { least = 0; most = 15; steps = λ pair side i. ShowPad pair side i ∷ [] })
    else None

abbrev pub numbered_line : Before → NumberedSteps → List ℕ → List ℕ → List ℕ → Result Given LineFault
numbered_line before numbered pair_text side_text number_text = do
  name ← named_side before 2 pair_text side_text
  number ← word_number_in 4 numbered.least numbered.most number_text
  steps_within before (numbered.steps name.pair name.side number)

-- `spad P S INDEX VALUE`: the scratchpads below 12 are the transport's own
abbrev pub spad_line : Before → List ℕ → List ℕ → List ℕ → List ℕ → Result Given LineFault
spad_line before pair_text side_text index_text value_text = do
  name ← named_side before 2 pair_text side_text
  i ← word_number_in 4 0 15 index_text
  value ← at 5 (number_word value_text)
  _ ← fault_if (nat_lt i 12 && not (pair_plan before.plan name.pair).raw) (whole BadPair)
  steps_within before (Spad name.pair name.side i value ∷ [])

-- `showmem P S AT LEN`: within the side's memory
abbrev pub show_memory_line : Before → List ℕ → List ℕ → List ℕ → List ℕ → Result Given LineFault
show_memory_line before pair_text side_text start_text len_text = do
  name ← named_side before 2 pair_text side_text
  start ← at 4 (number_word start_text)
  len ← word_number_in 5 1 64 len_text
  _ ← fault_if (nat_lt ((side_plan (pair_plan before.plan name.pair) name.side).windows * (side_plan (pair_plan before.plan name.pair) name.side).cap) (start + len)) (fault_at 5 BadNumber)
  steps_within before (ShowMem name.pair name.side start len ∷ [])

-- the bytes of a window that reach the peer's memory
abbrev pub reach : PairPlan → Side → ℕ
reach pair side = min (side_plan pair side).size (side_plan pair (other_side side)).cap

-- `poke P S WINDOW OFFSET HEX`: in a window that both sides have, within what reaches the peer's memory, on a raw pair,
-- and no more bytes than a poke may write
abbrev pub poke_line : Before → List ℕ → List ℕ → List ℕ → List ℕ → List ℕ → Result Given LineFault
poke_line before pair_text side_text window_text offset_text bytes_text = do
  name ← named_side before 2 pair_text side_text
  window ← at 4 (number_word window_text)
  _ ← fault_if (not (nat_lt window (pair_plan before.plan name.pair).a.windows && nat_lt window (pair_plan before.plan name.pair).b.windows)) (fault_at 4 UnknownName)
  offset ← at 5 (number_word offset_text)
  bytes ← at 6 (hex_word bytes_text)
  _ ← fault_if (nat_lt (reach (pair_plan before.plan name.pair) name.side) (offset + length bytes)) (fault_at 6 BadNumber)
  _ ← fault_if (not (pair_plan before.plan name.pair).raw) (whole BadPair)
  _ ← fault_if (nat_lt most_poke_bytes (length bytes)) (whole TooMany)
  steps_within before (Poke name.pair name.side window offset bytes ∷ [])

-- `wake DEV`
abbrev pub wake_line : Before → List ℕ → Result Given LineFault
wake_line before dev_text = do
  dev ← at 2 (dev_word before dev_text)
  steps_within before (Wake (dev_plan before.plan.devs dev).pair (dev_plan before.plan.devs dev).side (dev_plan before.plan.devs dev).queue dev ∷ [])

-- DEV ADDRESS KIND HEX, if `is_macro` says whether all writes are posted too
abbrev pub ethernet_steps : Plan → Bool → ℕ → List ℕ → ℕ → List ℕ → List Step
ethernet_steps plan is_macro dev dst kind payload =
    let device = dev_plan plan.devs dev in
    if is_macro
    then xmit (pair_plan plan device.pair) device.pair device.side device.queue dev dst kind payload
    else Xbegin device.pair device.side device.queue dev dst kind payload ∷ []

abbrev pub ethernet_line : Before → Bool → List ℕ → List ℕ → List ℕ → List ℕ → Result Given LineFault
ethernet_line before is_macro dev_text address_text kind_text payload_text = do
  dev ← at 2 (dev_word before dev_text)
  dst ← at 3 (hex_of 6 address_text)
  kind ← at 4 (kind_word kind_text)
  payload ← at 5 (hex_word payload_text)
  _ ← fault_if (nat_lt most_frame_bytes (length payload + ethernet_header)) (whole TooMany)
  steps_within before (ethernet_steps before.plan is_macro dev dst kind payload)

-- a switch takes a frame from a port, whose device says the queue
abbrev pub relay_step : Plan → ℕ → ℕ → Step
relay_step plan switch port =
    let device = dev_plan plan.devs (port_device plan switch port) in
    Relay device.pair device.side device.queue switch port

-- `relay SWITCH PORT`
abbrev pub relay_line : Before → List ℕ → List ℕ → Result Given LineFault
relay_line before switch_text port_text = do
  switch ← at 2 (switch_word before switch_text)
  port ← at 3 (number_word port_text)
  _ ← fault_if (not (nat_lt port (length (switch_plan before.plan switch).ports))) (fault_at 3 UnknownName)
  steps_within before (relay_step before.plan switch port ∷ [])

-- `xnext DEV`
abbrev pub xnext_line : Before → List ℕ → Result Given LineFault
xnext_line before dev_text = do
  dev ← at 2 (dev_word before dev_text)
  _ ← fault_if (not (is_port before dev)) (fault_at 2 UnknownName)
  steps_within before (Xnext (dev_plan before.plan.devs dev).pair (dev_plan before.plan.devs dev).side (dev_plan before.plan.devs dev).queue dev ∷ [])

-- A line among the steps, by its first word and the number of its words

abbrev pub or_unknown : {X : Type 0} → Option X → (X → Result Given LineFault) → Result Given LineFault
or_unknown None line = Err unknown_line
or_unknown (Some x) line = line x

abbrev pub line_of_one : Before → List ℕ → List ℕ → Result Given LineFault
line_of_one before word a =
    if bytes_eq word (codes "wake") then wake_line before a
    else if bytes_eq word (codes "xnext") then xnext_line before a
    else or_unknown (pair_step word) (λ step. pair_step_line before step a)

abbrev pub line_of_two : Before → List ℕ → List ℕ → List ℕ → Result Given LineFault
line_of_two before word a b =
    if bytes_eq word (codes "relay") then relay_line before a b
    else or_unknown (side_steps word) (λ steps. side_line before steps a b)

abbrev pub line_of_three : Before → List ℕ → List ℕ → List ℕ → List ℕ → Result Given LineFault
line_of_three before word a b c = by_number (numbered_steps word) where
  by_number : Option NumberedSteps → Result Given LineFault
  by_number (Some numbered) = numbered_line before numbered a b c
  by_number None = or_unknown (queue_steps word) (λ steps. queue_line before steps a b c)

abbrev pub line_of_four : Before → List ℕ → List ℕ → List ℕ → List ℕ → List ℕ → Result Given LineFault
line_of_four before word a b c d =
    if bytes_eq word (codes "recv") then receive_line before a b c d
    else if bytes_eq word (codes "spad") then spad_line before a b c d
    else if bytes_eq word (codes "showmem") then show_memory_line before a b c d
    else if bytes_eq word (codes "xbegin") then ethernet_line before false a b c d
    else if bytes_eq word (codes "xmit") then ethernet_line before true a b c d
    else or_unknown (frame_steps word) (λ steps. script_frame_line before steps a b c d)

abbrev pub line_of_five : Before → List ℕ → List ℕ → List ℕ → List ℕ → List ℕ → List ℕ → Result Given LineFault
line_of_five before word a b c d e = if bytes_eq word (codes "poke") then poke_line before a b c d e else Err unknown_line

abbrev pub step_line : Before → List ℕ → List (List ℕ) → Result Given LineFault
step_line before word [] = if bytes_eq word (codes "traffic") then Ok TrafficBegins else Err unknown_line
step_line before word (a ∷ []) = line_of_one before word a
step_line before word (a ∷ b ∷ []) = line_of_two before word a b
step_line before word (a ∷ b ∷ c ∷ []) = line_of_three before word a b c
step_line before word (a ∷ b ∷ c ∷ d ∷ []) = line_of_four before word a b c d
step_line before word (a ∷ b ∷ c ∷ d ∷ e ∷ []) = line_of_five before word a b c d e
step_line before word words = Err unknown_line
