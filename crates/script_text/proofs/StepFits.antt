-- The steps of a line are ones that a script of its plan may make.
use Rattle.std.proofs.Common.{◌≡◌, ℕ, ◌+◌, ◌*◌, ◌<◌, ◌≤◌, Bool, true, false, not, ◌&&◌, ◌⊎◌, inl, inr, Option, Some, None, List, [], ◌∷◌, ◌++◌, length, codes, nat_lt, replicate, refl, arith}
use Rattle.std.proofs.lemmas.Bool.{ltb-false, ltb-true, not-false, and_parts, and_cases}
use Rattle.std.proofs.lemmas.List.Elements.{All-cons, All-nil, All-append, All-replicate, All-weaker}
use Rattle.std.specs.List.{All}
use Rattle.std.specs.Str.{bytes_eq}
use Rattle.step_kinds.specs.Limits.{most_frame_bytes, most_poke_bytes, most_steps}
use Rattle.step_kinds.specs.declared.names.Side.{Side}
use Rattle.step_kinds.specs.declared.plan.PairPlan.{PairPlan}
use Rattle.step_kinds.specs.declared.plan.DevPlan.{DevPlan}
use Rattle.step_kinds.specs.declared.plan.Plan.{Plan}
use Rattle.step_kinds.specs.declared.steps.Step.{Step}
use Rattle.step_kinds.specs.declared.steps.Step.TheVariants.{Begin, Xbegin, Post, Look, Copy, Clear, Ack, Wake, Spad, Poke, ShowMem, ShowPad, Xnext}
use Rattle.pair_model.specs.DeclaredPlans.{IsQueueOf, IsDevice, IsPermitted, IsFrame, IsPayload}
use Rattle.pair_model.specs.Ethernet.{ethernet_header}
use Rattle.pair_model.specs.Macros.{receive, send, posts_in}
use Rattle.pair_model.specs.Plans.{side_plan, pair_plan, dev_plan, switch_plan, port_device, no_dev, no_switch}
use Rattle.pair_model.specs.Switches.{IsMakeable, IsPortOn, IsSwitch}
use Rattle.script_words.specs.Before.{Before, MoreSteps, TrafficBegins}
use Rattle.script_words.specs.StepLines as rules
use Rattle.script_words.specs.Ports.{is_port}
use Rattle.script_words.specs.StepLines.{NumberedSteps, reach, relay_step, ethernet_steps}
use Rattle.script_words.specs.Tests.{fault_at, unknown_line, whole, at}
use Rattle.script_words.specs.Words.{number_word}
use Rattle.script_words.specs.declared.fault.Cause.TheVariants.{BadNumber, UnknownName, BadPair, TooMany}
use Rattle.script_words.specs.declared.parts.Part.TheVariants.{Declarations}
use Rattle.script_text.specs.SoundLines.{Filled}
use Rattle.script_text.proofs.Fits.{Fits}
use Rattle.script_text.proofs.Gives.{Gives, gives_ok, gives_fault, gives_then, gives_passed, gives_any, gives_at, gives_if, gives_known, Means, means_none, means_one}
use Rattle.script_text.proofs.PortFacts.{port_is_there}
use Rattle.script_text.proofs.WordFacts.{below, pair_declared, dev_declared, switch_declared, side_declared, queue_declared, number_ranged, bytes_spelled, bytes_counted, kind_is_small}

-- Lists of steps

one : (plan : Plan) (step : Step) → IsPermitted plan step → All (IsPermitted plan) (step ∷ [])
one plan step h = All-cons (IsPermitted plan) step [] h (All-nil (IsPermitted plan))

received : (plan : Plan) (pair : ℕ) (side : Side) (queue copies : ℕ) → IsQueueOf plan pair side queue → All (IsPermitted plan) (receive pair side queue copies)
received plan pair side queue copies h =
    All-cons (IsPermitted plan) (Look pair side queue) (replicate copies (Copy pair side queue) ++ Clear pair side queue ∷ Ack pair side queue ∷ []) h
    (All-append (IsPermitted plan) (replicate copies (Copy pair side queue)) (Clear pair side queue ∷ Ack pair side queue ∷ []) (All-replicate (IsPermitted plan) copies (Copy pair side queue) h)
    (All-cons (IsPermitted plan) (Clear pair side queue) (Ack pair side queue ∷ []) h (one plan (Ack pair side queue) h)))

pad_shown : (plan : Plan) (pair : ℕ) (side : Side) (i : ℕ) → pair < length plan.pairs → (0 ≤ i) × (i ≤ 15) → All (IsPermitted plan) (ShowPad pair side i ∷ [])
pad_shown plan pair side i lt range = one plan (ShowPad pair side i) (lt, let most : i ≤ 15 = range.1 in omega arith)

sent : (plan : Plan) (pair : ℕ) (side : Side) (queue : ℕ) (frame : List ℕ) → IsQueueOf plan pair side queue → IsFrame frame
    → All (IsPermitted plan) (send (pair_plan plan pair) pair side queue frame)
sent plan pair side queue frame h f =
    All-cons (IsPermitted plan) (Begin pair side queue frame) (replicate (posts_in (pair_plan plan pair) side queue (length frame)) (Post pair side queue)) (h, f)
    (All-replicate (IsPermitted plan) (posts_in (pair_plan plan pair) side queue (length frame)) (Post pair side queue) h)

-- The steps of a first word: what they ask for is what a line of such words gives.

module _ (plan : Plan) where
  abbrev PairSteps : (ℕ → Step) → Type 0
  PairSteps step = (pair : ℕ) → pair < length plan.pairs → IsPermitted plan (step pair)

  pair_steps : (word : List ℕ) → Means PairSteps (rules.pair_step word)
  pair_steps word = search (means_one, means_none) depth 20

  abbrev SideSteps : (PairPlan → ℕ → Side → List Step) → Type 0
  SideSteps steps = (pair : ℕ) (side : Side) → pair < length plan.pairs → All (IsPermitted plan) (steps (pair_plan plan pair) pair side)

  side_steps : (word : List ℕ) → Means SideSteps (rules.side_steps word)
  side_steps word = search (means_one, means_none, one, All-replicate) depth 40

  abbrev QueueSteps : (ℕ → Side → ℕ → List Step) → Type 0
  QueueSteps steps = (pair : ℕ) (side : Side) (queue : ℕ) → IsQueueOf plan pair side queue → All (IsPermitted plan) (steps pair side queue)

  queue_steps : (word : List ℕ) → Means QueueSteps (rules.queue_steps word)
  queue_steps word = search (means_one, means_none, one, received) depth 40

  abbrev FrameSteps : (PairPlan → ℕ → Side → ℕ → List ℕ → List Step) → Type 0
  FrameSteps steps = (pair : ℕ) (side : Side) (queue : ℕ) (frame : List ℕ) → IsQueueOf plan pair side queue → IsFrame frame → All (IsPermitted plan) (steps (pair_plan plan pair) pair side queue frame)

  frame_steps : (word : List ℕ) → Means FrameSteps (rules.frame_steps word)
  frame_steps word = search (means_one, means_none, one, sent) depth 20

  abbrev PlacedSteps : NumberedSteps → Type 0
  PlacedSteps numbered = (pair : ℕ) (side : Side) (n : ℕ) → pair < length plan.pairs → (numbered.least ≤ n) × (n ≤ numbered.most) → All (IsPermitted plan) (numbered.steps pair side n)

  placed_steps : (word : List ℕ) → Means PlacedSteps (rules.numbered_steps word)
  placed_steps word = search (means_one, means_none, one, pad_shown, All-replicate) depth 40

-- Each line

pad_is_free : (i : ℕ) (raw : Bool) → (nat_lt i 12 && not raw) ≡ false → (12 ≤ i) ⊎ (raw ≡ true)
pad_is_free i raw e = elim (and_cases (nat_lt i 12) (not raw) e) [ inl x ↦ inl (ltb-false i 12 x) | inr y ↦ inr (not-false raw y) ]

module _ (before : Before) (part : before.part ≡ Declarations → ⊥) (devices : All (IsDevice before.plan) before.plan.devs) (switches : All (IsSwitch before.plan) before.plan.switches) where
  made_fit : (steps : List Step) → All (IsMakeable before.plan) steps → Gives (Fits before) (rules.steps_within before steps)
  made_fit steps all =
      gives_then _ _ _ (gives_passed (nat_lt most_steps (length before.plan.steps + length steps)) (whole TooMany)) (λ _ e.
      gives_ok (Fits before) (MoreSteps steps) (record { part = part; few = ltb-false most_steps (length before.plan.steps + length steps) e; makeable = all }))

  steps_fit : (steps : List Step) → All (IsPermitted before.plan) steps → Gives (Fits before) (rules.steps_within before steps)
  steps_fit steps all = made_fit steps (All-weaker (IsPermitted before.plan) (IsMakeable before.plan) (λ step may. inl may) steps all)

  step_fits_made : (step : Step) → IsMakeable before.plan step → Gives (Fits before) (rules.steps_within before (step ∷ []))
  step_fits_made step may = made_fit (step ∷ []) (All-cons (IsMakeable before.plan) step [] may (All-nil (IsMakeable before.plan)))

  pair_step_fits : (step : ℕ → Step) → ((pair : ℕ) → pair < length before.plan.pairs → IsPermitted before.plan (step pair)) → (pair_text : List ℕ) → Gives (Fits before) (rules.pair_step_line before step pair_text)
  pair_step_fits step ok pair_text = gives_then _ _ _ (gives_at _ 2 _ (pair_declared before pair_text)) (λ pair lt. steps_fit (step pair ∷ []) (one before.plan (step pair) (ok pair lt)))

  side_line_fits : (steps : PairPlan → ℕ → Side → List Step) → ((pair : ℕ) (side : Side) → pair < length before.plan.pairs → All (IsPermitted before.plan) (steps (pair_plan before.plan pair) pair side))
      → (pair_text side_text : List ℕ) → Gives (Fits before) (rules.side_line before steps pair_text side_text)
  side_line_fits steps ok pair_text side_text =
      gives_then _ _ _ (side_declared before 2 pair_text side_text) (λ name lt.
      steps_fit (steps (pair_plan before.plan name.pair) name.pair name.side) (ok name.pair name.side lt))

  queue_line_fits : (steps : ℕ → Side → ℕ → List Step) → ((pair : ℕ) (side : Side) (queue : ℕ) → IsQueueOf before.plan pair side queue → All (IsPermitted before.plan) (steps pair side queue))
      → (pair_text side_text queue_text : List ℕ) → Gives (Fits before) (rules.queue_line before steps pair_text side_text queue_text)
  queue_line_fits steps ok pair_text side_text queue_text =
      gives_then _ _ _ (queue_declared before 2 pair_text side_text queue_text) (λ name queue.
      steps_fit (steps name.pair name.side name.queue) (ok name.pair name.side name.queue queue))

  receive_line_fits : (pair_text side_text queue_text copies_text : List ℕ) → Gives (Fits before) (rules.receive_line before pair_text side_text queue_text copies_text)
  receive_line_fits pair_text side_text queue_text copies_text =
      gives_then _ _ _ (queue_declared before 2 pair_text side_text queue_text) (λ name queue.
      gives_then _ _ _ (number_ranged 5 1 512 copies_text) (λ copies _.
      steps_fit (receive name.pair name.side name.queue copies) (received before.plan name.pair name.side name.queue copies queue)))

  frame_line_fits : (steps : PairPlan → ℕ → Side → ℕ → List ℕ → List Step)
      → ((pair : ℕ) (side : Side) (queue : ℕ) (frame : List ℕ) → IsQueueOf before.plan pair side queue → IsFrame frame → All (IsPermitted before.plan) (steps (pair_plan before.plan pair) pair side queue frame))
      → (pair_text side_text queue_text frame_text : List ℕ) → 0 < length frame_text → Gives (Fits before) (rules.script_frame_line before steps pair_text side_text queue_text frame_text)
  frame_line_fits steps ok pair_text side_text queue_text frame_text some =
      gives_then _ _ _ (queue_declared before 2 pair_text side_text queue_text) (λ name queue.
      gives_then _ _ _ (gives_at _ 5 _ (bytes_spelled frame_text some)) (λ frame filled.
      gives_then _ _ _ (gives_passed (nat_lt most_frame_bytes (length frame)) (whole TooMany)) (λ _ e.
      steps_fit (steps (pair_plan before.plan name.pair) name.pair name.side name.queue frame)
      (ok name.pair name.side name.queue frame queue (filled, ltb-false most_frame_bytes (length frame) e)))))

  numbered_line_fits : (numbered : NumberedSteps)
      → ((pair : ℕ) (side : Side) (n : ℕ) → pair < length before.plan.pairs → (numbered.least ≤ n) × (n ≤ numbered.most) → All (IsPermitted before.plan) (numbered.steps pair side n))
      → (pair_text side_text number_text : List ℕ) → Gives (Fits before) (rules.numbered_line before numbered pair_text side_text number_text)
  numbered_line_fits numbered ok pair_text side_text number_text =
      gives_then _ _ _ (side_declared before 2 pair_text side_text) (λ name lt.
      gives_then _ _ _ (number_ranged 4 numbered.least numbered.most number_text) (λ n range. steps_fit (numbered.steps name.pair name.side n) (ok name.pair name.side n lt range)))

  spad_line_fits : (pair_text side_text index_text value_text : List ℕ) → Gives (Fits before) (rules.spad_line before pair_text side_text index_text value_text)
  spad_line_fits pair_text side_text index_text value_text =
      gives_then _ _ _ (side_declared before 2 pair_text side_text) (λ name lt.
      gives_then _ _ _ (number_ranged 4 0 15 index_text) (λ i range.
      gives_then _ _ _ (gives_any (at 5 (number_word value_text))) (λ value _.
      gives_then _ _ _ (gives_passed (nat_lt i 12 && not (pair_plan before.plan name.pair).raw) (whole BadPair)) (λ _ e.
      steps_fit (Spad name.pair name.side i value ∷ [])
      (one before.plan (Spad name.pair name.side i value) (lt, record { among = let most = range.1 in omega arith; free = pad_is_free i (pair_plan before.plan name.pair).raw e }))))))

  show_memory_fits : (pair_text side_text start_text len_text : List ℕ) → Gives (Fits before) (rules.show_memory_line before pair_text side_text start_text len_text)
  show_memory_fits pair_text side_text start_text len_text =
      gives_then _ _ _ (side_declared before 2 pair_text side_text) (λ name lt.
      gives_then _ _ _ (gives_any (at 4 (number_word start_text))) (λ start _.
      gives_then _ _ _ (number_ranged 5 1 64 len_text) (λ len range.
      gives_then _ _ _
      (gives_passed (nat_lt ((side_plan (pair_plan before.plan name.pair) name.side).windows * (side_plan (pair_plan before.plan name.pair) name.side).cap) (start + len)) (fault_at 5 BadNumber)) (λ _ e.
      steps_fit (ShowMem name.pair name.side start len ∷ []) (one before.plan (ShowMem name.pair name.side start len) (
        lt,
        record {
          some = range.0;
          few = range.1;
          within = ltb-false ((side_plan (pair_plan before.plan name.pair) name.side).windows * (side_plan (pair_plan before.plan name.pair) name.side).cap) (start + len) e;
        },
      ))))))

  poke_line_fits : (pair_text side_text window_text offset_text bytes_text : List ℕ) → 0 < length bytes_text
      → Gives (Fits before) (rules.poke_line before pair_text side_text window_text offset_text bytes_text)
  poke_line_fits pair_text side_text window_text offset_text bytes_text some =
      gives_then _ _ _ (side_declared before 2 pair_text side_text) (λ name lt.
      gives_then _ _ _ (gives_any (at 4 (number_word window_text))) (λ window _.
      gives_then _ _ _ (gives_passed (not (nat_lt window (pair_plan before.plan name.pair).a.windows && nat_lt window (pair_plan before.plan name.pair).b.windows)) (fault_at 4 UnknownName)) (λ _ known.
      gives_then _ _ _ (gives_any (at 5 (number_word offset_text))) (λ offset _.
      gives_then _ _ _ (gives_at _ 6 _ (bytes_spelled bytes_text some)) (λ bytes filled.
      gives_then _ _ _ (gives_passed (nat_lt (reach (pair_plan before.plan name.pair) name.side) (offset + length bytes)) (fault_at 6 BadNumber)) (λ _ within.
      gives_then _ _ _ (gives_passed (not (pair_plan before.plan name.pair).raw) (whole BadPair)) (λ _ raw.
      gives_then _ _ _ (gives_passed (nat_lt most_poke_bytes (length bytes)) (whole TooMany)) (λ _ few.
      let both = and_parts (nat_lt window (pair_plan before.plan name.pair).a.windows) (nat_lt window (pair_plan before.plan name.pair).b.windows)
      (not-false (nat_lt window (pair_plan before.plan name.pair).a.windows && nat_lt window (pair_plan before.plan name.pair).b.windows) known) in
      steps_fit (Poke name.pair name.side window offset bytes ∷ []) (one before.plan (Poke name.pair name.side window offset bytes) (
        lt,
        record {
          raw = not-false (pair_plan before.plan name.pair).raw raw;
          windows = (ltb-true window (pair_plan before.plan name.pair).a.windows both.0, ltb-true window (pair_plan before.plan name.pair).b.windows both.1);
          some = filled;
          few = ltb-false most_poke_bytes (length bytes) few;
          within = ltb-false (reach (pair_plan before.plan name.pair) name.side) (offset + length bytes) within;
        },
      ))))))))))

  its_queue : (dev : ℕ) → dev < length before.plan.devs → IsQueueOf before.plan (dev_plan before.plan.devs dev).pair (dev_plan before.plan.devs dev).side (dev_plan before.plan.devs dev).queue
  its_queue dev lt = (devices dev no_dev lt).queue

  wake_line_fits : (dev_text : List ℕ) → Gives (Fits before) (rules.wake_line before dev_text)
  wake_line_fits dev_text =
      gives_then _ _ _ (gives_at _ 2 _ (dev_declared before dev_text)) (λ dev lt.
      steps_fit (Wake (dev_plan before.plan.devs dev).pair (dev_plan before.plan.devs dev).side (dev_plan before.plan.devs dev).queue dev ∷ [])
      (one before.plan (Wake (dev_plan before.plan.devs dev).pair (dev_plan before.plan.devs dev).side (dev_plan before.plan.devs dev).queue dev)
      (its_queue dev lt, record { declared = lt; its_pair = refl; its_side = refl; its_queue = refl })))

  relay_line_fits : (switch_text port_text : List ℕ) → Gives (Fits before) (rules.relay_line before switch_text port_text)
  relay_line_fits switch_text port_text =
      gives_then _ _ _ (gives_at _ 2 _ (switch_declared before switch_text)) (λ switch lt.
      gives_then _ _ _ (gives_any (at 3 (number_word port_text))) (λ port _.
      gives_then _ _ _ (gives_passed (not (nat_lt port (length (switch_plan before.plan switch).ports))) (fault_at 3 UnknownName)) (λ _ known.
      step_fits_made (relay_step before.plan switch port) (inr (on_port switch port lt (below port (length (switch_plan before.plan switch).ports) known))))))
    where
      on_port : (switch port : ℕ) → switch < length before.plan.switches → port < length (switch_plan before.plan switch).ports
          → IsPortOn before.plan (dev_plan before.plan.devs (port_device before.plan switch port)).pair (dev_plan before.plan.devs (port_device before.plan switch port)).side (dev_plan before.plan.devs (port_device before.plan switch port)).queue switch port
      on_port switch port lt among = record {
        declared = lt;
        among = among;
        device = record { declared = (switches switch no_switch lt).declared port 0 among; its_pair = refl; its_side = refl; its_queue = refl };
      }

  xnext_line_fits : (dev_text : List ℕ) → Gives (Fits before) (rules.xnext_line before dev_text)
  xnext_line_fits dev_text =
      gives_then _ _ _ (gives_at _ 2 _ (dev_declared before dev_text)) (λ dev lt.
      gives_then _ _ _ (gives_passed (not (is_port before dev)) (fault_at 2 UnknownName)) (λ _ known.
      step_fits_made (Xnext (dev_plan before.plan.devs dev).pair (dev_plan before.plan.devs dev).side (dev_plan before.plan.devs dev).queue dev)
      (inr (record {
        port = port_is_there before.plan.switches dev (not-false (is_port before dev) known);
        device = record { declared = lt; its_pair = refl; its_side = refl; its_queue = refl };
      }))))

  ethernet_permitted : (is_macro : Bool) (dev : ℕ) (dst : List ℕ) (kind : ℕ) (payload : List ℕ) → dev < length before.plan.devs → IsPayload dst kind payload
      → All (IsPermitted before.plan) (ethernet_steps before.plan is_macro dev dst kind payload)
  ethernet_permitted true dev dst kind payload lt p =
      let device : DevPlan = dev_plan before.plan.devs dev in
      All-cons (IsPermitted before.plan) (Xbegin device.pair device.side device.queue dev dst kind payload)
      (replicate (posts_in (pair_plan before.plan device.pair) device.side device.queue (length payload + ethernet_header)) (Post device.pair device.side device.queue))
      (its_queue dev lt, record { declared = lt; its_pair = refl; its_side = refl; its_queue = refl }, p)
      (All-replicate (IsPermitted before.plan) (posts_in (pair_plan before.plan device.pair) device.side device.queue (length payload + ethernet_header)) (Post device.pair device.side device.queue) (its_queue dev lt))
  ethernet_permitted false dev dst kind payload lt p =
      let device : DevPlan = dev_plan before.plan.devs dev in
      one before.plan (Xbegin device.pair device.side device.queue dev dst kind payload) (its_queue dev lt, record { declared = lt; its_pair = refl; its_side = refl; its_queue = refl }, p)

  ethernet_line_fits : (is_macro : Bool) (dev_text address_text kind_text payload_text : List ℕ) → 0 < length payload_text
      → Gives (Fits before) (rules.ethernet_line before is_macro dev_text address_text kind_text payload_text)
  ethernet_line_fits is_macro dev_text address_text kind_text payload_text some =
      gives_then _ _ _ (gives_at _ 2 _ (dev_declared before dev_text)) (λ dev lt.
      gives_then _ _ _ (gives_at _ 3 _ (bytes_counted 6 address_text)) (λ dst six.
      gives_then _ _ _ (gives_at _ 4 _ (kind_is_small kind_text)) (λ kind small.
      gives_then _ _ _ (gives_at _ 5 _ (bytes_spelled payload_text some)) (λ payload filled.
      gives_then _ _ _ (gives_passed (nat_lt most_frame_bytes (length payload + ethernet_header)) (whole TooMany)) (λ _ e.
      steps_fit (ethernet_steps before.plan is_macro dev dst kind payload)
      (ethernet_permitted is_macro dev dst kind payload lt (record { address = six; small_kind = small; some = filled; fits = ltb-false most_frame_bytes (length payload + ethernet_header) e })))))))

  -- By the number of words

  one_word_fits : (word a : List ℕ) → Gives (Fits before) (rules.line_of_one before word a)
  one_word_fits word a =
      gives_if _ (bytes_eq word (codes "wake")) _ _ (wake_line_fits a)
      (gives_if _ (bytes_eq word (codes "xnext")) _ _ (xnext_line_fits a) (gives_known _ (rules.pair_step word) _ (λ step e. pair_step_fits step ((pair_steps before.plan word).holds step e) a)))

  two_words_fit : (word a b : List ℕ) → Gives (Fits before) (rules.line_of_two before word a b)
  two_words_fit word a b =
      gives_if _ (bytes_eq word (codes "relay")) _ _ (relay_line_fits a b) (gives_known _ (rules.side_steps word) _ (λ steps e. side_line_fits steps ((side_steps before.plan word).holds steps e) a b))

  three_words_fit : (word a b c : List ℕ) → Gives (Fits before) (rules.line_of_three before word a b c)
  three_words_fit word a b c = by (rules.numbered_steps word) refl
    where
      by : (found : Option NumberedSteps) → rules.numbered_steps word ≡ found → Gives (Fits before) (rules.line_of_three before word a b c)
      by (Some numbered) is = rw is (numbered_line_fits numbered ((placed_steps before.plan word).holds numbered is) a b c)
      by None is = rw is (gives_known _ (rules.queue_steps word) _ (λ steps e. queue_line_fits steps ((queue_steps before.plan word).holds steps e) a b c))

  four_words_fit : (word a b c d : List ℕ) → 0 < length d → Gives (Fits before) (rules.line_of_four before word a b c d)
  four_words_fit word a b c d some =
      gives_if _ (bytes_eq word (codes "recv")) _ _ (receive_line_fits a b c d)
      (gives_if _ (bytes_eq word (codes "spad")) _ _ (spad_line_fits a b c d)
      (gives_if _ (bytes_eq word (codes "showmem")) _ _ (show_memory_fits a b c d)
      (gives_if _ (bytes_eq word (codes "xbegin")) _ _ (ethernet_line_fits false a b c d some)
      (gives_if _ (bytes_eq word (codes "xmit")) _ _ (ethernet_line_fits true a b c d some)
      (gives_known _ (rules.frame_steps word) _ (λ steps e. frame_line_fits steps ((frame_steps before.plan word).holds steps e) a b c d some))))))

  five_words_fit : (word a b c d e : List ℕ) → 0 < length e → Gives (Fits before) (rules.line_of_five before word a b c d e)
  five_words_fit word a b c d e some = gives_if _ (bytes_eq word (codes "poke")) _ _ (poke_line_fits a b c d e some) (gives_fault (Fits before) unknown_line)

  pub step_fits : (word : List ℕ) (words : List (List ℕ)) → Filled words → Gives (Fits before) (rules.step_line before word words)
  step_fits word [] h = gives_if _ (bytes_eq word (codes "traffic")) _ _ (gives_ok (Fits before) TrafficBegins tt) (gives_fault (Fits before) unknown_line)
  step_fits word (a ∷ []) h = one_word_fits word a
  step_fits word (a ∷ b ∷ []) h = two_words_fit word a b
  step_fits word (a ∷ b ∷ c ∷ []) h = three_words_fit word a b c
  step_fits word (a ∷ b ∷ c ∷ d ∷ []) h = four_words_fit word a b c d h.1.1.1.0
  step_fits word (a ∷ b ∷ c ∷ d ∷ e ∷ []) h = five_words_fit word a b c d e h.1.1.1.1.0
  step_fits word (a ∷ b ∷ c ∷ d ∷ e ∷ f ∷ words) h = gives_fault (Fits before) unknown_line
