-- Worked examples: hosts a, b and c in a chain, if b joins its two devices by a switch.
use Rattle.std.specs.Prelude.{◌≡◌, ℕ, List, [], ◌∷◌, ◌++◌, drop, map, replicate, take}
use Rattle.step_kinds.specs.declared.names.LaneName.{LaneName}
use Rattle.step_kinds.specs.declared.names.Side.{Side}
use Rattle.step_kinds.specs.declared.names.Side.TheVariants.{A, B}
use Rattle.step_kinds.specs.declared.plan.DevPlan.{DevPlan}
use Rattle.step_kinds.specs.declared.plan.Plan.{Plan}
use Rattle.step_kinds.specs.declared.steps.Answer.{Answer}
use Rattle.step_kinds.specs.declared.steps.Answer.TheVariants.{OkNumber, Busy, Nothing, To, Flood}
use Rattle.step_kinds.specs.declared.steps.Step.{Step}
use Rattle.step_kinds.specs.declared.steps.Step.TheVariants.{Begin, Land, Post, Relay, Xnext}
use Rattle.pair_model.specs.Macros.{land_all, receive, send, xmit}
use Rattle.ledger_model.specs.Examples.{no_memory, received_answers, small_pair}
use Rattle.ledger_model.specs.NetworkLog.{switch_log}
use Rattle.ledger_model.specs.Paths.{path_frames}

-- an address by its last byte
abbrev pub station : ℕ → List ℕ
station last = 2 ∷ 0 ∷ 0 ∷ 0 ∷ 0 ∷ last ∷ []

abbrev pub device : ℕ → Side → ℕ → DevPlan
device pair side last = record { name = 100 ∷ []; pair = pair; side = side; queue = 0; address = station last; stop = 1; start = 1 }

-- device 0 is that of host a; 1 and 2 are those of host b, and the ports of its switch
abbrev pub chain : Plan
chain =
    record {
      pairs = small_pair ∷ small_pair ∷ [];
      devs = device 0 A 1 ∷ device 0 B 17 ∷ device 1 A 18 ∷ [];
      switches = record { name = 115 ∷ []; ports = 1 ∷ 2 ∷ [] } ∷ [];
      steps = [];
      traffic = [];
    }

abbrev pub answers : List Step → List Answer
answers steps = map (λ made. made.answer) (switch_log chain no_memory steps)

-- a frame with a payload of one byte
abbrev pub frame : ℕ → ℕ → ℕ → List ℕ
frame dst src byte = station dst ++ station src ++ 8 ∷ 0 ∷ byte ∷ []

-- host a sends to host c, whose station isn't known yet, and host b receives
abbrev pub asks : List Step
asks = xmit small_pair 0 A 0 0 (station 3) 2048 (97 ∷ []) ++ land_all 0 A 4 ++ receive 0 B 0 1

-- the switch floods the frame; then it begins on the second pair, and nothing else waits
abbrev pub Asked : Type 0
Asked = drop 10 (answers (asks ++ Relay 0 B 0 0 0 ∷ Xnext 1 A 0 2 ∷ Xnext 1 A 0 2 ∷ Relay 0 B 0 0 0 ∷ []))
    ≡ received_answers 0 (frame 3 1 97) ++ Flood 1 ∷ OkNumber 0 ∷ Nothing ∷ Nothing ∷ []

-- host c receives the frame, whose path leads back to host a's lane
abbrev pub hears : List Step
hears = asks ++ Relay 0 B 0 0 0 ∷ Xnext 1 A 0 2 ∷ replicate 5 (Post 1 A 0) ++ land_all 1 A 4 ++ receive 1 B 0 1

abbrev pub to_host_b : LaneName
to_host_b = record { pair = 0; from = A; queue = 0 }

abbrev pub to_host_c : LaneName
to_host_c = record { pair = 1; from = A; queue = 0 }

abbrev pub Heard : Type 0
Heard =
    path_frames chain no_memory hears to_host_b (to_host_c ∷ [])
    ≡ record { bytes = frame 3 1 97; origin = record { lane = to_host_b; session = 1; number = 0 } } ∷ []

-- it answers, and the switch knows the port of host a
abbrev pub replies : List Step
replies = send small_pair 1 B 0 (frame 1 3 98) ++ land_all 1 B 5 ++ Land 1 B 0 ∷ receive 1 A 0 1 ++ Relay 1 A 0 0 1 ∷ Xnext 0 B 0 1 ∷ []

abbrev pub Replied : Type 0
Replied = drop 41 (answers (hears ++ replies)) ≡ received_answers 0 (frame 1 3 98) ++ To 0 ∷ OkNumber 0 ∷ []

-- while the lane has writes left to post, the frame is refused and waits on
abbrev pub waits : List Step
waits = asks ++ Relay 0 B 0 0 0 ∷ Begin 1 A 0 (7 ∷ []) ∷ Xnext 1 A 0 2 ∷ replicate 5 (Post 1 A 0) ++ Xnext 1 A 0 2 ∷ Xnext 1 A 0 2 ∷ []

abbrev pub Waited : Type 0
Waited =
    (take 2 (drop 15 (answers waits)) ≡ OkNumber 0 ∷ Busy ∷ [])
    × (drop 22 (answers waits) ≡ OkNumber 1 ∷ Nothing ∷ [])

-- of two frames that host c receives then, the one that came by the switch has a path
abbrev pub Alone : Type 0
Alone =
    path_frames chain no_memory (waits ++ replicate 5 (Post 1 A 0) ++ land_all 1 A 10 ++ receive 1 B 0 1 ++ receive 1 B 0 1) to_host_b (to_host_c ∷ [])
    ≡ record { bytes = frame 3 1 97; origin = record { lane = to_host_b; session = 1; number = 0 } } ∷ []

abbrev pub NetworkExamplesHold : Type 0
NetworkExamplesHold = Asked × Heard × Replied × Waited × Alone
