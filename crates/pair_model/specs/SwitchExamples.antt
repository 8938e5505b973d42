-- Worked examples: frames through a switch with three ports.
use Rattle.std.specs.Prelude.{◌≡◌, ℕ, List, [], ◌∷◌, ◌++◌, Some, None, replicate}
use Rattle.pair_model.specs.Fdb.{lookup}
use Rattle.pair_model.specs.Switch.{Switch, after_relay, arrived, first, new_switch, relay_answer, sent}
use Rattle.pair_model.specs.declared.RelayAnswer.TheVariants.{Nothing, Short, Filtered, To, Flood}

-- an address by its last byte, that of a group, and a frame with a payload of one byte
abbrev pub station : ℕ → List ℕ
station last = 2 ∷ 0 ∷ 0 ∷ 0 ∷ 0 ∷ last ∷ []

abbrev pub group : List ℕ
group = replicate 6 255

abbrev pub frame : List ℕ → List ℕ → ℕ → List ℕ
frame dst src byte = dst ++ src ++ 8 ∷ 0 ∷ byte ∷ []

abbrev pub same : List ℕ → List ℕ
same bytes = bytes

abbrev pub Bytes : Type 0
Bytes = Switch (List ℕ)

-- station 1 on port 0 sends to station 3, which isn't known: all other ports get the frame
abbrev pub hello : List ℕ
hello = frame (station 3) (station 1) 97

abbrev pub asked : Bytes
asked = after_relay same (arrived (new_switch 3) 0 hello) 0

abbrev pub Asked : Type 0
Asked =
    (relay_answer same (arrived (new_switch 3) 0 hello) 0 ≡ Flood 2)
    × (asked.inboxes ≡ [] ∷ [] ∷ [] ∷ [])
    × (asked.waiting ≡ [] ∷ (hello ∷ []) ∷ (hello ∷ []) ∷ [])
    × (lookup asked.fdb (station 1) ≡ Some 0)
    × (lookup asked.fdb (station 3) ≡ None)

-- station 3 on port 2 answers: port 0 alone gets the frame
abbrev pub reply : List ℕ
reply = frame (station 1) (station 3) 98

abbrev pub answered : Bytes
answered = after_relay same (arrived asked 2 reply) 2

abbrev pub Answered : Type 0
Answered =
    (relay_answer same (arrived asked 2 reply) 2 ≡ To 0)
    × (answered.waiting ≡ (reply ∷ []) ∷ (hello ∷ []) ∷ (hello ∷ []) ∷ [])
    × (lookup answered.fdb (station 3) ≡ Some 2)
    × (first answered 0 ≡ Some reply)
    × (first (sent answered 0) 0 ≡ None)

-- station 1 moves to port 1: what goes to it afterwards goes there, and what comes from there is filtered
abbrev pub moved : Bytes
moved = after_relay same (arrived answered 1 hello) 1

abbrev pub Moved : Type 0
Moved =
    (relay_answer same (arrived answered 1 hello) 1 ≡ To 2)
    × (lookup moved.fdb (station 1) ≡ Some 1)
    × (relay_answer same (arrived moved 2 reply) 2 ≡ To 1)
    × (relay_answer same (arrived moved 1 reply) 1 ≡ Filtered)

-- a group's address is flooded and never learned; a frame to its own source is filtered; under 14 bytes it is dropped
abbrev pub Others : Type 0
Others =
    (relay_answer same (arrived moved 0 (frame group (station 4) 99)) 0 ≡ Flood 2)
    × ((after_relay same (arrived moved 0 (frame (station 1) group 99)) 0).fdb ≡ moved.fdb)
    × (relay_answer same (arrived moved 0 (frame (station 5) (station 5) 99)) 0 ≡ Filtered)
    × (relay_answer same (arrived moved 0 (replicate 13 2)) 0 ≡ Short 13)
    × (relay_answer same (arrived moved 0 (replicate 14 2)) 0 ≡ Filtered)
    × (after_relay same (arrived moved 0 (replicate 13 2)) 0 ≡ moved)
    × (relay_answer same moved 0 ≡ Nothing)
    × (after_relay same moved 0 ≡ moved)

-- the frames of an inbox are relayed in the order in which they arrived
abbrev pub Turns : Type 0
Turns = (after_relay same (arrived (arrived (new_switch 3) 0 hello) 0 reply) 0).inboxes ≡ (reply ∷ []) ∷ [] ∷ [] ∷ []

abbrev pub SwitchExamplesHold : Type 0
SwitchExamplesHold = Asked × Answered × Moved × Others × Turns
