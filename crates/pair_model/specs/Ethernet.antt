-- Ethernet frames, as a network device over a queue sends them (`ntb_netdev`).
use Rattle.std.specs.Prelude.{ℕ, ◌/◌, ◌%◌, List, ◌∷◌, ◌++◌}

-- the bytes of the two addresses and the kind in front of an Ethernet payload
abbrev pub ethernet_header : ℕ
ethernet_header = 14

-- an Ethernet frame: destination and source, the kind with its high byte first, and the payload
abbrev pub ethernet_frame : List ℕ → List ℕ → ℕ → List ℕ → List ℕ
ethernet_frame dst src kind payload = dst ++ src ++ kind / 256 ∷ kind % 256 ∷ payload
