-- A learning switch: its ports, numbered from 0, and its forwarding database. Frames are of any type `F`, with a
-- function that gives their bytes.
use Rattle.std.specs.Prelude.{ℕ, zero, suc, ◌-◌, ◌==◌, nat_lt, if◌then◌else◌, List, [], ◌∷◌, ◌++◌, Option, Some, None, length, map, drop, replicate, slice_get, slice_index_or, slice_set}
use Rattle.pair_model.specs.Fdb.{destination, is_multicast, learned_source, lookup, source}
use Rattle.pair_model.specs.Ethernet.{ethernet_header}
use Rattle.pair_model.specs.declared.Station.{Station}
use Rattle.pair_model.specs.declared.RelayAnswer.{RelayAnswer}
use Rattle.pair_model.specs.declared.RelayAnswer.TheVariants.{Nothing, Short, Filtered, To, Flood}

-- of each port the frames that arrived, its inbox, and those that wait to be sent; and the stations that are known
pub record Switch (F : Type 0) : Type 0 where
  pub inboxes : List (List F)
  pub waiting : List (List F)
  pub fdb : List Station

-- a switch with this many ports: no frame, and no station known
abbrev pub new_switch : {F : Type 0} → ℕ → Switch F
new_switch ports = record { inboxes = replicate ports []; waiting = replicate ports []; fdb = [] }

-- the list of a port
abbrev pub list_of : {F : Type 0} → List (List F) → ℕ → List F
list_of lists port = slice_index_or lists port []

-- a frame joins the list of a port, as its last
abbrev pub joined : {F : Type 0} → List (List F) → ℕ → F → List (List F)
joined lists port frame = slice_set lists port (list_of lists port ++ frame ∷ [])

-- the first frame of a port's list is taken out
abbrev pub without_first : {F : Type 0} → List (List F) → ℕ → List (List F)
without_first lists port = slice_set lists port (drop 1 (list_of lists port))

-- a frame joins the lists of all ports but its own
abbrev pub flooded : {F : Type 0} → List (List F) → ℕ → F → List (List F)
flooded [] port frame = []
flooded (list ∷ rest) zero frame = list ∷ map (λ other. other ++ frame ∷ []) rest
flooded (list ∷ rest) (suc port) frame = (list ++ frame ∷ []) ∷ flooded rest port frame

-- a frame arrives on a port
abbrev pub arrived : {F : Type 0} → Switch F → ℕ → F → Switch F
arrived switch port frame = record switch { inboxes = joined switch.inboxes port frame }

-- the first frame that waits on a port
abbrev pub first : {F : Type 0} → Switch F → ℕ → Option F
first switch port = slice_get (list_of switch.waiting port) 0

-- the first frame that waits on a port is sent
abbrev pub sent : {F : Type 0} → Switch F → ℕ → Switch F
sent switch port = record switch { waiting = without_first switch.waiting port }

-- where a frame from a port goes in a switch with this many ports, by the port of its destination, if that is known
abbrev pub unicast_answer : ℕ → ℕ → Option ℕ → RelayAnswer
unicast_answer ports port None = Flood (ports - 1)
unicast_answer ports port (Some target) = if target == port then Filtered else To target

abbrev pub forward_answer : ℕ → List Station → ℕ → List ℕ → RelayAnswer
forward_answer ports fdb port dst = if is_multicast dst then Flood (ports - 1) else unicast_answer ports port (lookup fdb dst)

-- the lists of waiting frames after that answer to a frame from a port
abbrev pub forwarded : {F : Type 0} → List (List F) → ℕ → F → RelayAnswer → List (List F)
forwarded waiting port frame Nothing = waiting
forwarded waiting port frame (Short len) = waiting
forwarded waiting port frame Filtered = waiting
forwarded waiting port frame (To target) = joined waiting target frame
forwarded waiting port frame (Flood count) = flooded waiting port frame

-- a short frame is dropped; of any other the source is learned, and then its destination is looked up
abbrev pub frame_answer : ℕ → List Station → ℕ → List ℕ → RelayAnswer
frame_answer ports fdb port bytes =
    if nat_lt (length bytes) ethernet_header then Short (length bytes) else forward_answer ports (learned_source fdb port (source bytes)) port (destination bytes)

abbrev pub fdb_after : List Station → ℕ → List ℕ → List Station
fdb_after fdb port bytes = if nat_lt (length bytes) ethernet_header then fdb else learned_source fdb port (source bytes)

module _ {F : Type 0} (bytes_of : F → List ℕ) where
  abbrev pub answer_of : Switch F → ℕ → Option F → RelayAnswer
  answer_of switch port None = Nothing
  answer_of switch port (Some frame) = frame_answer (length switch.waiting) switch.fdb port (bytes_of frame)

  abbrev pub after : Switch F → ℕ → Option F → Switch F
  after switch port None = switch
  after switch port (Some frame) =
      record {
        inboxes = without_first switch.inboxes port;
        waiting = forwarded switch.waiting port frame (frame_answer (length switch.waiting) switch.fdb port (bytes_of frame));
        fdb = fdb_after switch.fdb port (bytes_of frame);
      }

  -- the first frame of a port's inbox is relayed: the answer, and the switch after it
  abbrev pub relay_answer : Switch F → ℕ → RelayAnswer
  relay_answer switch port = answer_of switch port (slice_get (list_of switch.inboxes port) 0)

  abbrev pub after_relay : Switch F → ℕ → Switch F
  after_relay switch port = after switch port (slice_get (list_of switch.inboxes port) 0)
