-- A switch of frames that are their bytes.
use Rattle.std.specs.Prelude.{◌≡◌, ℕ, ◌<◌, ◌≤◌, Bool, true, false, List, length}
use Rattle.std.specs.List.{AllByRecursion}
use Rattle.pair_model.specs.Fdb.{AreBelow}
use Rattle.pair_model.specs.declared.Station.{Station}
use Rattle.pair_model.specs.Ethernet.{ethernet_header}
use Rattle.pair_model.specs.Switch.{Switch, after_relay, relay_answer}
use Rattle.pair_model.specs.declared.RelayAnswer.{RelayAnswer}
use Rattle.pair_model.specs.declared.RelayAnswer.TheVariants.{Flood, To}

abbrev pub SwitchBytes : Type 0
SwitchBytes = Switch (List ℕ)

abbrev pub bytes_relay_answer : SwitchBytes → ℕ → RelayAnswer
bytes_relay_answer switch port = relay_answer (λ bytes. bytes) switch port

abbrev pub bytes_after_relay : SwitchBytes → ℕ → SwitchBytes
bytes_after_relay switch port = after_relay (λ bytes. bytes) switch port

-- the port that a frame goes to is one of this many
abbrev pub GoesBelow : ℕ → RelayAnswer → Type 0
GoesBelow ports (To target) = target < ports
GoesBelow ports _ = Unit {0}

-- whether a frame that was relayed waits at another port, or at all others
abbrev pub goes_on : RelayAnswer → Bool
goes_on (To target) = true
goes_on (Flood count) = true
goes_on answer = false

-- a frame that has an Ethernet header
abbrev pub HasHeader : List ℕ → Type 0
HasHeader bytes = ethernet_header ≤ length bytes

-- all frames of all lists have one
abbrev pub AllHaveHeaders : List (List (List ℕ)) → Type 0
AllHaveHeaders lists = AllByRecursion (AllByRecursion HasHeader) lists

-- what always holds of a switch: as many inboxes as lists of waiting frames, stations on its ports, no short frame that
-- waits
pub record IsLearnSwitch (inboxes waiting : List (List (List ℕ))) (fdb : List Station) : Type 0 where
  pub same_ports : length inboxes ≡ length waiting
  pub few_ports : length waiting ≤ 16
  pub stations : AreBelow (length waiting) fdb
  pub headers : AllHaveHeaders waiting
