-- The ports of switches: which devices are ports, the hosts of devices, and the devices that a line names as ports.
use Rattle.std.specs.Prelude.{ℕ, ◌+◌, ◌==◌, Bool, true, ◌||◌, Result, Ok, List, [], ◌∷◌, ◌++◌, length, slice_index_or}
use Rattle.std.specs.List.{list_all, list_any}
use Rattle.std.specs.Str.{bytes_eq}
use Rattle.step_kinds.specs.declared.names.Side.{Side}
use Rattle.step_kinds.specs.declared.names.Side.TheVariants.{A, B}
use Rattle.pair_model.specs.Plans.{dev_plan}
use Rattle.script_words.specs.Before.{Before, dev_word}
use Rattle.script_words.specs.Tests.{◌>>=◌, fault_if, fault_at, at}
use Rattle.script_words.specs.declared.parts.PairHosts.{PairHosts}
use Rattle.script_words.specs.declared.fault.Cause.TheVariants.{Repeated}
use Rattle.script_words.specs.declared.fault.LineFault.{LineFault}

abbrev pub no_hosts : PairHosts
no_hosts = record { a = []; b = [] }

-- the host of a side of a pair
abbrev pub host_at : PairHosts → Side → List ℕ
host_at hosts A = hosts.a
host_at hosts B = hosts.b

-- the host on which a device stands
abbrev pub host_of : Before → ℕ → List ℕ
host_of before dev =
    let device = dev_plan before.plan.devs dev in
    host_at (slice_index_or before.pair_hosts device.pair no_hosts) device.side

-- whether devices stand on one host: each on that of the first
abbrev pub on_one_host : Before → List ℕ → Bool
on_one_host before [] = true
on_one_host before (first ∷ devs) = list_all (λ dev. bytes_eq (host_of before dev) (host_of before first)) devs

-- whether a device is one of these
abbrev pub is_among : List ℕ → ℕ → Bool
is_among devs dev = list_any (λ other. other == dev) devs

-- whether a device is a port of a switch that is declared
abbrev pub is_port : Before → ℕ → Bool
is_port before dev = list_any (λ switch. is_among switch.ports dev) before.plan.switches

-- the word of a line that names the next port after these: the first stands in word 3
abbrev pub port_place : List ℕ → ℕ
port_place devs = 3 + length devs

-- the devices with the one that a word names, which is neither a port yet nor one of them
abbrev pub script_with_port : Before → List ℕ → List ℕ → Result (List ℕ) LineFault
script_with_port before devs word = do
  dev ← at (port_place devs) (dev_word before word)
  _ ← fault_if (is_port before dev || is_among devs dev) (fault_at (port_place devs) Repeated)
  Ok (devs ++ dev ∷ [])

-- the devices with those that further words name, in order
abbrev pub ports_from : Before → List ℕ → List (List ℕ) → Result (List ℕ) LineFault
ports_from before devs [] = Ok devs
ports_from before devs (word ∷ words) = do
  more ← script_with_port before devs word
  ports_from before more words
