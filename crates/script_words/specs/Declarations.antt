-- Declarations: hosts, pairs, devices, classes and switches. A line's words are tested from left to right: of each its
-- spelling, then what it names, then its range. The tests of the line as a whole come after them.
use Rattle.std.specs.Prelude.{ℕ, ◌==◌, Bool, true, false, if◌then◌else◌, not, ◌&&◌, Result, Ok, Err, List, [], ◌∷◌, length, codes, nat_le, nat_lt}
use Rattle.std.specs.List.{list_any}
use Rattle.std.specs.Str.{bytes_eq}
use Rattle.step_kinds.specs.Sides.{same_side}
use Rattle.step_kinds.specs.Limits.{most_hosts, most_pairs, most_devices, most_switches, most_threshold, least_ports, most_ports}
use Rattle.step_kinds.specs.declared.names.Side.{Side}
use Rattle.step_kinds.specs.declared.names.Side.TheVariants.{A, B}
use Rattle.step_kinds.specs.declared.plan.DevPlan.{DevPlan}
use Rattle.script_words.specs.Before.{Before, Given, Host, APair, ADevice, AClass, ASwitch, StepsBegin, TrafficBegins, has_name, pair_names, dev_names, switch_names, named_queue}
use Rattle.script_words.specs.Ports.{on_one_host, ports_from}
use Rattle.pair_settings.specs.Settings.{pair_with, goes_together}
use Rattle.script_words.specs.Settings.{settings_from}
use Rattle.script_words.specs.Tests.{◌>>=◌, fault_if, found_or, unknown_line, whole, at, within}
use Rattle.script_words.specs.Words.{name_word, number_word, word_number_in, hex_of, behind}
use Rattle.script_words.specs.declared.parts.QueueName.{QueueName}
use Rattle.script_words.specs.declared.fault.Cause.{Cause}
use Rattle.script_words.specs.declared.fault.Cause.TheVariants.{UnknownWord, Repeated, UnknownName, BadGeometry, BadSwitch, TooMany}
use Rattle.script_words.specs.declared.fault.LineFault.{LineFault}

-- a name that isn't one of these yet
abbrev pub new_name : List (List ℕ) → List ℕ → Result (List ℕ) Cause
new_name names word = do
  name ← name_word word
  _ ← fault_if (has_name names name) Repeated
  Ok name

-- `host NAME`
abbrev pub host_line : Before → List ℕ → Result Given LineFault
host_line before word = do
  name ← at 2 (new_name before.hosts word)
  _ ← fault_if (not (nat_lt (length before.hosts) most_hosts)) (whole TooMany)
  Ok (Host name)

-- a host that is declared
abbrev pub host_word : Before → List ℕ → Result (List ℕ) Cause
host_word before word = do
  name ← name_word word
  _ ← fault_if (not (has_name before.hosts name)) UnknownName
  Ok name

-- `pair NAME HOST HOST OPTION..`
abbrev pub pair_line : Before → List ℕ → List ℕ → List ℕ → List (List ℕ) → Result Given LineFault
pair_line before word host_a host_b options = do
  name ← at 2 (new_name (pair_names before) word)
  a ← at 3 (host_word before host_a)
  b ← at 4 (host_word before host_b)
  settings ← settings_from [] options
  _ ← fault_if (bytes_eq a b) (whole Repeated)
  _ ← fault_if (not (goes_together (pair_with name settings))) (whole BadGeometry)
  _ ← fault_if (not (nat_lt (length before.plan.pairs) most_pairs)) (whole TooMany)
  Ok (APair (pair_with name settings) (record { a = a; b = b }))

-- a device's threshold
abbrev pub threshold_of : List ℕ → Result ℕ Cause
threshold_of digits = do
  number ← number_word digits
  _ ← fault_if (nat_lt most_threshold number) BadGeometry
  Ok number

-- the same after its key, in word n of the line
abbrev pub threshold_word : ℕ → List ℕ → List ℕ → Result ℕ LineFault
threshold_word n key word = do
  digits ← at n (found_or (behind key word) UnknownWord)
  within n 0 most_threshold (threshold_of digits)

-- whether a device sits on this queue
abbrev pub sits_on : ℕ → Side → ℕ → DevPlan → Bool
sits_on pair side queue dev = (dev.pair == pair) && (same_side dev.side side && (dev.queue == queue))

-- `dev NAME PAIR SIDE QUEUE ADDRESS stop=K start=K`
abbrev pub dev_line : Before → List ℕ → List ℕ → List ℕ → List ℕ → List ℕ → List ℕ → List ℕ → Result Given LineFault
dev_line before name_text pair_text side_text queue_text address_text stop_text start_text = do
  name ← at 2 (new_name (dev_names before) name_text)
  on ← named_queue before 3 pair_text side_text queue_text
  address ← at 6 (hex_of 6 address_text)
  stop ← threshold_word 7 (codes "stop=") stop_text
  start ← threshold_word 8 (codes "start=") start_text
  _ ← fault_if (list_any (sits_on on.pair on.side on.queue) before.plan.devs) (whole Repeated)
  _ ← fault_if (nat_lt start stop) (whole BadGeometry)
  _ ← fault_if (not (nat_lt (length before.plan.devs) most_devices)) (whole TooMany)
  Ok (ADevice (record { name = name; pair = on.pair; side = on.side; queue = on.queue; address = address; stop = stop; start = start }))

-- whether this is the same queue
abbrev pub is_queue : ℕ → Side → ℕ → QueueName → Bool
is_queue pair side queue name = (name.pair == pair) && (same_side name.side side && (name.queue == queue))

-- `class PAIR SIDE QUEUE CLASS`
abbrev pub class_line : Before → List ℕ → List ℕ → List ℕ → List ℕ → Result Given LineFault
class_line before pair_text side_text queue_text class_text = do
  name ← named_queue before 2 pair_text side_text queue_text
  class ← word_number_in 5 0 7 class_text
  _ ← fault_if (list_any (is_queue name.pair name.side name.queue) before.classed) (whole Repeated)
  Ok (AClass name class)

-- `switch NAME DEV DEV..`
abbrev pub switch_line : Before → List ℕ → List (List ℕ) → Result Given LineFault
switch_line before name_text dev_texts = do
  name ← at 2 (new_name (switch_names before) name_text)
  ports ← ports_from before [] dev_texts
  _ ← fault_if (not (on_one_host before ports)) (whole BadSwitch)
  _ ← fault_if (not (nat_lt (length before.plan.switches) most_switches)) (whole TooMany)
  Ok (ASwitch (record { name = name; ports = ports }))

-- A line among the declarations: its first word says what it is, and then the number of its words has to be one that it
-- takes.
abbrev pub lone_word : List (List ℕ) → Given → Result Given LineFault
lone_word [] given = Ok given
lone_word words given = Err unknown_line

abbrev pub host_words : Before → List (List ℕ) → Result Given LineFault
host_words before (a ∷ []) = host_line before a
host_words before words = Err unknown_line

abbrev pub pair_words : Before → List (List ℕ) → Result Given LineFault
pair_words before (a ∷ b ∷ c ∷ options) = pair_line before a b c options
pair_words before words = Err unknown_line

abbrev pub dev_words : Before → List (List ℕ) → Result Given LineFault
dev_words before (a ∷ b ∷ c ∷ d ∷ e ∷ f ∷ g ∷ []) = dev_line before a b c d e f g
dev_words before words = Err unknown_line

abbrev pub class_words : Before → List (List ℕ) → Result Given LineFault
class_words before (a ∷ b ∷ c ∷ d ∷ []) = class_line before a b c d
class_words before words = Err unknown_line

-- whether a switch may have this many ports
abbrev pub is_ports : ℕ → Bool
is_ports ports = nat_le least_ports ports && nat_le ports most_ports

abbrev pub switch_words : Before → List (List ℕ) → Result Given LineFault
switch_words before [] = Err unknown_line
switch_words before (name ∷ devs) = if is_ports (length devs) then switch_line before name devs else Err unknown_line

abbrev pub declaration_line : Before → List ℕ → List (List ℕ) → Result Given LineFault
declaration_line before word words =
    if bytes_eq word (codes "host") then host_words before words
    else if bytes_eq word (codes "pair") then pair_words before words
    else if bytes_eq word (codes "dev") then dev_words before words
    else if bytes_eq word (codes "class") then class_words before words
    else if bytes_eq word (codes "switch") then switch_words before words
    else if bytes_eq word (codes "steps") then lone_word words StepsBegin
    else if bytes_eq word (codes "traffic") then lone_word words TrafficBegins
    else Err unknown_line
