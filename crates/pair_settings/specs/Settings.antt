-- The options of a pair: which are the same, their ranges, and the pair that they declare.
use Rattle.std.specs.Prelude.{ℕ, ◌%◌, ◌==◌, Bool, true, false, not, ◌&&◌, ◌||◌, Option, Some, None, List, [], ◌∷◌, codes, nat_le, replicate, unwrap_or, if◌then◌else◌}
use Rattle.std.specs.List.{list_any}
use Rattle.std.specs.Option.{option_or}
use Rattle.std.specs.Str.{bytes_eq}
use Rattle.step_kinds.specs.Limits.{most_queues, most_windows, least_size, most_size, size_step, least_mtu, most_mtu}
use Rattle.step_kinds.specs.Sides.{other_side, same_side}
use Rattle.step_kinds.specs.declared.names.Side.{Side}
use Rattle.step_kinds.specs.declared.names.Side.TheVariants.{A, B}
use Rattle.step_kinds.specs.declared.plan.SidePlan.{SidePlan}
use Rattle.step_kinds.specs.declared.plan.PairPlan.{PairPlan}
use Rattle.pair_settings.specs.declared.settings.Range.{Range}
use Rattle.pair_settings.specs.declared.settings.SideKey.{SideKey}
use Rattle.pair_settings.specs.declared.settings.SideKey.TheVariants.{Size, Cap, Windows, Queues, Version}
use Rattle.pair_settings.specs.declared.settings.Setting.{Setting}
use Rattle.pair_settings.specs.declared.settings.Setting.TheVariants.{Up, Strict, Raw, Mtu, OfSide}

-- Repeats and ranges

-- a key as it is written
abbrev pub key_text : SideKey → List ℕ
key_text Size = codes "size"
key_text Cap = codes "cap"
key_text Windows = codes "windows"
key_text Queues = codes "queues"
key_text Version = codes "version"

abbrev pub same_key : SideKey → SideKey → Bool
same_key one other = bytes_eq (key_text one) (key_text other)

abbrev pub same_scope : Option Side → Option Side → Bool
same_scope None None = true
same_scope (Some one) (Some other) = same_side one other
same_scope one other = false

-- whether two options are the same one, whatever their numbers are
abbrev pub same_setting : Setting → Setting → Bool
same_setting Up Up = true
same_setting Strict Strict = true
same_setting Raw Raw = true
same_setting (Mtu n) (Mtu m) = true
same_setting (OfSide key side n) (OfSide other scope m) = same_key key other && same_scope side scope
same_setting one other = false

abbrev pub mtu_range : Range
mtu_range = record { least = least_mtu; most = most_mtu }

-- the range of a side's number
abbrev pub key_range : SideKey → Range
key_range Size = record { least = least_size; most = most_size }
key_range Cap = record { least = least_size; most = most_size }
key_range Windows = record { least = 1; most = most_windows }
key_range Queues = record { least = 1; most = most_queues }
key_range Version = record { least = 3; most = 5 }

-- the range of an option's number, if it has one
abbrev pub range_of : Setting → Option Range
range_of (Mtu number) = Some mtu_range
range_of (OfSide key side number) = Some (key_range key)
range_of setting = None

abbrev pub is_within : Range → ℕ → Bool
is_within range number = nat_le range.least number && nat_le number range.most

-- whether a number of bytes is a whole number of steps, if the key's is one of bytes
abbrev pub is_stepped : SideKey → ℕ → Bool
is_stepped Size bytes = bytes % size_step == 0
is_stepped Cap bytes = bytes % size_step == 0
is_stepped key number = true

-- whether an option's number, taken by itself, is one that it may have
abbrev pub in_range : Setting → Bool
in_range (Mtu number) = is_within mtu_range number
in_range (OfSide key side number) = is_within (key_range key) number && is_stepped key number
in_range setting = true

-- The pair that they declare

-- the number of an option of these sides, if it is given
abbrev pub setting_number_at : SideKey → Option Side → List Setting → Option ℕ
setting_number_at key side [] = None
setting_number_at key side (OfSide other scope number ∷ settings) =
    if same_key key other && same_scope side scope then Some number else setting_number_at key side settings
setting_number_at key side (setting ∷ settings) = setting_number_at key side settings

-- a side's number: its own key's, else the plain key's, else what it is where nothing is said
abbrev pub side_number : List Setting → SideKey → Side → ℕ → ℕ
side_number settings key side default = unwrap_or (option_or (setting_number_at key (Some side) settings) (setting_number_at key None settings)) default

abbrev pub mtu_in : List Setting → ℕ
mtu_in [] = most_mtu
mtu_in (Mtu number ∷ settings) = number
mtu_in (setting ∷ settings) = mtu_in settings

abbrev pub has_setting : Setting → List Setting → Bool
has_setting setting settings = list_any (same_setting setting) settings

-- a side's numbers where nothing is said of them
abbrev pub default_version : ℕ
default_version = 4

abbrev pub default_queues : ℕ
default_queues = 1

abbrev pub default_windows : ℕ
default_windows = 1

abbrev pub default_size : ℕ
default_size = 65536

-- the bytes of each window that a side sends through
abbrev pub size_of : List Setting → Side → ℕ
size_of settings side = side_number settings Size side default_size

-- one side of the pair; the largest window that its memory gives is the peer's where nothing else is said
abbrev pub side_with : List Setting → Side → SidePlan
side_with settings side =
    record {
      version = side_number settings Version side default_version;
      queues = side_number settings Queues side default_queues;
      windows = side_number settings Windows side default_windows;
      size = size_of settings side;
      cap = side_number settings Cap side (size_of settings (other_side side));
    }

abbrev pub pair_with : List ℕ → List Setting → PairPlan
pair_with name settings =
    record {
      name = name;
      a = side_with settings A;
      b = side_with settings B;
      mtu = mtu_in settings;
      up = has_setting Up settings;
      strict = has_setting Strict settings;
      raw = has_setting Raw settings;
      class_a = replicate most_queues 0;
      class_b = replicate most_queues 0;
    }

-- Whether the numbers of a pair go together

-- each side's windows fit the peer's memory
abbrev pub sizes_fit : PairPlan → Bool
sizes_fit pair = nat_le pair.a.size pair.b.cap && nat_le pair.b.size pair.a.cap

-- the two sides can be brought up by a handshake
abbrev pub agrees : PairPlan → Bool
agrees pair =
    (nat_le 4 pair.a.version && nat_le 4 pair.b.version)
    && ((pair.a.queues == pair.b.queues) && ((pair.a.windows == pair.b.windows) && sizes_fit pair))

-- a slot has room for the longer header of version 5 and four bytes
abbrev pub has_room_for_header : PairPlan → Bool
has_room_for_header pair = not ((pair.a.version == 5) || (pair.b.version == 5)) || nat_le 20 pair.mtu

abbrev pub goes_together : PairPlan → Bool
goes_together pair =
    (nat_le 4 pair.a.version || nat_le 4 pair.b.version)
    && (has_room_for_header pair && ((not pair.up || agrees pair) && (not pair.raw || sizes_fit pair)))
