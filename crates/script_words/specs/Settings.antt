-- The options of a pair: their spelling, and the options that words of a line spell.
use Rattle.std.specs.Prelude.{ℕ, ◌+◌, ◌==◌, not, Option, Some, None, Result, Ok, Err, List, [], ◌∷◌, ◌++◌, codes, length, if◌then◌else◌}
use Rattle.std.specs.List.{list_any}
use Rattle.std.specs.Option.{option_or}
use Rattle.std.specs.Str.{bytes_eq}
use Rattle.step_kinds.specs.declared.names.Side.{Side}
use Rattle.step_kinds.specs.declared.names.Side.TheVariants.{A, B}
use Rattle.pair_settings.specs.Settings.{key_text, same_setting, range_of, in_range}
use Rattle.pair_settings.specs.declared.settings.SideKey.{SideKey}
use Rattle.pair_settings.specs.declared.settings.SideKey.TheVariants.{Size, Cap, Windows, Queues, Version}
use Rattle.pair_settings.specs.declared.settings.Setting.{Setting}
use Rattle.pair_settings.specs.declared.settings.Setting.TheVariants.{Up, Strict, Raw, Mtu, OfSide}
use Rattle.script_words.specs.Tests.{◌>>=◌, fault_if, found_or, fault_at, at}
use Rattle.script_words.specs.Words.{number_word, behind}
use Rattle.script_words.specs.declared.fault.Cause.{Cause}
use Rattle.script_words.specs.declared.fault.Cause.TheVariants.{UnknownWord, Repeated, BadGeometry}
use Rattle.script_words.specs.declared.fault.LineFault.{LineFault}

-- Spelling

-- a word before its equals sign, and what stands after it where there is one
abbrev pub before_equals : List ℕ → List ℕ
before_equals [] = []
before_equals (b ∷ word) = if b == 61 then [] else b ∷ before_equals word

abbrev pub behind_equals : List ℕ → Option (List ℕ)
behind_equals [] = None
behind_equals (b ∷ word) = if b == 61 then Some word else behind_equals word

-- an option without a number
abbrev pub plain_setting : List ℕ → Option Setting
plain_setting word =
    if bytes_eq word (codes "up") then Some Up
    else if bytes_eq word (codes "strict") then Some Strict
    else if bytes_eq word (codes "raw") then Some Raw
    else None

-- which sides a key names after its text: both, or one
abbrev pub scope_of : List ℕ → Option (Option Side)
scope_of [] = Some None
scope_of (b ∷ []) = if b == 65 then Some (Some A) else if b == 66 then Some (Some B) else None
scope_of word = None

-- a key with its sides and the number that stands after it
abbrev pub scoped : SideKey → Option (List ℕ) → Option (ℕ → Setting)
scoped key None = None
scoped key (Some scope) = at_sides (scope_of scope) where
  at_sides : Option (Option Side) → Option (ℕ → Setting)
  at_sides None = None
  at_sides (Some side) = Some (λ number. OfSide key side number)

-- the option of a side's number that a key means
abbrev pub side_setting : List ℕ → Option (ℕ → Setting)
side_setting key =
    option_or (option_or (option_or (option_or
    (scoped Size (behind (key_text Size) key))
    (scoped Cap (behind (key_text Cap) key)))
    (scoped Windows (behind (key_text Windows) key)))
    (scoped Queues (behind (key_text Queues) key)))
    (scoped Version (behind (key_text Version) key))

-- the option that a key means
abbrev pub keyed_setting : List ℕ → Option (ℕ → Setting)
keyed_setting key = if bytes_eq key (codes "mtu") then Some (λ number. Mtu number) else side_setting key

abbrev pub keyed_word : List ℕ → Option (List ℕ) → Result Setting Cause
keyed_word key None = Err UnknownWord
keyed_word key (Some digits) = do
  setting ← found_or (keyed_setting key) UnknownWord
  number ← number_word digits
  Ok (setting number)

-- the option that a word spells
abbrev pub setting_word : List ℕ → Result Setting Cause
setting_word word = plain_or (plain_setting word) where
  plain_or : Option Setting → Result Setting Cause
  plain_or (Some setting) = Ok setting
  plain_or None = keyed_word (before_equals word) (behind_equals word)

-- The options of a line

-- the word of a line that has the next option after these: the first stands in word 5
abbrev pub option_place : List Setting → ℕ
option_place settings = 5 + length settings

-- the options with one more
abbrev pub with_setting : List Setting → List ℕ → Result (List Setting) LineFault
with_setting settings word = do
  setting ← at (option_place settings) (setting_word word)
  _ ← fault_if (list_any (same_setting setting) settings) (fault_at (option_place settings) Repeated)
  _ ← fault_if (not (in_range setting)) (record { word = option_place settings; cause = BadGeometry; range = range_of setting })
  Ok (settings ++ setting ∷ [])

abbrev pub settings_from : List Setting → List (List ℕ) → Result (List Setting) LineFault
settings_from settings [] = Ok settings
settings_from settings (word ∷ words) = do
  more ← with_setting settings word
  settings_from more words
