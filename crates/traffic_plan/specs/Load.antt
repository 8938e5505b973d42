-- The plan of a generated load: one pair, and the steps of this many frames from its side A to its side B.
use Rattle.std.specs.Prelude.{ℕ, zero, suc, ◌+◌, ◌*◌, ◌/◌, ◌%◌, ◌^◌, None, List, [], ◌∷◌, ◌++◌, map}
use Rattle.std.specs.List.{flat_map, range_with_len}
use Rattle.rand_xoshiro.specs.SplitMix64.{mix_u64}
use Rattle.step_kinds.specs.declared.names.Side.TheVariants.{A, B}
use Rattle.step_kinds.specs.declared.plan.PairPlan.{PairPlan}
use Rattle.step_kinds.specs.declared.plan.Line.{Line}
use Rattle.step_kinds.specs.declared.plan.Plan.{Plan}
use Rattle.step_kinds.specs.declared.steps.Step.{Step}
use Rattle.step_kinds.specs.declared.steps.Step.TheVariants.{Land}
use Rattle.lane_model.specs.Lane.{chunks_in}
use Rattle.pair_model.specs.Macros.{send, land_all, receive}
use Rattle.step_list.specs.Compact.{lines_with}
use Rattle.pair_settings.specs.Settings.{pair_with}
use Rattle.pair_settings.specs.declared.settings.SideKey.TheVariants.{Size}
use Rattle.pair_settings.specs.declared.settings.Setting.TheVariants.{Up, Mtu, OfSide}

-- the word that SplitMix64 gives at a state, and the state after it
unfoldable pub load_word_at : ℕ → ℕ
load_word_at state = (mix_u64 state).0

unfoldable pub state_past : ℕ → ℕ
state_past state = (mix_u64 state).1

-- its state after this many words; it starts with the seed itself
abbrev pub state_after : ℕ → ℕ → ℕ
state_after seed zero = seed
state_after seed (suc n) = state_past (state_after seed n)

-- word n of a seed, from 0
abbrev pub word_of : ℕ → ℕ → ℕ
word_of seed n = load_word_at (state_after seed n)

-- the frames that a load has at most
abbrev pub most_load_frames : ℕ
most_load_frames = 30000

-- `p a b up size=4096 mtu=1023`: all other numbers as they are where a script doesn't say them
abbrev pub load_pair : PairPlan
load_pair = pair_with (112 ∷ []) (Up ∷ OfSide Size None 4096 ∷ Mtu 1023 ∷ [])

-- by its first word a frame has 1 to 300 bytes: the word's eight bytes, the lowest first, again and again
abbrev pub length_of : ℕ → ℕ
length_of word = 1 + word % 300

abbrev pub payload_of : ℕ → List ℕ
payload_of word = map (λ j. word / 2 ^ (8 * (j % 8)) % 256) (range_with_len 0 (length_of word))

-- bytes eight times
abbrev pub eight_of : List ℕ → List ℕ
eight_of bytes = (bytes ++ bytes ++ bytes ++ bytes) ++ (bytes ++ bytes ++ bytes ++ bytes)

-- each byte of its second word says where a write may land: at a place from 0 to 3
abbrev pub landings_of : ℕ → List Step
landings_of word = map (λ i. Land 0 A (word / 2 ^ (8 * i) % 4)) (range_with_len 0 8)

-- The frame is sent, and eight landings are tried. Then landings of the first write in flight are tried, as many as the
-- frame has writes. The peer receives the frame, and its index write lands.
abbrev pub load_frame_steps : ℕ → ℕ → List Step
load_frame_steps word landings =
    let chunks = chunks_in (length_of word) in
    send load_pair 0 A 0 (payload_of word) ++ landings_of landings ++ land_all 0 A (chunks + 4) ++ receive 0 B 0 chunks ++ Land 0 B 0 ∷ []

abbrev pub load_frame_lines : ℕ → ℕ → ℕ → List Line
load_frame_lines line word landings = lines_with line (load_frame_steps word landings)

-- frame k, from 0: its line, counted from 1, and its two words
abbrev pub lines_of_frame : ℕ → ℕ → List Line
lines_of_frame seed k = load_frame_lines (k + 1) (word_of seed (2 * k)) (word_of seed (2 * k + 1))

-- a plan of the one pair with these steps
abbrev pub load_plan_of : List Line → Plan
load_plan_of lines = record { pairs = load_pair ∷ []; devs = []; switches = []; steps = lines; traffic = [] }

abbrev pub load_of : ℕ → ℕ → Plan
load_of seed frames = load_plan_of (flat_map (lines_of_frame seed) (range_with_len 0 frames))

-- a load whose frames are given one after another: its seed, and how many were given
pub record LoadGiven : Type 0 where
  pub seed : ℕ
  pub given : ℕ

abbrev pub frames_given : ℕ → ℕ → LoadGiven
frames_given seed given = record { seed = seed; given = given }
