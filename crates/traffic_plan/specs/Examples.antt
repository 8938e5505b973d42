-- Worked examples of generated loads.
use Rattle.std.specs.Prelude.{◌≡◌, ℕ, [], ◌∷◌, ◌++◌, List, map, replicate, take}
use Rattle.step_kinds.specs.declared.names.Side.TheVariants.{A, B}
use Rattle.step_kinds.specs.declared.steps.Step.{Step}
use Rattle.step_kinds.specs.declared.steps.Step.TheVariants.{Begin, Post, Land, Look, Copy, Clear, Ack}
use Rattle.traffic_plan.specs.Load.{load_frame_lines, load_frame_steps, landings_of, length_of, payload_of, word_of}

-- the words that SplitMix64 gives for seed 1, by its published code
abbrev pub WordsOfSeedOne : Type 0
WordsOfSeedOne =
    (word_of 1 0 ≡ 0x910a2dec89025cc1) × (word_of 1 1 ≡ 0xbeeb8da1658eec67) × (word_of 1 2 ≡ 0xf893a2eefb32555e)
    × (word_of 1 3 ≡ 0x71c18690ee42c90b) × (word_of 1 4 ≡ 0x71bb54d8d101b5b9) × (word_of 1 5 ≡ 0xc34d0bff90150280)

-- the frames of the first words; their bytes are those of the word, the lowest first, again and again
abbrev pub FramesOfWords : Type 0
FramesOfWords =
    (length_of 0x910a2dec89025cc1 ≡ 66) × (length_of 0xf893a2eefb32555e ≡ 91) × (length_of 0x71bb54d8d101b5b9 ≡ 262)
    × (take 10 (payload_of 0x910a2dec89025cc1) ≡ 193 ∷ 92 ∷ 2 ∷ 137 ∷ 236 ∷ 45 ∷ 10 ∷ 145 ∷ 193 ∷ 92 ∷ [])

-- landings of writes of side A at these places
abbrev pub lands : List ℕ → List Step
lands places = map (Land 0 A) places

-- the places that the second words name
abbrev pub PlacesOfWords : Type 0
PlacesOfWords =
    (landings_of 0xbeeb8da1658eec67 ≡ lands (3 ∷ 0 ∷ 2 ∷ 1 ∷ 1 ∷ 1 ∷ 3 ∷ 2 ∷ []))
    × (landings_of 0x71c18690ee42c90b ≡ lands (3 ∷ 1 ∷ 2 ∷ 2 ∷ 0 ∷ 2 ∷ 1 ∷ 1 ∷ []))
    × (landings_of 0xc34d0bff90150280 ≡ lands (0 ∷ 2 ∷ 1 ∷ 0 ∷ 3 ∷ 3 ∷ 1 ∷ 3 ∷ []))

-- a frame of one byte has five writes; each of its steps stands on its line
abbrev pub StepsOfAFrame : Type 0
StepsOfAFrame =
    (load_frame_steps 0 0x0706050403020100
    ≡ Begin 0 A 0 (0 ∷ []) ∷ replicate 5 (Post 0 A 0) ++ lands (0 ∷ 1 ∷ 2 ∷ 3 ∷ 0 ∷ 1 ∷ 2 ∷ 3 ∷ []) ++ replicate 5 (Land 0 A 0)
    ++ Look 0 B 0 ∷ Copy 0 B 0 ∷ Clear 0 B 0 ∷ Ack 0 B 0 ∷ Land 0 B 0 ∷ [])
    × (map (λ line. line.line) (load_frame_lines 3 0 0) ≡ replicate 24 3)

pub record ExamplesHold : Type 0 where
  pub words_of_seed_one : WordsOfSeedOne
  pub frames_of_words : FramesOfWords
  pub places_of_words : PlacesOfWords
  pub steps_of_a_frame : StepsOfAFrame
