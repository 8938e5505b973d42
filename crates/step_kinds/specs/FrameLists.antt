-- Lists of frames with promised room.
use Rattle.std.specs.Prelude.{◌≡◌, ℕ, ◌+◌, ◌-◌, List, [], ◌∷◌, ◌++◌, length, min, drop}

-- the frames, each a list of bytes, and how many more can be put in without asking for memory
pub record Frames : Type 0 where
  pub frames : List (List ℕ)
  pub spare : ℕ

-- no frames, and no room promised
abbrev pub no_frames : Frames
no_frames = record { frames = []; spare = 0 }

-- room is promised for this many more frames
abbrev pub frames_promised : Frames → ℕ → Frames
frames_promised list more = record { frames = list.frames; spare = list.spare + more }

-- the frame stands after all others, in room that was promised
abbrev pub with_last : Frames → List ℕ → Frames
with_last list frame = record { frames = list.frames ++ frame ∷ []; spare = list.spare - 1 }

-- the frame stands before all others, in room that was promised
abbrev pub with_first : Frames → List ℕ → Frames
with_first list frame = record { frames = frame ∷ list.frames; spare = list.spare - 1 }

-- the first frame, if there is one, is taken out, and its room is promised again
abbrev pub frames_without_first : Frames → Frames
frames_without_first list = record { frames = drop 1 list.frames; spare = list.spare + min 1 (length list.frames) }

-- two lists say the same where their frames are the same, whatever room is promised
abbrev pub SameFrames : Frames → Frames → Type 0
SameFrames one other = one.frames ≡ other.frames
