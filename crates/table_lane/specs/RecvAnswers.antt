-- What the receiver's end, the way back and the cut answer, and what they then know, by what they load.
use Rattle.std.specs.Prelude.{◌≡◌, ◌≢◌, ◌==◌, ℕ, if◌then◌else◌, List, [], ◌∷◌, ◌++◌, length}
use Rattle.table_lane.specs.declared.parts.RecvPart.{RecvPart}
use Rattle.table_lane.specs.declared.parts.BackPart.{BackPart}
use Rattle.table_lane.specs.LaneNames as phase
use Rattle.table_lane.specs.LaneNames.{done, tail_of}
use Rattle.table_lane.specs.Rule.{Sitter}
use Rattle.table_lane.specs.Views.{the_recv, with_recv}
use Rattle.table_lane.specs.Knowledge.{flag_loaded, index_out_loaded, index_named, index_stored}
use Rattle.table_lane.specs.declared.recv.RecvAnswer.{RecvAnswer}
use Rattle.table_lane.specs.declared.recv.RecvAnswer.TheVariants.{Got, Empty}
use Rattle.table_lane.specs.declared.back.BackAnswer.{BackAnswer}
use Rattle.table_lane.specs.declared.back.BackAnswer.TheVariants.{Index, Idle}

-- one more frame, and the entry is given back
abbrev pub frame_received : RecvPart → List ℕ → RecvPart
frame_received part frame = record part { got = part.got ++ frame ∷ [] }

-- a frame comes just where the flag that this call loaded is DONE
abbrev pub Receives : RecvPart → RecvAnswer → RecvPart → Type 0
Receives before (Got number frame) after = (after.flag ≡ done) × (number ≡ length before.got) × (after ≡ frame_received (flag_loaded before done) frame)
Receives before Empty after = (after.flag ≢ done) × (after ≡ flag_loaded before after.flag)

-- the receiver looks at no frame, and the next one is entry n
pub record IsReady (N n : ℕ) (part : RecvPart) : Type 0 where
  pub idle : part.phase ≡ phase.Idle
  pub no_frame : part.hand ≡ []
  pub of : part.entries ≡ N
  pub next : n ≡ length part.got

-- what a seat knows where the flag was not up, and where a frame came; its other parts and its slots are as before
abbrev pub NothingCame : Sitter → ℕ → Sitter → Type 0
NothingCame before found after = (found ≢ done) × (after ≡ (with_recv before.0 (flag_loaded (the_recv before.0) found), before.1))

abbrev pub FrameCame : Sitter → List ℕ → Sitter → Type 0
FrameCame before frame after = after ≡ (with_recv before.0 (frame_received (flag_loaded (the_recv before.0) done) frame), before.1)

-- by the index out that this call loads: new where it isn't the index word that was stored last
abbrev pub back_answer : BackPart → BackAnswer
back_answer seen = if seen.index == tail_of seen.entries seen.freed then Idle else Index (index_named seen)

abbrev pub after_back : BackPart → BackPart
after_back seen = if seen.index == tail_of seen.entries seen.freed then seen else index_stored seen

abbrev pub GivesBack : BackPart → BackAnswer → BackPart → Type 0
GivesBack before answer after = let seen = index_out_loaded before after.index in (answer ≡ back_answer seen) × (after ≡ after_back seen)
