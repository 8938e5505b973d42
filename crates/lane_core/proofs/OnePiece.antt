-- A frame is one piece: no entry of it follows.
use Rattle.std.proofs.Common.{◌≡◌, refl}
use Rattle.lane_model.specs.Lane.{left_of}
use Rattle.lane_core.specs.Parts.{entry_seen}
use Rattle.lane_core.specs.declared.entry.Entry.{Entry}
use Rattle.lane_core.specs.declared.entry.Entry.TheVariants.{Carries, GoesDown}

-- An entry of this lane, as the model sees it, has no further entry of its frame after it.
pub none_left : (entry : Entry) → left_of (entry_seen entry) ≡ 0
none_left (Carries frame) = refl
none_left GoesDown = refl
