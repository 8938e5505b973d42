-- What a claim of a slot, a load of an index and a cut leave as it is.
use Rattle.std.proofs.Common.{◌≡◌, ℕ, ◌+◌, Bool, true, length, if◌then◌else◌}
use Rattle.table_lane.specs.Words.{cut_word}
use Rattle.table_lane.specs.Borders.{Slots, TableSlotsStand}
use Rattle.table_lane.specs.ShownLane.{IndexStands, RoomStands, borders_of}
use Rattle.table_lane.specs.Moment.{Moment, ShowsLane}

-- the lane stays shown where these alone are others: who claims a slot, the index loaded, the link word, and the slots
pub shows_still : (N : ℕ) (m : Moment) (slots after : Slots) (claims : Bool) (loaded link : ℕ) (cut : Bool) → ShowsLane N m slots → IndexStands N m.words.index_out m.words.index m.lane.acked m.back.freed loaded → link ≡ (if cut then cut_word else 0) → (m.send.link ≡ cut_word → cut ≡ true)
    → RoomStands N (length m.send.sent) claims m.back.freed
    → TableSlotsStand N (borders_of m.back.freed m.lane.cleared (length m.recv.got + length m.recv.hand) m.mover.flagged (m.mover.flagged + length m.mover.held) (length m.send.sent) claims) m.send.sent after
    → ShowsLane N (record m { words = record m.words { link = link }; send = record m.send { claims = claims }; back = record m.back { index = loaded }; cut = record m.cut { cut = cut } }) after
shows_still N m slots after claims loaded link cut h index linked seen room places = assumption
