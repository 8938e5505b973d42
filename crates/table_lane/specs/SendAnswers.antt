-- What the sender's end answers, and what it then knows, by what it loads.
use Rattle.std.specs.Prelude.{◌≡◌, ◌==◌, ℕ, nat_lt, if◌then◌else◌, List, length}
use Rattle.table_lane.specs.declared.parts.SendPart.{SendPart}
use Rattle.table_lane.specs.Words.{cut_word}
use Rattle.table_lane.specs.Knowledge.{link_loaded, index_loaded, head, free_by, frame_sent}
use Rattle.table_lane.specs.declared.send.SendAnswer.{SendAnswer}
use Rattle.table_lane.specs.declared.send.SendAnswer.TheVariants.{Sent, NoRoom, Cut}

-- by the link word and the index word that this call loads: the index word only if the link isn't cut
abbrev pub send_answer : SendPart → List ℕ → ℕ → ℕ → SendAnswer
send_answer part frame link index =
    if link == cut_word then Cut frame
    else if nat_lt 0 (free_by part index) then Sent (length part.sent)
    else NoRoom frame (head part) index

abbrev pub after_send : SendPart → List ℕ → ℕ → ℕ → SendPart
after_send part frame link index =
    if link == cut_word then link_loaded part link
    else if nat_lt 0 (free_by part index) then frame_sent (index_loaded (link_loaded part link) index) frame
    else index_loaded (link_loaded part link) index

-- the last loads of a sender are those of this call, wherever it made them
abbrev pub TableSends : SendPart → List ℕ → SendAnswer → SendPart → Type 0
TableSends before frame answer after = (answer ≡ send_answer before frame after.link after.index) × (after ≡ after_send before frame after.link after.index)
