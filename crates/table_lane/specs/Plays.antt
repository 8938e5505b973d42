-- What each atomic step tells: of the seat before, the number found, and the seat after.
use Rattle.std.specs.Prelude.{◌≡◌, ℕ, ◌+◌, ◌-◌, ◌%◌, ◌<◌, ◌≤◌, ◌==◌, nat_lt, true, List, [], ◌∷◌, length, take, Option, Some, None, IfSome, MatchBool, if◌then◌else◌}
use Rattle.atomic_table.specs.Table.{rest}
use Rattle.table_lane.specs.LaneNames.{done}
use Rattle.table_lane.specs.Words.{table_header_of, cut_word, spacing}
use Rattle.table_lane.specs.Views.{TableBytes, SendPart, MovePart, RecvPart, CutPart, the_send, the_move, the_recv, the_back, the_cut, with_send, with_move, with_recv, with_back, with_cut}
use Rattle.table_lane.specs.ShownLane.{number_at, most_lane_frames}
use Rattle.table_lane.specs.Rule.{Content, Sitter}
use Rattle.table_lane.specs.Knowledge.{link_loaded, index_loaded, head, free_by, slot_claimed, frame_sent, table_taken, posted_loaded, frame_taken, header_stored, flag_stored, flag_loaded, frame_found, frame_copied, flag_cleared, acknowledged, index_out_loaded, index_stored, link_cut}

abbrev pub Tells : Type 1
Tells = Sitter → ℕ → Sitter → Type 0

-- who has the cut's part too knows that the word found is the link word
abbrev pub sees_link : Tells
sees_link before found after =
    (after ≡ (with_send before.0 (link_loaded (the_send before.0) found), before.1))
    × IfSome before.0.cut (λ cut. found ≡ (if cut.cut then cut_word else 0))

-- where the index word shows room, the slot of the next entry, empty, goes to the sender
abbrev pub sees_index : Tells
sees_index before found after =
    let part = the_send before.0 in
    (found < part.entries)
    × MatchBool (nat_lt 0 (free_by part found))
    (after ≡ (with_send before.0 (slot_claimed (index_loaded part found)), (head part, None) ∷ before.1))
    (after ≡ (with_send before.0 (index_loaded part found), before.1))

-- the frame in the slot that a seat took last
abbrev pub frame_in : List (ℕ × Content) → TableBytes
frame_in [] = []
frame_in ((slot, None) ∷ others) = []
frame_in ((slot, Some frame) ∷ others) = frame

abbrev pub stores_posted : Tells
stores_posted before found after = after ≡ (with_send before.0 (frame_sent (the_send before.0) (frame_in before.1)), rest before.1)

-- who has the sender's part too knows whether a posted header is new; and with the receiver's part, that the ring has
-- room for what is left
abbrev pub KnowsSent : MovePart → ℕ → Option RecvPart → SendPart → Type 0
KnowsSent part found recv send =
    (table_taken part < length send.sent → found ≡ table_header_of (table_taken part))
    × (found ≡ table_header_of (table_taken part) → table_taken part < length send.sent)
    × IfSome recv (λ r. length send.sent + 1 ≤ length r.got + part.entries)

-- and who has the cut's part besides, that a cut which the sender has seen was made
abbrev pub SeenCutIsMade : Option CutPart → SendPart → Type 0
SeenCutIsMade cut send = IfSome cut (λ c. send.link ≡ cut_word → c.cut ≡ true)

-- where the posted header is that of the next entry, its slot goes to the mover
abbrev pub sees_posted : Tells
sees_posted before found after =
    let part = the_move before.0 in
    MatchBool (found == table_header_of (table_taken part))
    ((frame : TableBytes)
    × (after ≡ (with_move before.0 (frame_taken (posted_loaded part found) frame), (table_taken part % part.entries, Some frame) ∷ before.1))
    × (table_taken part < most_lane_frames) × (length part.held + 2 ≤ part.entries))
    (after ≡ (with_move before.0 (posted_loaded part found), before.1))
    × IfSome before.0.send (KnowsSent part found before.0.recv) × IfSome before.0.send (SeenCutIsMade before.0.cut)

-- the word tells whose header it is
abbrev pub stores_header : ℕ → Tells
stores_header word before found after =
    let part = the_move before.0 in
    after ≡ (with_move before.0 (header_stored part (number_at part.entries part.flagged (word - (part.entries + spacing)))), before.1)

abbrev pub stores_flag : Tells
stores_flag before found after = after ≡ (with_move before.0 (flag_stored (the_move before.0)), rest before.1)

-- If the flag is up, the slot of the next entry goes to the receiver. A seat that also holds the mover's state knows
-- that the flag is set once the mover has stored it. A seat that also holds the sender's state knows that what was
-- received is a prefix of what was sent.
abbrev pub sees_flag : Tells
sees_flag before found after =
    let part = the_recv before.0 in
    MatchBool (found == done)
    ((frame : TableBytes)
    × (after ≡ (with_recv before.0 (frame_found (flag_loaded part found) frame), (length part.got % part.entries, Some frame) ∷ before.1))
    × (length part.got < most_lane_frames))
    (after ≡ (with_recv before.0 (flag_loaded part found), before.1))
    × IfSome before.0.mover (λ mover. length part.got < mover.flagged → found ≡ done)
    × IfSome before.0.send (λ send. part.got ≡ take (length part.got) send.sent)

-- the word is the entry's header; who has the sender's part too knows the same of what is then received
abbrev pub copies_frame : Tells
copies_frame before found after =
    let part = frame_copied (the_recv before.0) in
    (after ≡ (with_recv before.0 part, before.1)) × (found ≡ table_header_of (length (the_recv before.0).got))
    × IfSome before.0.send (λ send. part.got ≡ take (length part.got) send.sent)

abbrev pub clears_flag : Tells
clears_flag before found after = after ≡ (with_recv before.0 (flag_cleared (the_recv before.0)), rest before.1)

abbrev pub stores_index_out : Tells
stores_index_out before found after = after ≡ (with_recv before.0 (acknowledged (the_recv before.0)), before.1)

abbrev pub sees_index_out : Tells
sees_index_out before found after =
    let part = the_back before.0 in
    (after ≡ (with_back before.0 (index_out_loaded part found), before.1)) × (found < part.entries) × (part.freed ≤ most_lane_frames)

abbrev pub stores_index : Tells
stores_index before found after = after ≡ (with_back before.0 (index_stored (the_back before.0)), before.1)

abbrev pub cuts_link : Tells
cuts_link before found after = after ≡ (with_cut before.0 (link_cut (the_cut before.0)), before.1)
