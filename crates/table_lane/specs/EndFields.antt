-- The fields of the ends: what each end shows of its seat, and what is true of it between two calls.
use Rattle.std.specs.Prelude.{◌≡◌, ◌≤◌, ◌+◌, ◌%◌, ℕ, suc, false, List, [], ◌∷◌, length, Some}
use Rattle.std.specs.VecDeque.{deque_capacity}
use Rattle.std.specs.Arc.{arc_value}
use Rattle.table_lane.specs.declared.parts.LaneView.{LaneView}
use Rattle.table_lane.specs.Views.{the_send, the_move, the_recv, the_back, the_cut}
use Rattle.table_lane.specs.ShownLane.{most_lane_frames}
use Rattle.table_lane.specs.Table.{IsTableOf}
use Rattle.table_lane.specs.Ends.{TableSender, send_only, Mover, move_only, TableReceiver, recv_only, WayBack, back_only, Cutter, cut_only}
use Rattle.table_lane.specs.declared.board.Standing.{Standing}
use Rattle.table_lane.specs.declared.send.SendEnd.TheInside as send
use Rattle.table_lane.specs.declared.mover.MoveEnd.TheInside as mover
use Rattle.table_lane.specs.Rule.{Content, Sitter}
use Rattle.table_lane.specs.MoveChoice.{waiting}
use Rattle.table_lane.specs.declared.recv.RecvEnd.TheInside as recv
use Rattle.table_lane.specs.declared.back.BackEnd.TheInside as back
use Rattle.table_lane.specs.declared.back.CutEnd.TheInside as cut
use Rattle.table_lane.specs.LaneNames.{Idle, tail_of}

-- an end stands at the table of its lane, its seat has one part alone and no slot, and the part knows how many entries
-- there are
pub record HasAlone (view : LaneView) (known : ℕ) (at : Standing) : Type 0 where
  pub stands : at.seat.table_id ≡ (arc_value at.table).shared.table_id
  pub table : IsTableOf at.entries (arc_value at.table).shared.table_id (arc_value at.table).shared.key
  pub me : at.seat.me ≡ (view, [])
  pub entries : known ≡ at.entries

abbrev pub table_sender_of : send.Inside → TableSender
table_sender_of end = record { lane = end.at.seat.table_id; part = the_send end.at.seat.me.0 }

-- the seat has the sender's part alone and no slot
pub record IsSendEnd (end : send.Inside) : Type 0 where
  pub alone : HasAlone (send_only (the_send end.at.seat.me.0)) (the_send end.at.seat.me.0).entries end.at
  pub claims : (the_send end.at.seat.me.0).claims ≡ false
  pub sent : length (the_send end.at.seat.me.0).sent ≡ end.sent
  pub counted : end.sent ≤ most_lane_frames
  pub position : end.head ≡ end.sent % end.at.entries

-- the slots that the mover has, with their frames, from entry n on
abbrev pub slots_of : ℕ → ℕ → List (List ℕ) → List (ℕ × Content)
slots_of N n [] = []
slots_of N n (frame ∷ frames) = (n % N, Some frame) ∷ slots_of N (suc n) frames

abbrev pub mover_of : mover.Inside → Mover
mover_of end = record { lane = end.at.seat.table_id; part = the_move end.at.seat.me.0 }

-- The seat has the mover's part alone and the slots of the held entries, which are those from `first` up to `next`.
-- `waits` are those that wait for their header.
pub record MovesWith (N first next : ℕ) (waits : List ℕ) (me : Sitter) : Type 0 where
  pub view : me.0 ≡ move_only (the_move me.0)
  pub slots : me.1 ≡ slots_of N first (the_move me.0).held
  pub entries : (the_move me.0).entries ≡ N
  pub flagged : (the_move me.0).flagged ≡ first
  pub taken : first + length (the_move me.0).held ≡ next
  pub marks : length (the_move me.0).stored ≡ length (the_move me.0).held
  pub waiting_are : waits ≡ waiting first (the_move me.0).stored
  pub few : length (the_move me.0).held + 1 ≤ N

pub record IsMoveEnd (end : mover.Inside) : Type 0 where
  pub stands : end.at.seat.table_id ≡ (arc_value end.at.table).shared.table_id
  pub table : IsTableOf end.at.entries (arc_value end.at.table).shared.table_id (arc_value end.at.table).shared.key
  pub me : MovesWith end.at.entries end.flagged end.taken end.waiting.items end.at.seat.me
  pub room : end.at.entries ≤ deque_capacity end.waiting
  pub counted : end.taken ≤ most_lane_frames
  pub first : end.first_position ≡ end.flagged % end.at.entries
  pub next : end.next_position ≡ end.taken % end.at.entries

abbrev pub table_receiver_of : recv.Inside → TableReceiver
table_receiver_of end = record { lane = end.at.seat.table_id; part = the_recv end.at.seat.me.0 }

-- the seat has the receiver's part alone and no slot, and looks at no frame
pub record IsRecvEnd (end : recv.Inside) : Type 0 where
  pub alone : HasAlone (recv_only (the_recv end.at.seat.me.0)) (the_recv end.at.seat.me.0).entries end.at
  pub phase : (the_recv end.at.seat.me.0).phase ≡ Idle
  pub hand : (the_recv end.at.seat.me.0).hand ≡ []
  pub got : length (the_recv end.at.seat.me.0).got ≡ end.got
  pub counted : end.got ≤ most_lane_frames
  pub position : end.position ≡ end.got % end.at.entries
  pub nothing_left : end.left.frames ≡ []
  pub room : end.at.entries ≤ end.left.spare + 1

abbrev pub way_back_of : back.Inside → WayBack
way_back_of end = record { lane = end.at.seat.table_id; part = the_back end.at.seat.me.0 }

pub record IsBackEnd (end : back.Inside) : Type 0 where
  pub alone : HasAlone (back_only (the_back end.at.seat.me.0)) (the_back end.at.seat.me.0).entries end.at
  pub freed : (the_back end.at.seat.me.0).freed ≡ end.freed
  pub last : end.last ≡ tail_of end.at.entries end.freed

abbrev pub cutter_of : cut.Inside → Cutter
cutter_of end = record { lane = end.at.seat.table_id; part = the_cut end.at.seat.me.0 }

pub record IsCutEnd (end : cut.Inside) : Type 0 where
  pub alone : HasAlone (cut_only (the_cut end.at.seat.me.0)) (the_cut end.at.seat.me.0).entries end.at
