-- The ends of a new lane.
use Rattle.std.specs.Prelude.{◌≡◌, ℕ}
use Rattle.table_lane.specs.Views.{new_send, new_move, new_recv, new_back, new_cut}
use Rattle.table_lane.specs.Ends.{TableSender, Mover, TableReceiver, WayBack, Cutter}

-- the ends stand at one table
pub record AreOfOneLane (send : TableSender) (mover : Mover) (recv : TableReceiver) (back : WayBack) (cut : Cutter) : Type 0 where
  pub with_mover : mover.lane ≡ send.lane
  pub with_recv : recv.lane ≡ send.lane
  pub with_back : back.lane ≡ send.lane
  pub with_cut : cut.lane ≡ send.lane

-- and know nothing but the number of entries
pub record AreNew (N : ℕ) (send : TableSender) (mover : Mover) (recv : TableReceiver) (back : WayBack) (cut : Cutter) : Type 0 where
  pub of_one : AreOfOneLane send mover recv back cut
  pub new_sender : send.part ≡ new_send N
  pub new_mover : mover.part ≡ new_move N
  pub new_receiver : recv.part ≡ new_recv N
  pub new_way_back : back.part ≡ new_back N
  pub new_cutter : cut.part ≡ new_cut N
