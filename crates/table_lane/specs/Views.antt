-- What seats know, part by part.
use Rattle.std.specs.Prelude.{◌≡◌, ℕ, false, List, [], ◌∷◌, ◌++◌, Option, Some, None, unwrap_or}
use Rattle.std.specs.Option.{option_to_list}
use Rattle.table_lane.specs.LaneNames.{Idle, tail_of}
pub use Rattle.table_lane.specs.declared.parts.SendPart.{SendPart}
pub use Rattle.table_lane.specs.declared.parts.MovePart.{MovePart}
pub use Rattle.table_lane.specs.declared.parts.RecvPart.{RecvPart}
pub use Rattle.table_lane.specs.declared.parts.BackPart.{BackPart}
pub use Rattle.table_lane.specs.declared.parts.CutPart.{CutPart}
pub use Rattle.table_lane.specs.declared.parts.LaneView.{LaneView}

-- a frame is the list of its bytes
abbrev pub TableBytes : Type 0
TableBytes = List ℕ

-- the parts as a lane begins
abbrev pub new_send : ℕ → SendPart
new_send N = record { entries = N; sent = []; claims = false; link_loads = 0; link = 0; index_loads = 0; index = 0 }

abbrev pub new_move : ℕ → MovePart
new_move N = record { entries = N; flagged = 0; held = []; stored = []; loads = 0; posted = 0; headers = 0 }

abbrev pub new_recv : ℕ → RecvPart
new_recv N = record { entries = N; got = []; phase = Idle; hand = []; loads = 0; flag = 0 }

abbrev pub new_back : ℕ → BackPart
new_back N = record { entries = N; freed = 0; loads = 0; index = tail_of N 0 }

abbrev pub new_cut : ℕ → CutPart
new_cut N = record { entries = N; cut = false }

-- a seat with no part, and the one that has them all
abbrev pub no_parts : LaneView
no_parts = record { send = None; mover = None; recv = None; back = None; cut = None }

abbrev pub all_parts : ℕ → LaneView
all_parts N = record { send = Some (new_send N); mover = Some (new_move N); recv = Some (new_recv N); back = Some (new_back N); cut = Some (new_cut N) }

-- the parts of a seat that has them
abbrev pub the_send : LaneView → SendPart
the_send view = unwrap_or view.send (new_send 0)

abbrev pub the_move : LaneView → MovePart
the_move view = unwrap_or view.mover (new_move 0)

abbrev pub the_recv : LaneView → RecvPart
the_recv view = unwrap_or view.recv (new_recv 0)

abbrev pub the_back : LaneView → BackPart
the_back view = unwrap_or view.back (new_back 0)

abbrev pub the_cut : LaneView → CutPart
the_cut view = unwrap_or view.cut (new_cut 0)

abbrev pub HasSend : LaneView → Type 0
HasSend view = view.send ≡ Some (the_send view)

abbrev pub HasMove : LaneView → Type 0
HasMove view = view.mover ≡ Some (the_move view)

abbrev pub HasRecv : LaneView → Type 0
HasRecv view = view.recv ≡ Some (the_recv view)

abbrev pub HasBack : LaneView → Type 0
HasBack view = view.back ≡ Some (the_back view)

abbrev pub HasCut : LaneView → Type 0
HasCut view = view.cut ≡ Some (the_cut view)

-- a view after its part changed
abbrev pub with_send : LaneView → SendPart → LaneView
with_send view part = record view { send = Some part }

abbrev pub with_move : LaneView → MovePart → LaneView
with_move view part = record view { mover = Some part }

abbrev pub with_recv : LaneView → RecvPart → LaneView
with_recv view part = record view { recv = Some part }

abbrev pub with_back : LaneView → BackPart → LaneView
with_back view part = record view { back = Some part }

abbrev pub with_cut : LaneView → CutPart → LaneView
with_cut view part = record view { cut = Some part }

-- the parts of one kind that seats have
abbrev pub parts_of : {P : Type 0} → (LaneView → Option P) → List LaneView → List P
parts_of part [] = []
parts_of part (view ∷ views) = option_to_list (part view) ++ parts_of part views

-- two seats become one: it has the parts of both
abbrev pub first_of : {P : Type 0} → Option P → Option P → Option P
first_of None second = second
first_of (Some part) second = Some part

abbrev pub table_joined : LaneView → LaneView → LaneView
table_joined view other = record {
  send = first_of view.send other.send;
  mover = first_of view.mover other.mover;
  recv = first_of view.recv other.recv;
  back = first_of view.back other.back;
  cut = first_of view.cut other.cut;
}

-- a seat is cut in two: one of its parts goes to the new seat alone
pub data PartKind : Type 0 where
  OfMover : PartKind
  OfReceiver : PartKind
  OfWayBack : PartKind
  OfCut : PartKind

abbrev pub without : PartKind → LaneView → LaneView
without OfMover view = record view { mover = None }
without OfReceiver view = record view { recv = None }
without OfWayBack view = record view { back = None }
without OfCut view = record view { cut = None }

abbrev pub alone : PartKind → LaneView → LaneView
alone OfMover view = record no_parts { mover = view.mover }
alone OfReceiver view = record no_parts { recv = view.recv }
alone OfWayBack view = record no_parts { back = view.back }
alone OfCut view = record no_parts { cut = view.cut }
