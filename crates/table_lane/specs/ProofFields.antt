-- The fields of a lane's proof.
use Rattle.std.specs.Prelude.{◌≡◌, ◌≤◌, [], ◌∷◌, length}
use Rattle.table_lane.specs.Views.{the_recv}
use Rattle.table_lane.specs.EndOfLane.{HasAll, Shown, view_in, shown_by}
use Rattle.table_lane.specs.declared.lane_end.LaneProof.TheInside.{Inside}

abbrev pub shown_of : Inside → Shown
shown_of proof = shown_by (view_in proof.badge.views) proof.got

-- the badge has one view, that of a seat with all parts
pub record IsLaneProof (proof : Inside) : Type 0 where
  pub one : proof.badge.views ≡ view_in proof.badge.views ∷ []
  pub all : HasAll (view_in proof.badge.views, [])
  pub counted : proof.got ≤ length (the_recv (view_in proof.badge.views)).got
