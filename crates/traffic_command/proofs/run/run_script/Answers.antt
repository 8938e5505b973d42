use Rattle.step_kinds.specs.Runs.{LaneShown, lane_shown}
use Rattle.cluster_run.proofs.Facade.{known_pairs}
use Rattle.traffic_command.proofs.run.run_script.Goals as goal

pub record_text-requires : goal.record_text-requires
record_text-requires g c = record { known_pairs = known_pairs lane_shown (λ (lane : LaneShown). lane.name) c.args.script.now.declared c.in_ok-run.run'.lanes c.in_ok-run.ensures.fits.lanes }
