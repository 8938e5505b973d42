use Rattle.std.proofs.Common.{refl}
use Rattle.traffic_plan.specs.Load.{load_of}
use Rattle.step_kinds.specs.declared.names.Side.TheVariants.{A, B}
use Rattle.ledger_model.specs.PlanLog.{steps_of}
use Rattle.replay_command.proofs.Reports.{load_lane_known, summary_same}
use Rattle.replay_command.proofs.load.load_text.Goals as goal

pub count_blocked-requires-clause-fresh : goal.count_blocked-requires-clause-fresh
count_blocked-requires-clause-fresh c = c.in_ok-cluster.ensures c.args.seed c.args.frames

pub ledger-accepted-requires : goal.ledger-accepted-requires
ledger-accepted-requires c = record {
  sent = load_lane_known (load_of c.args.seed c.args.frames) _ c.args.seed c.args.frames A c.in_ok-blocked.ensures.made.kept refl;
  received = load_lane_known (load_of c.args.seed c.args.frames) _ c.args.seed c.args.frames B c.in_ok-blocked.ensures.made.kept refl;
}

pub returns : goal.returns
returns c =
    let plan = load_of c.args.seed c.args.frames in
    let made = c.in_ok-blocked.ensures.made.made in
    summary_same c.args.seed c.args.frames plan c.ledger-accepted.result.0 c.ledger-accepted.result.1 c.in_ok-blocked.blocked c.summary.result refl
    (c.ledger-accepted.ensures.accepted plan (steps_of plan) made) (c.ledger-accepted.ensures.delivered plan (steps_of plan) made)
    c.in_ok-blocked.ensures.blocked c.summary.ensures
