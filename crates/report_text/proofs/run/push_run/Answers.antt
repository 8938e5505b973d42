use Rattle.std.proofs.Common.{◌≡◌, ◌++◌, ◌+◌, take, map, sym, subst}
use Rattle.step_kinds.specs.Runs.{session_shown}
use Rattle.report_text.specs.Report.{session_lines, sessions_lines}
use Rattle.report_text.proofs.Devices.{grown}
use Rattle.report_text.proofs.Runs.{sessions_lines_more}
use Rattle.report_text.proofs.run.push_run.Goals as goal

pub loop-place-preserved : goal.loop-place-preserved
loop-place-preserved c =
    let pairs = c.args.pairs.now in
    let lane = c.args.lane.now.name in
    let runs = c.as_slice-sessions.result.now in
    let after = sessions_lines pairs lane 1 (map session_shown (take (c.loop-place.place + 1) runs)) in
    let before = sessions_lines pairs lane 1 (map session_shown (take c.loop-place.place runs)) in
    grown c.loop-place.text.items c.push_session.new.text.items c.args.text.now.items before
    (session_lines pairs lane (c.loop-place.place + 1) (session_shown c.index-sessions-place.result)) after c.loop-place.invariant c.in_ok-push_session.ensures
    (subst (λ run. after ≡ before ++ session_lines pairs lane (c.loop-place.place + 1) (session_shown run)) (sym c.index-sessions-place.is)
    (sessions_lines_more pairs lane runs c.loop-place.place c.index-sessions-place.result c.loop-place-test.true))
