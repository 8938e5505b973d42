use Rattle.std.proofs.Common.{◌++◌, ◌+◌, ◌<◌, take, get_or, length, [], ap, ◌∙◌, arith}
use Rattle.report_text.specs.Report.{frame_line, frame_lines}
use Rattle.report_text.proofs.Devices.{grown}
use Rattle.report_text.proofs.Runs.{frame_lines_more}
use Rattle.report_text.proofs.run.push_frames.Goals as goal

pub loop-place-preserved : goal.loop-place-preserved
loop-place-preserved c =
    let frame = get_or c.args.frames.now.frames c.loop-place.place [] in
    let within : c.loop-place.place < length c.args.frames.now.frames = omega arith in
    grown c.loop-place.text.items c.push_frame_line.new.text.items c.args.text.now.items (frame_lines c.args.word.now c.args.first (take c.loop-place.place c.args.frames.now.frames))
    (frame_line c.args.word.now (c.args.first + c.loop-place.place) frame)
    (frame_lines c.args.word.now c.args.first (take (c.loop-place.place + 1) c.args.frames.now.frames)) c.loop-place.invariant
    (c.in_ok-push_frame_line.ensures ∙ ap (λ f. c.loop-place.text.items ++ frame_line c.args.word.now (c.args.first + c.loop-place.place) f) (c.bytes.ensures.value ∙ c.frame_at.ensures))
    (frame_lines_more c.args.word.now c.args.first c.args.frames.now.frames c.loop-place.place [] within)
