use Rattle.std.proofs.Common.{◌∙◌, refl}
use Rattle.traffic_plan.specs.Load.{frames_given}
use Rattle.traffic_plan.proofs.Frames.{frame_drawn, frame_more, words_of_frame}
use Rattle.traffic_plan.proofs.load.load_lines.Goals as goal

pub loop-k-preserved : goal.loop-k-preserved
loop-k-preserved c =
    let seed = c.args.seed in
    let k = c.loop-k.k in
    let so_far = c.loop-k.invariant in
    let drawn = c.frame_words-word.ensures in
    let words = words_of_frame seed k c.loop-k.words so_far.words in
    let pushed =
    frame_drawn seed k c.frame_words-word.result.0 c.frame_words-word.result.1 (frames_given seed k) c.loop-k.steps c.push_frame.new.steps c.push_frame.result refl (drawn.first ∙ words.0) (drawn.second ∙ words.1)
    c.push_frame.ensures in
    record {
      words = drawn.state ∙ words.2;
      steps = frame_more seed k (frames_given seed k) c.loop-k.steps c.push_frame.new.steps refl so_far.steps (rw c.in_ok-push_frame.was at pushed);
    }
