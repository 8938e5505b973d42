use Rattle.std.proofs.Common.{◌≡◌, ◌<◌, ◌∙◌, ◌*◌, ◌^◌, [], ap, sym, subst, arith}
use Rattle.std.specs.Int.{w64, from_le_bytes}
use Rattle.std.proofs.lemmas.Nat.{from_le_bytes-to_le_bytes_8}
use Rattle.traffic_plan.specs.Load.{LoadGiven, most_load_frames, state_past, load_word_at}
use Rattle.traffic_plan.proofs.Frames.{state_small, words_of_frame, frame_drawn}
use Rattle.traffic_plan.proofs.load.LoadFrames.put_next.Goals as goal

pub invariant_of-self : goal.invariant_of-self
invariant_of-self c =
    let i = c.self.inside in
    let same : c.from_seed-words.result ≡ i.words = c.from_seed-words.ensures ∙ ap (from_le_bytes w64) c.state.ensures ∙ from_le_bytes-to_le_bytes_8 i.words (subst (λ n. n < 2 ^ 64) (sym c.self.invariant.0) (state_small i.seed (2 * i.given) c.self.ranges.0.1)) in
    let words = words_of_frame i.seed i.given i.words c.self.invariant.0 in
    let few : i.given < most_load_frames = subst (λ (load : LoadGiven). load.given < most_load_frames) (sym c.self.view_is) c.requires in
    (c.frame_words-word.ensures.state ∙ (ap (λ state. state_past (state_past state)) same ∙ words.2), omega arith)

pub returns-clause-steps : goal.returns-clause-steps
returns-clause-steps c =
    let i = c.self.inside in
    let same : c.from_seed-words.result ≡ i.words = c.from_seed-words.ensures ∙ ap (from_le_bytes w64) c.state.ensures ∙ from_le_bytes-to_le_bytes_8 i.words (subst (λ n. n < 2 ^ 64) (sym c.self.invariant.0) (state_small i.seed (2 * i.given) c.self.ranges.0.1)) in
    let words = words_of_frame i.seed i.given i.words c.self.invariant.0 in
    let drawn =
    frame_drawn i.seed i.given c.frame_words-word.result.0 c.frame_words-word.result.1 c.args.self.now [] c.push_frame.new.steps c.push_frame.result c.self.view_is
    (c.frame_words-word.ensures.first ∙ ap load_word_at same ∙ words.0) (c.frame_words-word.ensures.second ∙ ap (λ state. load_word_at (state_past state)) same ∙ words.1)
    (rw c.clear.ensures at c.push_frame.ensures) in
    rw c.in_default.is at drawn
