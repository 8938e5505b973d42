use Rattle.std.proofs.Common.{◌∙◌, ◌*◌, ◌++◌, ◌≤◌, ℕ, List, length, map, take, ap, sym, arith}
use Rattle.std.specs.List.{range_with_len}
use Rattle.traffic_plan.specs.Load.{length_of}
use Rattle.traffic_plan.proofs.Frames.{byte_of, eight_words_more, first_bytes, length_payload}
use Rattle.traffic_plan.proofs.load.payload.Goals as goal

pub loop-preserved : goal.loop-preserved
loop-preserved c =
    let word = c.args.word in
    c.in_ok-extend_from_slice.ensures.items
    ∙ ap (λ (before : List ℕ). before ++ c.eight_times-words.result) c.loop.invariant
    ∙ ap (λ (last : List ℕ). map (byte_of word) (range_with_len 0 (64 * c.loop.counter)) ++ last) c.eight_times-words.ensures
    ∙ sym (eight_words_more word c.loop.counter)

pub returns-clause-value : goal.returns-clause-value
returns-clause-value c =
    let word = c.args.word in
    let enough : length_of word ≤ 64 * c.loop.counter = omega (arith, c.div_ceil-end.ensures, c.loop-test.false) in
    c.of_vec.ensures
    ∙ c.truncate.ensures.items
    ∙ ap (take (length_of word)) c.loop.invariant
    ∙ first_bytes (byte_of word) 0 (length_of word) (64 * c.loop.counter) enough

pub returns-clause-len : goal.returns-clause-len
returns-clause-len c = ap length (returns-clause-value c) ∙ length_payload c.args.word
