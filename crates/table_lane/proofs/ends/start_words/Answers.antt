use Rattle.std.proofs.Common.{rules, ◌≡◌, ℕ, ◌-◌, refl, ap, ◌∙◌, replicate, set}
use Rattle.table_lane.specs.Words.{words_in}
use Rattle.table_lane.proofs.Facade.{first_lie}
use Rattle.table_lane.proofs.ends.start_words.Goals as goal

pub returns : goal.returns
returns c =
    let N : ℕ = c.args.entries in
    let zeros : c.in_ok-words.words.items ≡ replicate c.words_in.result 0 = search rules in
    let items : c.in_ok-words.words.items ≡ replicate (words_in N) 0 = zeros ∙ ap (λ (n : ℕ). replicate n 0) c.words_in.ensures in
    (λ i. set (set (items i) (c.index_out_word.ensures i) (N - 1)) (c.index_word.ensures i) (N - 1)) ∙ first_lie N (N - 1) c.requires.0 refl
