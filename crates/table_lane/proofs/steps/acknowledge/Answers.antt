use Rattle.std.proofs.Common.{arith, ℕ, ◌%◌, sym, ap, ◌∙◌}
use Rattle.table_lane.specs.Words.{index_out_word}
use Rattle.table_lane.proofs.Facade.{stores_index_out_allowed}
use Rattle.table_lane.proofs.steps.acknowledge.Goals as goal

pub store-requires : goal.store-requires
store-requires c =
    let t = c.requires.table.1 in
    let at = c.requires.position in (
      c.requires.table.0,
      omega (arith, t.words),
      stores_index_out_allowed _ _ _ _ _ at.0 _ (c.index_out_word.ensures ∙ ap index_out_word (sym t.key)) at.1 (at.2 ∙ ap (λ (N : ℕ). at.0 % N) (sym t.key)) c.requires.part.0 c.requires.part.1,
    )
