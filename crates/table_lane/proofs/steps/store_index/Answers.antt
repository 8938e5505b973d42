use Rattle.std.proofs.Common.{arith, ℕ, sym, ap, ◌∙◌}
use Rattle.table_lane.specs.LaneNames.{tail_of}
use Rattle.table_lane.specs.Words.{index_word}
use Rattle.table_lane.specs.Views.{the_back}
use Rattle.table_lane.proofs.Facade.{stores_index_allowed}
use Rattle.table_lane.proofs.steps.store_index.Goals as goal

pub store-requires : goal.store-requires
store-requires c =
    let t = c.requires.table.1 in
    let p = c.requires.part in (
      c.requires.table.0,
      omega (arith, t.words),
      stores_index_allowed _ _ _ _ _ _ (c.index_word.ensures ∙ ap index_word (sym t.key)) p.2 p.0 (p.1 ∙ sym t.key) (λ e. p.3 (p.2 ∙ e ∙ ap (λ (N : ℕ). tail_of N (the_back c.args.seat.now.me.0).freed) t.key)),
    )
