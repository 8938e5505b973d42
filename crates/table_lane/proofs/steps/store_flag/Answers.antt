use Rattle.std.proofs.Common.{ℕ, ◌%◌, sym, ap, ◌∙◌}
use Rattle.table_lane.specs.Views.{the_move}
use Rattle.table_lane.proofs.Facade.{stores_flag_allowed}
use Rattle.table_lane.proofs.WordsInTable.{flag_stands}
use Rattle.table_lane.proofs.steps.store_flag.Goals as goal

pub store-requires : goal.store-requires
store-requires c =
    let t = c.requires.table.1 in
    let at = c.requires.part.1 in
    let word = flag_stands _ t at c.flag_word.ensures in
    let held = c.requires.held in (
      c.requires.table.0,
      word.0,
      stores_flag_allowed _ _ _ _ _ _ held.0 _ word.1 held.1 (at ∙ ap (λ (N : ℕ). (the_move c.args.seat.now.me.0).flagged % N) (sym t.key)) c.requires.part.0 held.2 held.3,
    )
