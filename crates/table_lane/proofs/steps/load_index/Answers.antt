use Rattle.std.proofs.Common.{arith, sym, ap, ◌∙◌}
use Rattle.table_lane.specs.Words.{index_word}
use Rattle.table_lane.proofs.Facade.{sees_index_allowed}
use Rattle.table_lane.proofs.steps.load_index.Goals as goal

pub load-requires : goal.load-requires
load-requires c =
    let t = c.requires.table.1 in
    (c.requires.table.0, omega (arith, t.words), sees_index_allowed _ _ _ _ _ (c.index_word.ensures ∙ ap index_word (sym t.key)) c.requires.part.0 c.requires.part.1)
