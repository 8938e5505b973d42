use Rattle.std.proofs.Common.{arith, sym, ap, ◌∙◌}
use Rattle.table_lane.specs.Words.{link_word}
use Rattle.table_lane.proofs.Facade.{cuts_link_allowed}
use Rattle.table_lane.proofs.steps.cut_link.Goals as goal

pub store-requires : goal.store-requires
store-requires c =
    let t = c.requires.table.1 in
    (c.requires.table.0, omega (arith, t.words), cuts_link_allowed _ _ _ _ _ (c.link_word.ensures ∙ ap link_word (sym t.key)) c.requires.part)
