use Rattle.table_lane.proofs.Facade.{sees_flag_allowed}
use Rattle.table_lane.proofs.WordsInTable.{flag_stands}
use Rattle.table_lane.proofs.steps.load_flag.Goals as goal

pub load-requires : goal.load-requires
load-requires c =
    let word = flag_stands _ c.requires.table.1 c.requires.part.2 c.flag_word.ensures in
    (c.requires.table.0, word.0, sees_flag_allowed _ _ _ _ _ word.1 c.requires.part.0 c.requires.part.1)
