use Rattle.table_lane.proofs.Facade.{sees_posted_allowed}
use Rattle.table_lane.proofs.WordsInTable.{posted_stands}
use Rattle.table_lane.proofs.steps.load_posted.Goals as goal

pub load-requires : goal.load-requires
load-requires c =
    let word = posted_stands _ c.requires.table.1 c.requires.part.1 c.posted_word.ensures in
    (c.requires.table.0, word.0, sees_posted_allowed _ _ _ _ _ word.1 c.requires.part.0)
