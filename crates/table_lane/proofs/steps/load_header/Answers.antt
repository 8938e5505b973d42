use Rattle.table_lane.proofs.Facade.{copies_frame_allowed}
use Rattle.table_lane.proofs.WordsInTable.{header_stands}
use Rattle.table_lane.proofs.steps.load_header.Goals as goal

pub load-requires : goal.load-requires
load-requires c =
    let word = header_stands _ c.requires.table.1 c.requires.part.2 c.header_word.ensures in
    (c.requires.table.0, word.0, copies_frame_allowed _ _ _ _ _ word.1 c.requires.part.0 c.requires.part.1)
