use Rattle.posted_queue.proofs.RowLemmas.{kept-push}
use Rattle.posted_queue.proofs.row.add_missing_part.Goals as goal

pub returns-clause-kept : goal.returns-clause-kept
returns-clause-kept g c =
    rw (c.push_reserved.ensures.items, c.reserve.ensures.items) (kept-push g.P.Part.most c.args.row.now.items c.empty-part.result c.empty-part.ensures.writes c.empty-part.ensures.left)
