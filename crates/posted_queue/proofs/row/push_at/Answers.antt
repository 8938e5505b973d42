use Rattle.std.proofs.Common.{arith}
use Rattle.posted_queue.proofs.RowLemmas.{length-part, writes_in-push}
use Rattle.posted_queue.proofs.row.push_at.Goals as goal

pub push-requires-clause-countable : goal.push-requires-clause-countable
push-requires-clause-countable g c = let short = length-part c.args.row.now.items c.args.number c.index_mut-part.result.now c.requires.there c.index_mut-part.ensures.value in omega arith

pub returns-clause-writes : goal.returns-clause-writes
returns-clause-writes g c =
    writes_in-push c.args.row.now.items c.args.number c.index_mut-part.result.now c.push.new.self c.args.write c.requires.there c.index_mut-part.ensures.value c.push.ensures.writes c.requires.behind
