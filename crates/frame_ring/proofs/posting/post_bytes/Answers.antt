use Rattle.frame_ring.proofs.PostedBytes.{ready_to_post}
use Rattle.frame_ring.proofs.posting.post_bytes.Goals as goal

pub post_bytes-requires-clause-pages : goal.post_bytes-requires-clause-pages
post_bytes-requires-clause-pages c =
    ready_to_post c.args.rings.now.plan c.args.pair.now.plan c.args.rings.now.side c.side-side.result c.args.rings.now.queue c.args.pair.now c.out_window.result c.args.offset c.args.bytes.now
    c.requires.plan c.side-side.ensures.value c.out_window.ensures (rw c.if-reaches.true at c.reaches.ensures) c.requires.pages
