use Rattle.std.proofs.Common.{◌≡◌, ◌∙◌, true, false, sym, arith}
use Rattle.pair_model.specs.Addresses.{own_header}
use Rattle.pair_model.specs.Headers.{word_at}
use Rattle.pair_model.specs.Sizes.{header_bytes}
use Rattle.frame_ring.specs.PortView.{bytes_seen}
use Rattle.frame_ring.proofs.HeaderWords.{header_on_five, header_on_four, header_size}
use Rattle.frame_ring.proofs.reading.header.Goals as goal

pub word-requires-clause-within : goal.word-requires-clause-within
word-requires-clause-within c =
    let size : header_bytes c.args.rings.now.plan ≡ 16 = header_size c.args.rings.now.plan c.speaks_five.result true c.speaks_five.ensures c.if-speaks_five.true in
    omega (arith, c.header_at-at.ensures.within, size)

pub word-requires-then-speaks_five-clause-within : goal.word-requires-then-speaks_five-clause-within
word-requires-then-speaks_five-clause-within c =
    let size : header_bytes c.args.rings.now.plan ≡ 16 = header_size c.args.rings.now.plan c.speaks_five.result true c.speaks_five.ensures c.if-speaks_five.true in
    omega (arith, c.header_at-at.ensures.within, size)

pub word-requires-then-speaks_five-2-clause-within : goal.word-requires-then-speaks_five-2-clause-within
word-requires-then-speaks_five-2-clause-within c =
    let size : header_bytes c.args.rings.now.plan ≡ 16 = header_size c.args.rings.now.plan c.speaks_five.result true c.speaks_five.ensures c.if-speaks_five.true in
    omega (arith, c.header_at-at.ensures.within, size)

pub word-requires-then-speaks_five-3-clause-within : goal.word-requires-then-speaks_five-3-clause-within
word-requires-then-speaks_five-3-clause-within c =
    let size : header_bytes c.args.rings.now.plan ≡ 16 = header_size c.args.rings.now.plan c.speaks_five.result true c.speaks_five.ensures c.if-speaks_five.true in
    omega (arith, c.header_at-at.ensures.within, size)

pub word-requires-else-speaks_five-clause-within : goal.word-requires-else-speaks_five-clause-within
word-requires-else-speaks_five-clause-within c =
    let size : header_bytes c.args.rings.now.plan ≡ 12 = header_size c.args.rings.now.plan c.speaks_five.result false c.speaks_five.ensures c.if-speaks_five.false in
    omega (arith, c.header_at-at.ensures.within, size)

pub word-requires-else-speaks_five-2-clause-within : goal.word-requires-else-speaks_five-2-clause-within
word-requires-else-speaks_five-2-clause-within c =
    let size : header_bytes c.args.rings.now.plan ≡ 12 = header_size c.args.rings.now.plan c.speaks_five.result false c.speaks_five.ensures c.if-speaks_five.false in
    omega (arith, c.header_at-at.ensures.within, size)

pub word-requires-else-speaks_five-3-clause-within : goal.word-requires-else-speaks_five-3-clause-within
word-requires-else-speaks_five-3-clause-within c =
    let size : header_bytes c.args.rings.now.plan ≡ 12 = header_size c.args.rings.now.plan c.speaks_five.result false c.speaks_five.ensures c.if-speaks_five.false in
    omega (arith, c.header_at-at.ensures.within, size)

pub returns-then-speaks_five : goal.returns-then-speaks_five
returns-then-speaks_five c =
    let rings = c.args.rings.now in
    header_on_five rings.plan (word_at (bytes_seen c.args.pair.now) rings.side) (own_header rings.plan rings.side rings.queue c.args.n) c.header_at-at.result c.word.result c.word-then-speaks_five.result
    c.word-then-speaks_five-2.result c.word-then-speaks_five-3.result (sym c.speaks_five.ensures ∙ c.if-speaks_five.true) c.header_at-at.ensures.value c.word.ensures c.word-then-speaks_five.ensures
    c.word-then-speaks_five-2.ensures c.word-then-speaks_five-3.ensures

pub returns-else-speaks_five : goal.returns-else-speaks_five
returns-else-speaks_five c =
    let rings = c.args.rings.now in
    header_on_four rings.plan (word_at (bytes_seen c.args.pair.now) rings.side) (own_header rings.plan rings.side rings.queue c.args.n) c.header_at-at.result c.word-else-speaks_five.result c.word-else-speaks_five-2.result
    c.word-else-speaks_five-3.result (sym c.speaks_five.ensures ∙ c.if-speaks_five.false) c.header_at-at.ensures.value c.word-else-speaks_five.ensures c.word-else-speaks_five-2.ensures c.word-else-speaks_five-3.ensures
