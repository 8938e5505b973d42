use Rattle.std.proofs.Common.{◌<◌, length, sym, ◌∙◌, subst, arith}
use Rattle.posted_queue.proofs.LevelLemmas.{first_spot, within-some, writes_in-drop_more}
use Rattle.posted_queue.proofs.row.first_with_write.Goals as goal

pub bounds-row-index : goal.bounds-row-index
bounds-row-index g c = within-some c.args.row.now c.loop-index.index (subst (λ writes. 0 < length writes) (sym c.loop-index.invariant) c.requires)

pub returns : goal.returns
returns g c =
    first_spot c.args.row.now c.loop-index.index c.index-row-index.result c.requires c.index-row-index.is (let some = c.loop-index-test.false in let len = c.len.ensures in omega arith) c.loop-index.invariant

pub loop-index-preserved : goal.loop-index-preserved
loop-index-preserved g c =
    let within : c.loop-index.index < length c.args.row.now = within-some c.args.row.now c.loop-index.index (subst (λ writes. 0 < length writes) (sym c.loop-index.invariant) c.requires) in
    writes_in-drop_more c.args.row.now c.loop-index.index c.len.result c.index-row-index.result within c.index-row-index.is c.len.ensures c.loop-index-test.true ∙ c.loop-index.invariant

pub loop-index-smaller : goal.loop-index-smaller
loop-index-smaller g c =
    let within : c.loop-index.index < length c.args.row.now = within-some c.args.row.now c.loop-index.index (subst (λ writes. 0 < length writes) (sym c.loop-index.invariant) c.requires) in
    omega arith
