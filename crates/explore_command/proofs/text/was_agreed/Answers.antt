use Rattle.std.proofs.Common.{◌∙◌, ap, arith, false, length, slice_index_or}
use Rattle.std.proofs.lemmas.List.FromFn.{get_or-map-range_with_len, length-map-range_with_len}
use Rattle.explore_model.specs.Texts.{agree_on}
use Rattle.explore_command.proofs.text.was_agreed.Goals as goal

pub bounds-agreed-k : goal.bounds-agreed-k
bounds-agreed-k c =
    let long = ap length c.requires.agreed ∙ length-map-range_with_len (agree_on c.args.outcomes.now) 0 (length c.args.plan.now.steps) in
    let among = c.requires.among in
    omega arith

pub returns : goal.returns
returns c =
    ap (λ agreed. slice_index_or agreed c.args.k false) c.requires.agreed
    ∙ get_or-map-range_with_len (agree_on c.args.outcomes.now) 0 (length c.args.plan.now.steps) c.args.k c.args.k false c.requires.among (omega arith)
