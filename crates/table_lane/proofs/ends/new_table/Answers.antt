use Rattle.std.proofs.Common.{ℕ, List, subst, sym, ◌∙◌, replicate, None}
use Rattle.atomic_table.specs.Table.{opening}
use Rattle.table_lane.specs.Rule.{ShowsALane}
use Rattle.table_lane.specs.Views.{all_parts}
use Rattle.table_lane.proofs.Facade.{opens}
use Rattle.table_lane.proofs.ends.new_table.Goals as goal

pub vacant-requires : goal.vacant-requires
vacant-requires c =
    let N : ℕ = c.args.entries in
    let words = c.deref.ensures.value ∙ c.in_ok-words.ensures in
    subst (λ (ws : List ℕ). ShowsALane N (opening ws (replicate N None) (all_parts N))) (sym words) (opens N c.requires.0 c.requires.1)
