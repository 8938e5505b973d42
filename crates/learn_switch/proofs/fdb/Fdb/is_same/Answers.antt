use Rattle.std.proofs.Common.{◌≡◌, sym, ◌∙◌}
use Rattle.std.proofs.lemmas.Slice.Eq.{slice_eq-Decides}
use Rattle.learn_switch.proofs.SameStations.{told_stations}
use Rattle.learn_switch.proofs.fdb.Fdb.is_same.Goals as goal

pub returns : goal.returns
returns c =
    let told = slice_eq-Decides told_stations c.as_slice.result.now c.as_slice-2.result.now c.eq.result c.eq.ensures in
    let one : c.as_slice.result.now ≡ c.args.self.now = c.as_slice.ensures.value ∙ c.self.view_is in
    let other : c.as_slice-2.result.now ≡ c.args.other.now = c.as_slice-2.ensures.value ∙ c.other.view_is in (
      λ yes. sym one ∙ told.0 yes ∙ other,
      λ same. told.1 (one ∙ same ∙ sym other),
    )
