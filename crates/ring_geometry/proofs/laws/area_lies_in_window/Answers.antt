use Rattle.std.proofs.lemmas.Nat.{mod_below}
use Rattle.ring_geometry.proofs.Areas.{area_in_window}
use Rattle.ring_geometry.proofs.laws.area_lies_in_window.Goals as goal

pub returns : goal.returns
returns c l h = (area_in_window l h, mod_below l.queue l.windows h.some_window)
