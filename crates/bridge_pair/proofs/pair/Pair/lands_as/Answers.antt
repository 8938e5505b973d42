use Rattle.std.proofs.Common.{◌≡◌}
use Rattle.bridge_pair.proofs.LandedEnds.{ends_of_whole, lands_whole}
use Rattle.bridge_pair.proofs.pair.Pair.lands_as.Goals as goal
use Rattle.bridge_pair.proofs.pair.Pair.lands_as.Goals.{then-has_same_link, else-has_same_link}

pub returns-then-has_same_books : goal.returns-then-has_same_books
returns-then-has_same_books c =
    let same : (c.args.self.now.link ≡ c.args.other.now.link) × (c.args.self.now.books ≡ c.args.other.now.books) = elim c.if-has_same_link.branch [
      | then-has_same_link w ↦ (c.has_same_link.ensures.0 w.if-has_same_link.true, w.has_same_books.ensures.0 (cc (w.value-is, c.if-has_same_books.true)))
      | else-has_same_link w ↦ absurd (cc (w.value-is, w.if-has_same_link.false, c.if-has_same_books.true))
    ] in (
      λ yes. lands_whole c.args.self.now c.args.side c.args.place c.args.other.now same.0 same.1 (c.ends_land_as.ensures.0 yes),
      λ lands. c.ends_land_as.ensures.1 (ends_of_whole c.args.self.now c.args.side c.args.place c.args.other.now lands),
    )
