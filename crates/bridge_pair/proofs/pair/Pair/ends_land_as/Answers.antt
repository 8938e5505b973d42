use Rattle.std.proofs.Common.{subst, sym}
use Rattle.step_kinds.specs.declared.names.Side.{Side}
use Rattle.bridge_pair.specs.Same.{EndsLandAs}
use Rattle.bridge_pair.proofs.LandedEnds.{lands_from_a, lands_from_b, lands_to_a, lands_to_b}
use Rattle.bridge_pair.proofs.pair.Pair.ends_land_as.Goals as goal

pub returns-then-lands_as : goal.returns-then-lands_as
returns-then-lands_as c = (
  λ yes. subst (λ (side : Side). EndsLandAs c.args.self.now side c.args.place c.args.other.now) (sym c.in-A.is)
      (lands_from_a c.self.inside c.other.inside c.args.place c.args.self.now c.args.other.now c.self.view_is c.other.view_is (c.lands_as.ensures.0 c.if-lands_as.true) (c.is_same.ensures.0 yes)),
  λ same. c.is_same.ensures.1
      (lands_to_a c.self.inside c.other.inside c.args.place c.args.self.now c.args.other.now c.self.view_is c.other.view_is
      (subst (λ (side : Side). EndsLandAs c.args.self.now side c.args.place c.args.other.now) c.in-A.is same)).1,
)

pub returns-else-lands_as : goal.returns-else-lands_as
returns-else-lands_as c = (
  λ yes. absurd (cc (yes, c.if-lands_as.false)),
  λ same. c.lands_as.ensures.1
      (lands_to_a c.self.inside c.other.inside c.args.place c.args.self.now c.args.other.now c.self.view_is c.other.view_is
      (subst (λ (side : Side). EndsLandAs c.args.self.now side c.args.place c.args.other.now) c.in-A.is same)).0,
)

pub returns-then-lands_as-2 : goal.returns-then-lands_as-2
returns-then-lands_as-2 c = (
  λ yes. subst (λ (side : Side). EndsLandAs c.args.self.now side c.args.place c.args.other.now) (sym c.in-B.is)
      (lands_from_b c.self.inside c.other.inside c.args.place c.args.self.now c.args.other.now c.self.view_is c.other.view_is (c.lands_as-in-B.ensures.0 c.if-lands_as-2.true) (c.is_same-then-lands_as-2.ensures.0 yes)),
  λ same. c.is_same-then-lands_as-2.ensures.1
      (lands_to_b c.self.inside c.other.inside c.args.place c.args.self.now c.args.other.now c.self.view_is c.other.view_is
      (subst (λ (side : Side). EndsLandAs c.args.self.now side c.args.place c.args.other.now) c.in-B.is same)).1,
)

pub returns-else-lands_as-2 : goal.returns-else-lands_as-2
returns-else-lands_as-2 c = (
  λ yes. absurd (cc (yes, c.if-lands_as-2.false)),
  λ same. c.lands_as-in-B.ensures.1
      (lands_to_b c.self.inside c.other.inside c.args.place c.args.self.now c.args.other.now c.self.view_is c.other.view_is
      (subst (λ (side : Side). EndsLandAs c.args.self.now side c.args.place c.args.other.now) c.in-B.is same)).0,
)
