use Rattle.std.proofs.Common.{◌≡◌, ◌∙◌, List, ap, get_or, map, subst, sym}
use Rattle.std.proofs.lemmas.List.{get_or_default}
use Rattle.fabric_rule.specs.Parts.{SessionCount}
use Rattle.fabric_core.specs.Same.{AreSameWhereCounted}
use Rattle.fabric_core.specs.Sessions.{AreApart, Tallied, count_seen}
use Rattle.fabric_core.specs.declared.counts.OfSession.{OfSession}
use Rattle.fabric_core.proofs.SameParts.{differs_there, same_more}
use Rattle.fabric_core.proofs.counts.SessionCounts.is_in.Goals as goal

pub returns-then-count_in-one : goal.returns-then-count_in-one
returns-then-count_in-one c =
    let items = c.deref-one-items.result.now in
    let one : OfSession = get_or items c.loop-one.one-index (record { session = 0; count = 0 }) in
    let seen : map count_seen items ≡ c.args.self.now.counts = ap (map count_seen) c.deref-one-items.ensures.value ∙ ap (λ (tallied : Tallied). tallied.counts) c.self.view_is in
    let apart = subst (λ (items : List OfSession). AreApart (map count_seen items)) (sym c.deref-one-items.ensures.value) c.self.invariant.apart in
    let is = get_or_default items c.loop-one.one-index (record { session = 0; count = 0 }) one c.loop-one-test.true in (
      λ no. absurd (cc no),
      λ same. absurd (c.if-count_in-one.true (c.count_in.ensures
          ∙ differs_there items c.args.other.now.counts c.loop-one.one-index one apart c.loop-one-test.true is
          (subst (λ (counts : List SessionCount). AreSameWhereCounted counts c.args.other.now.counts) (sym seen) same))),
    )

pub loop-one-preserved : goal.loop-one-preserved
loop-one-preserved c =
    let items = c.deref-one-items.result.now in
    let one : OfSession = get_or items c.loop-one.one-index (record { session = 0; count = 0 }) in
    let apart = subst (λ (items : List OfSession). AreApart (map count_seen items)) (sym c.deref-one-items.ensures.value) c.self.invariant.apart in
    let is = get_or_default items c.loop-one.one-index (record { session = 0; count = 0 }) one c.loop-one-test.true in
    same_more items c.args.other.now.counts c.loop-one.one-index one apart c.loop-one-test.true is c.loop-one.invariant (sym c.count_in.ensures ∙ c.if-count_in-one.false)
