use Rattle.std.proofs.Common.{◌∙◌, List, ap, length, map, subst}
use Rattle.fabric_rule.specs.Parts.{count_in}
use Rattle.fabric_core.specs.Sessions.{IsNowhere, IsPlaceOf, Tallied, count_seen}
use Rattle.fabric_core.specs.declared.counts.OfSession.{OfSession}
use Rattle.fabric_core.proofs.SessionTallies.{counted_in, none_in}
use Rattle.fabric_core.proofs.counts.SessionCounts.count_in.Goals as goal

pub returns-in-Some : goal.returns-in-Some
returns-in-Some c =
    let there = subst (λ (counts : List OfSession). IsPlaceOf (map count_seen counts) c.args.session c.in-Some.place) c.deref.ensures.value c.in-Some.ensures.found in
    counted_in c.self.inside.counts.items c.args.session c.in-Some.place c.index.result.now c.self.invariant.apart there c.index.ensures
    ∙ ap (λ (tallied : Tallied). count_in tallied.counts c.args.session) c.self.view_is

pub returns-in-None : goal.returns-in-None
returns-in-None c =
    let none = subst (λ (counts : List OfSession). IsNowhere (map count_seen counts) c.args.session (length counts)) c.deref.ensures.value c.in-None.ensures.none in
    none_in c.self.inside.counts.items c.args.session none ∙ ap (λ (tallied : Tallied). count_in tallied.counts c.args.session) c.self.view_is
