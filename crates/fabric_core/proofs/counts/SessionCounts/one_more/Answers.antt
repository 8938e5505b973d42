use Rattle.std.proofs.Common.{◌≡◌, ◌∙◌, List, ap, arith, length, map, max, subst, true}
use Rattle.fabric_rule.specs.Parts.{one_more}
use Rattle.fabric_core.specs.Sessions.{IsNowhere, IsPlaceOf, Tallied, count_seen}
use Rattle.fabric_core.specs.declared.counts.OfSession.{OfSession}
use Rattle.fabric_core.specs.declared.counts.SessionCounts.TheInside.{Inside}
use Rattle.fabric_core.proofs.SessionTallies.{one_more_at, one_more_behind, tally_at, tally_behind}
use Rattle.fabric_core.proofs.counts.SessionCounts.one_more.Goals.{in-Some, in-None}
use Rattle.fabric_core.proofs.counts.SessionCounts.one_more.Goals as goal

pub returns-clause-counts : goal.returns-clause-counts
returns-clause-counts c =
    let seen : one_more (map count_seen c.self.inside.counts.items) c.args.session ≡ one_more c.args.self.now.counts c.args.session =
    ap (λ (tallied : Tallied). one_more tallied.counts c.args.session) c.self.view_is in
    elim c.match-place_of.branch [
      | in-Some w ↦
          (let there = subst (λ (counts : List OfSession). IsPlaceOf (map count_seen counts) c.args.session w.in-Some.place) c.deref.ensures.value w.in-Some.ensures.found in
          ap (λ (tally : Inside). map count_seen tally.counts.items) w.self-inside-is
          ∙ one_more_at c.self.inside.counts.items c.args.session w.in-Some.place w.index_mut-one.result.now there w.index_mut-one.ensures.value ∙ seen)
      | in-None w ↦
          (let none = subst (λ (counts : List OfSession). IsNowhere (map count_seen counts) c.args.session (length counts)) c.deref.ensures.value w.in-None.ensures.none in
          ap (λ (tally : Inside). map count_seen tally.counts.items) w.self-inside-is ∙ ap (map count_seen) w.push_reserved.ensures.items
          ∙ one_more_behind c.self.inside.counts.items c.args.session none ∙ seen)
    ]

pub invariant_of-self : goal.invariant_of-self
invariant_of-self c =
    let room : c.self.inside.has_room ≡ true = ap (λ (tallied : Tallied). tallied.has_room) c.self.view_is ∙ c.requires in
    elim c.match-place_of.branch [
      | in-Some w ↦
          (let there = subst (λ (counts : List OfSession). IsPlaceOf (map count_seen counts) c.args.session w.in-Some.place) c.deref.ensures.value w.in-Some.ensures.found in
          tally_at c.self.inside c.match-place_of.self-inside c.args.session w.in-Some.place w.index_mut-one.result.now c.self.invariant room there w.index_mut-one.ensures.value
          (ap (λ (tally : Inside). tally.counts.items) w.self-inside-is) (ap (λ (tally : Inside). tally.most) w.self-inside-is) (ap (λ (tally : Inside). tally.made) w.self-inside-is))
      | in-None w ↦
          (let none = subst (λ (counts : List OfSession). IsNowhere (map count_seen counts) c.args.session (length counts)) c.deref.ensures.value w.in-None.ensures.none in
          let most : c.match-place_of.self-inside.most ≡ max c.self.inside.most c.args.session = ap (λ (tally : Inside). tally.most) w.self-inside-is ∙ w.max-self-inside.ensures in
          tally_behind c.self.inside c.match-place_of.self-inside c.args.session c.self.invariant room none
          (ap (λ (tally : Inside). tally.counts.items) w.self-inside-is ∙ w.push_reserved.ensures.items) (omega (arith, most)) (omega (arith, most)) (ap (λ (tally : Inside). tally.made) w.self-inside-is))
    ]
