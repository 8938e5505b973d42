use Rattle.std.proofs.Common.{◌≡◌, ◌&&◌, true, false, sym, ap, ◌∙◌, get_or, arith}
use Rattle.std.proofs.lemmas.List.Folds.{list_all_more}
use Rattle.order_rules.specs.Transactions.{may_overtake}
use Rattle.read_path.specs.InFlight.{PathFlying, path_kind_of}
use Rattle.read_path.specs.Flights.{FlightState, path_flying_of}
use Rattle.read_path.proofs.FlightLemmas.{one_fails, seen_there}
use Rattle.read_path.proofs.flight.Flight.passes.Goals as goal

pub returns-then-not-may_pass : goal.returns-then-not-may_pass
returns-then-not-may_pass c =
    let x = c.index.result.now in
    let kind = c.args.kind in
    let there = seen_there c.self.inside.items.items c.args.self.now.flying c.loop-place.place x (ap (λ (s : FlightState). s.flying) c.self.view_is) c.index.ensures in
    let fails : may_overtake kind (path_kind_of (get_or c.args.self.now.flying c.loop-place.place (path_flying_of x))) ≡ false =
    ap (λ (f : PathFlying). may_overtake kind (path_kind_of f)) there ∙ (ap (λ k. may_overtake kind k) (sym c.kind.ensures.value)
    ∙ (sym (c.full_table-table.ensures kind c.kind.result c.requires.kind c.kind.ensures.small) ∙ (sym c.may_pass.ensures ∙ c.if-not-may_pass.true))) in
    sym (one_fails (λ earlier. may_overtake kind (path_kind_of earlier)) c.args.self.now.flying c.loop-place.place c.args.count (path_flying_of x) c.loop-place-test.true (omega (arith, c.loop-place-test.true, c.requires.within)) fails)

pub loop-place-preserved : goal.loop-place-preserved
loop-place-preserved c =
    let x = c.index.result.now in
    let kind = c.args.kind in
    let place = c.loop-place.place in
    let flying = c.args.self.now.flying in
    let there = seen_there c.self.inside.items.items flying place x (ap (λ (s : FlightState). s.flying) c.self.view_is) c.index.ensures in
    let passes : may_overtake kind (path_kind_of (get_or flying place (path_flying_of x))) ≡ true =
    ap (λ (f : PathFlying). may_overtake kind (path_kind_of f)) there ∙ (ap (λ k. may_overtake kind k) (sym c.kind.ensures.value)
    ∙ (sym (c.full_table-table.ensures kind c.kind.result c.requires.kind c.kind.ensures.small) ∙ (sym c.may_pass.ensures ∙ c.if-not-may_pass.false))) in
    list_all_more (λ earlier. may_overtake kind (path_kind_of earlier)) flying place (path_flying_of x) (omega (arith, c.loop-place-test.true, c.requires.within))
    ∙ (ap (λ b. b && may_overtake kind (path_kind_of (get_or flying place (path_flying_of x)))) c.loop-place.invariant ∙ passes)
