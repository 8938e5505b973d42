use Rattle.std.proofs.Common.{◌≡◌, ◌∙◌, ◌++◌, ◌+◌, ◌<◌, Global, List, Vec, ℕ, ap, arith, subst, suc, sym}
use Rattle.std.proofs.lemmas.List.{append_assoc}
use Rattle.bridge_pair.specs.Bridge.{flight_of}
use Rattle.fabric_core.proofs.InFlight.{key_before_without, key_more_without, some_there}
use Rattle.fabric_core.proofs.keys.push_flight_without.Goals as goal
use Rattle.fabric_core.proofs.keys.push_flight_without.Goals.{in-Some+in_ok-extend_from_slice, in_default}

pub loop-place-preserved : goal.loop-place-preserved
loop-place-preserved c =
    let writes = (flight_of c.args.pair.now c.args.side).writes in
    let without = c.args.without in
    let place = c.loop-place.place in
    let next : suc place ≡ place + 1 = omega arith in
    elim c.match-label_at.branch [
      | in-Some+in_ok-extend_from_slice w ↦
          ap (λ (key : Vec ℕ Global). key.items) w.key-is ∙ w.in_ok-extend_from_slice.ensures.items ∙ ap (λ (front : List ℕ). front ++ w.label_key.result) c.loop-place.invariant
          ∙ append_assoc c.args.key.now.items (key_before_without writes without place) w.label_key.result
          ∙ ap (λ (more : List ℕ). c.args.key.now.items ++ (key_before_without writes without place ++ more)) w.label_key.ensures
          ∙ ap (λ (more : List ℕ). c.args.key.now.items ++ more) (sym (key_more_without writes without place w.in-Some.label c.if-place-without.false (sym w.in-Some.is ∙ c.label_at.ensures)))
          ∙ ap (λ (place : ℕ). c.args.key.now.items ++ key_before_without writes without place) next
      | in_default w ↦
          absurd (some_there writes place (subst (λ n. place < n) c.in_flight-place-end.ensures c.loop-place-test.true) (sym w.in_default.is ∙ c.label_at.ensures))
    ]
