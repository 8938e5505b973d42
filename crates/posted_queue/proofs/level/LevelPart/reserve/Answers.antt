use Rattle.std.proofs.Common.{◌≡◌, ◌-◌, ◌^◌, suc, min, drop, arith, ap, ◌∙◌}
use Rattle.posted_queue.specs.Rows.{row_room_in}
use Rattle.posted_queue.proofs.RowLemmas.{kept-room}
use Rattle.posted_queue.proofs.level.LevelPart.reserve.Goals as goal

pub invariant_of-self : goal.invariant_of-self
invariant_of-self g c = record {
  in_row = (let kept = c.reserve_from-outcome.ensures.kept.len in let was = c.self.invariant.in_row in omega arith);
  behind = c.reserve_from-outcome.ensures.kept.writes (suc c.self.inside.last) ∙ c.self.invariant.behind;
  room_there = (let room : c.room_from-self-inside.result ≡ min (2 ^ 64 - 1) (row_room_in (drop c.self.inside.last c.reserve_from-outcome.new.row.items)) =
      c.room_from-self-inside.ensures ∙ ap (λ row. min (2 ^ 64 - 1) (row_room_in (drop c.self.inside.last row))) c.deref.ensures.value in
      omega arith);
}

pub returns-clause-writes : goal.returns-clause-writes
returns-clause-writes g c = c.reserve_from-outcome.ensures.kept.writes 0 ∙ ap (λ state. state.writes) c.self.view_is

pub returns-clause-room : goal.returns-clause-room
returns-clause-room g c =
    let was : c.self.inside.room ≡ c.args.self.now.spare = ap (λ state. state.spare) c.self.view_is in
    let there = c.self.invariant.room_there in
    let grown = kept-room g.P.Part.most c.self.inside.row.items c.reserve_from-outcome.new.row.items c.self.inside.last c.reserve_from-outcome.ensures.kept in
    let room : c.room_from-self-inside.result ≡ min (2 ^ 64 - 1) (row_room_in (drop c.self.inside.last c.reserve_from-outcome.new.row.items)) =
    c.room_from-self-inside.ensures ∙ ap (λ row. min (2 ^ 64 - 1) (row_room_in (drop c.self.inside.last row))) c.deref.ensures.value in
    omega arith
