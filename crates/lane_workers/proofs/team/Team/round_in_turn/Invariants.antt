use Rattle.std.proofs.Common.{◌≡◌, ◌≤◌}
use Rattle.lane_workers.proofs.team.Team.round_in_turn.Given as goal

abbrev pub invariant-loop : goal.invariant-loop
invariant-loop g l =
    (g.S.Worker.key l.self.giver ≡ g.S.Worker.key l.fn.self.giver)
    × (g.M.Worker.key l.self.mover ≡ g.M.Worker.key l.fn.self.mover)
    × (g.T.Worker.key l.self.taker ≡ g.T.Worker.key l.fn.self.taker)
    × (g.C.Worker.key l.self.cutter ≡ g.C.Worker.key l.fn.self.cutter)
    × (g.S.Worker.reach l.fn.self.giver ≤ g.S.Worker.reach l.self.giver)
