use Rattle.std.proofs.Common.{◌≡◌, ◌+◌, ◌++◌}
use Rattle.std.specs.VecDeque.{deque_len, deque_capacity}
use Rattle.lane_core.proofs.Writes.{chunk_cells}
use Rattle.lane_core.proofs.write.fill_todo.Given as goal

abbrev pub invariant-loop-part : goal.invariant-loop-part
invariant-loop-part l =
    record {
      items : l.todo.items ≡ l.initial.todo.items ++ chunk_cells l.number l.part;
      count : deque_len l.todo ≡ deque_len l.initial.todo + l.part;
      capacity : deque_capacity l.todo ≡ deque_capacity l.initial.todo;
    }
