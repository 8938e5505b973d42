use Rattle.std.proofs.Common.{◌≡◌, ◌≤◌, take}
use Rattle.std.specs.VecDeque.{deque_capacity, deque_len}
use Rattle.learn_switch.proofs.frame_queue.FrameQueue.copy_of.Given as goal

abbrev pub invariant-loop-place : goal.invariant-loop-place
invariant-loop-place l = record {
  so_far : l.frames.items ≡ take l.place l.self-inside.frames.items;
  len : deque_len l.frames ≡ l.place;
  room : l.place-end ≤ deque_capacity l.frames;
}
