use Rattle.std.proofs.Common.{◌≡◌, take}
use Rattle.stream_model.specs.World.{world_after}
use Rattle.resume_stream.proofs.world.run_world.Given as goal

abbrev pub invariant-loop-event : goal.invariant-loop-event
invariant-loop-event l = l.ends ≡ world_after l.fn.items.frames (take l.event-index l.events)
