use Rattle.std.proofs.Common.{◌≡◌, true, take, sym, subst}
use Rattle.stream_model.specs.Sender.{last_given}
use Rattle.stream_model.specs.World.{World, can_give_back, last_frame}
use Rattle.stream_laws.proofs.Facade.{last_after}
use Rattle.resume_stream.proofs.world.run_world.Goals as goal

abbrev LastIsGiven : World → Type 0
LastIsGiven world = can_give_back world ≡ true → last_given world.sender ≡ last_frame world.forward

pub make-requires-clause-last : goal.make-requires-clause-last
make-requires-clause-last c =
    let events = take c.loop-event.event-index c.args.events.now in
    subst LastIsGiven (sym c.loop-event.invariant) (last_after c.args.items.frames events c.requires)
