use Rattle.std.proofs.Common.{refl, ◌∙◌, ap}
use Rattle.command_reply.specs.Output.{reply_done}
use Rattle.cluster_run.proofs.Facade.{known_pairs}
use Rattle.cluster_run.specs.stream.Streams.{StreamShown, stream_shown, streams_shown}
use Rattle.traffic_command.proofs.WholeStreams.{resumed_on_steps, whole}
use Rattle.traffic_command.proofs.stream.stream_script.Goals as goal

pub streams_text-requires : goal.streams_text-requires
streams_text-requires g c = record { known_pairs = known_pairs stream_shown (λ (lane : StreamShown). lane.name) c.args.script.now.declared c.in_ok-streams.streams.lanes c.in_ok-streams.ensures.lanes }

pub returns : goal.returns
returns g c =
    let script = c.args.script.now in
    let streams = streams_shown c.in_ok-streams.streams in
    let proofs = c.in_ok-streams.proofs.items in
    let resumed = resumed_on_steps script.declared script.steps streams proofs c.in_ok-streams.ensures in
    record {
      streams = streams;
      answered = refl;
      text = c.done.ensures ∙ ap reply_done c.in_ok-text.ensures;
      whole = whole script.declared streams proofs c.in_ok-streams.ensures;
      resumed = resumed;
    }
