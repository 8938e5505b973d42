-- What comes with the text of a reply.
use Rattle.std.specs.Prelude.{List, option_map}
use Rattle.cluster_run.specs.declared.stream.record.StreamRecord.{StreamRecord}
use Rattle.cluster_run.specs.stream.Streams.{StreamShown, streams_shown}
use Rattle.step_kinds.specs.Runs.{LaneShown, run_shown}
use Rattle.step_kinds.specs.declared.runs.RunRecord.{RunRecord}
use Rattle.traffic_command.specs.Traffic.{TrafficCarried}
use Rattle.traffic_command.specs.declared.reply.TrafficReply.{TrafficReply}

-- by what a record shows
abbrev pub carried_with : {R S : Type 0} → (R → S) → TrafficReply R → TrafficCarried S
carried_with shown reply = record { recorded = option_map shown reply.recorded; proofs = reply.proofs.items }

-- of `run`, and of `stream`
abbrev pub carried_by : TrafficReply RunRecord → TrafficCarried (List LaneShown)
carried_by reply = carried_with run_shown reply

abbrev pub streamed_by : TrafficReply StreamRecord → TrafficCarried (List StreamShown)
streamed_by reply = carried_with streams_shown reply
