-- What `replay` and `load` answer, and what is true of it.
use Rattle.std.specs.Prelude.{◌≡◌, ℕ, Result, Ok, Err, List}
use Rattle.command_reply.specs.Output.{Output, reply_done, refused}
use Rattle.command_reply.specs.Statuses.{number_of}
use Rattle.command_reply.specs.declared.status.Status.TheVariants.{Done}
use Rattle.step_kinds.specs.declared.plan.Plan.{Plan}
use Rattle.script_text.specs.Script.{script_of}
use Rattle.script_words.specs.declared.fault.ScriptFault.{ScriptFault}
use Rattle.traffic_plan.specs.Load.{load_of}
use Rattle.replay_command.specs.Headline.{IsTrueLog}
use Rattle.replay_command.specs.Replays.{load_text, replay_text}

-- the report of the plan that a script declares, or the script's fault
abbrev pub replayed : Result Plan ScriptFault → Output
replayed (Ok plan) = reply_done (replay_text plan)
replayed (Err fault) = refused fault

-- the answer of `replay` to the bytes of a script
pub record IsReplayOf (bytes : List ℕ) (output : Output) : Type 0 where
  pub answer : output ≡ replayed (script_of bytes)
  -- where it is done, the bytes declare a plan, and the log of that plan is true
  pub headline : output.status ≡ number_of Done → (plan : Plan) × (script_of bytes ≡ Ok plan) × IsTrueLog plan

-- the answer of `load` to a seed and a number of frames
pub record IsLoadOf (seed frames : ℕ) (output : Output) : Type 0 where
  pub answer : output ≡ reply_done (load_text seed frames)
  -- the log of the generated plan is true
  pub headline : IsTrueLog (load_of seed frames)
