-- What `explore` answers.
use Rattle.std.specs.Prelude.{◌≡◌, ◌⊎◌, ℕ, ◌≤◌, Result, Ok, Err, List}
use Rattle.cluster_core.specs.Cluster.{ClusterState}
use Rattle.cluster_core.specs.LogClauses.{HasClusterMade}
use Rattle.command_reply.specs.Output.{Output, reply_done, refused, too_many_states}
use Rattle.explore_model.specs.Outcomes.{IsExplored}
use Rattle.explore_model.specs.States.{HasMoreThan, IsCensus, most_states}
use Rattle.explore_model.specs.Texts.{explored_text}
use Rattle.explore_model.specs.declared.outcome.Outcome.{Outcome}
use Rattle.explore_search.specs.Paths.{search_script_of as steps_of}
use Rattle.script_text.specs.Script.{script_of}
use Rattle.script_words.specs.declared.fault.ScriptFault.{ScriptFault}
use Rattle.step_kinds.specs.declared.plan.Plan.{Plan}
use Rattle.step_kinds.specs.declared.steps.Step.{Step}

-- a cluster has made these steps of the plan
abbrev pub has_made : ClusterState → Plan → List Step → Type 0
has_made cluster plan steps = HasClusterMade plan steps cluster

-- The text is that of all outcomes of the plan's schedules, which reach this many states.
pub record TellsAll (plan : Plan) (output : Output) : Type 0 where
  pub found : List Outcome
  pub states : ℕ
  pub answer : output ≡ reply_done (explored_text plan found states)
  pub explored : IsExplored plan (steps_of plan) found
  pub census : IsCensus has_made plan (steps_of plan) states
  pub few : states ≤ most_states

-- the schedules reach more states than an exploration may
pub record TellsTooMany (plan : Plan) (output : Output) : Type 0 where
  pub answer : output ≡ too_many_states
  pub many : HasMoreThan has_made plan (steps_of plan) most_states

-- what answers the plan of a script, or the script's fault
abbrev pub ExploresTo : Result Plan ScriptFault → Output → Type 0
ExploresTo (Ok plan) output = TellsAll plan output ⊎ TellsTooMany plan output
ExploresTo (Err fault) output = output ≡ refused fault

-- the answer of `explore` to the bytes of a script
abbrev pub IsExploreOf : List ℕ → Output → Type 0
IsExploreOf bytes output = ExploresTo (script_of bytes) output
