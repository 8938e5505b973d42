-- Steps that are refused: what they leave, and that they are refused again where they are made again at once.
use Rattle.std.specs.Prelude.{◌≡◌, Bool, true, false, List, [], ◌∷◌, ◌++◌}
use Rattle.step_kinds.specs.declared.plan.Plan.{Plan}
use Rattle.step_kinds.specs.declared.steps.Answer.{Answer}
use Rattle.step_kinds.specs.declared.steps.Step.{Step}
use Rattle.step_kinds.specs.declared.steps.Step.TheVariants.{Relay, Xbegin, Xnext}
use Rattle.step_kinds.specs.Answers.{is_made}
use Rattle.fabric_core.specs.Refusals.{refused_in as refused_on_bridges}
use Rattle.cluster_core.specs.Cluster.{ClusterState}
use Rattle.cluster_core.specs.LogClauses.{HasClusterMade, IsClusterAnswered}

-- the cluster after a step that was refused: the same, but for what a fabric changes then
abbrev pub cluster_refused_in : ClusterState → Step → ClusterState
cluster_refused_in cluster step = record cluster { fabric = refused_on_bridges cluster.fabric step }

-- a device counts the refusals of its frames, so these change something, and a switch makes its steps by itself
abbrev pub is_plain_step : Step → Bool
is_plain_step (Xbegin pair side queue dev dst kind payload) = false
is_plain_step (Relay pair side queue switch port) = false
is_plain_step (Xnext pair side queue dev) = false
is_plain_step step = true

-- Any other step that was refused is answered the same where it is made again at once. A cluster that has made the
-- steps, it the last of them, has made it once more as it is.
abbrev pub ClusterRefusedAgain : Type 0
ClusterRefusedAgain = (plan : Plan) (steps : List Step) (step : Step) (answer : Answer) (cluster : ClusterState) →
    IsClusterAnswered plan steps step answer → is_made answer ≡ false → is_plain_step step ≡ true → HasClusterMade plan (steps ++ step ∷ []) cluster →
    IsClusterAnswered plan (steps ++ step ∷ []) step answer × HasClusterMade plan ((steps ++ step ∷ []) ++ step ∷ []) cluster
