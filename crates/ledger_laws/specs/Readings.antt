-- On an ordinary pair the bytes say what the ledger says: both readings decide every permitted step alike.
use Rattle.std.specs.Prelude.{◌≡◌, ℕ, false, List}
use Rattle.std.specs.List.{AllByRecursion}
use Rattle.step_kinds.specs.Subject.{subject_of}
use Rattle.step_kinds.specs.declared.plan.Plan.{Plan}
use Rattle.step_kinds.specs.declared.steps.Step.{Step}
use Rattle.pair_model.specs.DeclaredPlans.{IsDeclared, IsPairOf, IsPermitted}
use Rattle.pair_model.specs.Plans.{pair_plan}
use Rattle.ledger_model.specs.Next.{read_next}
use Rattle.ledger_model.specs.Log.{ledger_of}
use Rattle.ledger_model.specs.Reading.{by_ledger, by_bytes}
use Rattle.ledger_model.specs.Memory.{bytes_of_site, memory_of, site_of}

-- After any steps that a declared plan permits, the next one that it permits has the same outcome by the bytes as by
-- the ledger, on each ordinary pair.
abbrev pub BytesSayTheLedger : Type 0
BytesSayTheLedger = (plan : Plan) (steps : List Step) (step : Step) → IsDeclared plan → AllByRecursion (IsPermitted plan) steps → IsPermitted plan step →
    let k = subject_of step in
    let pair = pair_plan plan k in
    let site = site_of plan k steps in
    IsPairOf plan k → pair.raw ≡ false →
    read_next plan.devs pair (by_bytes pair (bytes_of_site site) site.pair) (bytes_of_site site) site.pair step
    ≡ read_next plan.devs pair (by_ledger pair site.pair) (bytes_of_site site) site.pair step

-- The pair of a site is the ledger's, whose memories show what was stored.
abbrev pub SitesAreTheLedger : Type 0
SitesAreTheLedger = (plan : Plan) (steps : List Step) (k : ℕ) → (site_of plan k steps).pair ≡ ledger_of plan (memory_of plan) steps k
