-- What the memories of a pair show after a list of steps: each byte is the last one stored there, else 0.
use Rattle.std.specs.Prelude.{ℕ, ◌==◌, Option, Some, None, List, [], ◌∷◌, ◌++◌, map, slice_index_or, if◌then◌else◌}
use Rattle.step_kinds.specs.Sides.{other_side, same_side}
use Rattle.step_kinds.specs.Subject.{subject_of}
use Rattle.step_kinds.specs.declared.names.Side.{Side}
use Rattle.step_kinds.specs.declared.names.Side.TheVariants.{A, B}
use Rattle.step_kinds.specs.declared.plan.DevPlan.{DevPlan}
use Rattle.step_kinds.specs.declared.plan.PairPlan.{PairPlan}
use Rattle.step_kinds.specs.declared.plan.Plan.{Plan}
use Rattle.step_kinds.specs.declared.steps.Answer.{Answer}
use Rattle.step_kinds.specs.declared.steps.Answer.TheVariants.{Landed, Up, Cleared}
use Rattle.step_kinds.specs.declared.steps.Step.{Step}
use Rattle.step_kinds.specs.declared.steps.Step.TheVariants.{Land, Check, Clear}
use Rattle.pair_model.specs.Both.{Both, at_side}
use Rattle.ledger_model.specs.Ledger.{PairPart, side_of}
use Rattle.ledger_model.specs.Log.{Memories}
use Rattle.ledger_model.specs.Next.{fresh_pair, pair_next}
use Rattle.pair_model.specs.Headers.{Bytes}
use Rattle.ledger_model.specs.Receiving.{raws_before}
use Rattle.pair_model.specs.Stores.{Store, bytes_in}
use Rattle.ledger_model.specs.Targets.{store_of}
use Rattle.pair_model.specs.FreshRings.{fresh_index_words, zeroed_headers, zeroed_flags}
use Rattle.pair_model.specs.Plans.{pair_plan}

-- A pair with all that was stored in the memories of its two sides.
pub record Site : Type 0 where
  pub pair : PairPart
  pub stores : Both (List Store)

-- what is stored, as a list
abbrev pub stored : Option Store → List Store
stored None = []
stored (Some store) = store ∷ []

-- What a step stores in a side's memory, by its answer, in the pair as it was before. A landed write stores what it
-- brings, a check that is answered up stores fresh rings and index words, and a clear stores flags that are zero.
abbrev pub stores_by : PairPlan → PairPart → Side → Step → Answer → List Store
stores_by plan pair side (Land p from place) (Landed label) =
    if same_side side (other_side from)
    then stored (store_of plan pair from (slice_index_or (side_of pair from).poked (raws_before (side_of pair from).flight place) []) label)
    else []
stores_by plan pair side (Check p on) Up = if same_side side on then fresh_index_words plan on ++ zeroed_headers plan on else []
stores_by plan pair side (Clear p on queue) (Cleared n) = if same_side side on then zeroed_flags plan on queue n ∷ [] else []
stores_by plan pair side step answer = []

-- a pair that starts up has its index words; all else is zero
abbrev pub fresh_site : PairPlan → Site
fresh_site plan =
    record {
      pair = fresh_pair plan;
      stores = (if plan.up then record { a = fresh_index_words plan A; b = fresh_index_words plan B } else record { a = []; b = [] });
    }

-- the bytes that its memories show
abbrev pub bytes_of_site : Site → Bytes
bytes_of_site site = λ side at len. bytes_in (at_side site.stores side) at len

abbrev pub site_next : List DevPlan → PairPlan → Site → Step → Site
site_next devs plan site step =
    let made = pair_next devs plan (bytes_of_site site) site.pair step in
    record {
      pair = made.after;
      stores =
          record {
            a = stores_by plan site.pair A step made.answer ++ site.stores.a;
            b = stores_by plan site.pair B step made.answer ++ site.stores.b;
          };
    }

-- a pair after the steps of a list that are made on it
abbrev pub site_from : List DevPlan → PairPlan → ℕ → Site → List Step → Site
site_from devs plan k site [] = site
site_from devs plan k site (step ∷ steps) = site_from devs plan k (if subject_of step == k then site_next devs plan site step else site) steps

abbrev pub site_of : Plan → ℕ → List Step → Site
site_of plan k steps = site_from plan.devs (pair_plan plan k) k (fresh_site (pair_plan plan k)) steps

-- what the memories show after a log
abbrev pub memory_of : Plan → Memories
memory_of plan = λ log k. bytes_of_site (site_of plan k (map (λ made. made.step) log))
