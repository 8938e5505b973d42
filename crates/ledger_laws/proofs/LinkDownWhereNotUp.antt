-- A step is answered `linkdown` if and only if it needs the link and the last link step of the pair that wasn't refused
-- left it not up.
use Rattle.std.proofs.Common.{◌≡◌, ℕ, Bool, true, false, not, ◌&&◌, List, refl, sym, ap, ◌∙◌}
use Rattle.std.specs.Prelude.{if◌then◌else◌}
use Rattle.std.proofs.lemmas.Bool.{not-false}
use Rattle.step_kinds.specs.Subject.{subject_of}
use Rattle.step_kinds.specs.declared.plan.Plan.{Plan}
use Rattle.step_kinds.specs.declared.plan.DevPlan.{DevPlan}
use Rattle.step_kinds.specs.declared.plan.PairPlan.{PairPlan}
use Rattle.step_kinds.specs.declared.steps.Step.{Step}
use Rattle.step_kinds.specs.declared.steps.Step.TheVariants.{Enable, Train, Break, DropDone, Clean, Offer, Check, Ready, Join, Begin, QpDown, Xbegin, Post, Land, Look, Copy, Clear, Ack, Wake}
use Rattle.pair_model.specs.Plans.{dev_plan, pair_plan}
use Rattle.pair_model.specs.Sizes.{sizes_of}
use Rattle.pair_model.specs.Headers.{Bytes}
use Rattle.ledger_laws.specs.Laws.{is_link_down, needs_link, LinkDownWhereNotUp}
use Rattle.ledger_model.specs.Ledger.{PairPart, link_up}
use Rattle.ledger_model.specs.Log.{Memories, up_at, trains, breaks, log_of, ledger_of}
use Rattle.ledger_model.specs.Next.{pair_next, read_next, fresh_pair}
use Rattle.ledger_model.specs.Reading.{Reading, reading_of}
use Rattle.ledger_laws.proofs.Outcomes.{passed}
use Rattle.ledger_laws.proofs.walk.Cases.{enable_cases, train_cases, break_cases, drop_cases, clean_cases, offer_cases, check_cases, ready_cases, join_cases, begin_cases, qpdown_cases, xbegin_cases, post_cases, land_cases, look_cases, copy_cases, clear_cases, ack_cases, wake_cases}
use Rattle.pair_model.specs.Link.{is_up}
use Rattle.ledger_model.specs.Log.{Answered}
use Rattle.step_kinds.specs.declared.names.LaneName.{LaneName}
use Rattle.step_kinds.specs.declared.names.Side.TheVariants.{A}
use Rattle.ledger_laws.proofs.AtStart.{closing-not_up}
use Rattle.ledger_laws.proofs.LogReaders.{up_step, up_after-last}
use Rattle.ledger_laws.proofs.LogGrowth.{answer_of}
use Rattle.ledger_laws.proofs.walk.Logs.{HoldsAlways, always_after}
use Rattle.ledger_laws.proofs.walk.Sight.{Sight}
use Rattle.ledger_laws.proofs.walk.News.{News, Tells}
use Rattle.ledger_laws.proofs.walk.Turn.{Turn, Trains, Breaks, Drops}

-- what a made step answers, if the link is up
not_down : (up : Bool) → up ≡ true → false ≡ not up
not_down up e = rw e refl

-- a step is answered `linkdown` where it needs the link and the link isn't up
read_answer : (devs : List DevPlan) (plan : PairPlan) (reading : Reading) (bytes : Bytes) (pair : PairPart) (step : Step)
    → is_link_down (read_next devs plan reading bytes pair step).answer ≡ (needs_link step && not (link_up pair))
read_answer devs plan reading bytes pair (Enable p side) = enable_cases (λ o. is_link_down o.answer ≡ false) pair side (λ r no. no.link) (λ _. refl)
read_answer devs plan reading bytes pair (Train p) = train_cases (λ o. is_link_down o.answer ≡ false) pair (λ r no. no.link) (λ _. refl)
read_answer devs plan reading bytes pair (Break p) = break_cases (λ o. is_link_down o.answer ≡ false) pair (λ r no. no.link) (λ _. refl)
read_answer devs plan reading bytes pair (DropDone p) = drop_cases (λ o. is_link_down o.answer ≡ false) pair (λ r no. no.link) (λ _. refl)
read_answer devs plan reading bytes pair (Clean p side) = clean_cases (λ o. is_link_down o.answer ≡ false) pair side (λ r no. no.link) (λ _. refl)
read_answer devs plan reading bytes pair (Offer p side) =
    offer_cases (λ o. is_link_down o.answer ≡ not (link_up pair)) plan pair side (λ r no. no.link) (λ up _. not_down (link_up pair) up)
read_answer devs plan reading bytes pair (Check p side) =
    check_cases (λ o. is_link_down o.answer ≡ not (link_up pair)) plan pair side (λ r no. no.link) (λ none. not_down (link_up pair) (not-false _ ((passed _ _ _ none).0)))
read_answer devs plan reading bytes pair (Ready p side queue) =
    ready_cases (λ o. is_link_down o.answer ≡ not (link_up pair)) pair side queue (λ r no. no.link) (λ up checked. not_down (link_up pair) up)
read_answer devs plan reading bytes pair (Join p side queue) =
    join_cases (λ o. is_link_down o.answer ≡ not (link_up pair)) pair side queue (λ r no. no.link) (λ up ready asked. not_down (link_up pair) up)
read_answer devs plan reading bytes pair (Begin p side queue frame) =
    begin_cases reading (λ o. is_link_down o.answer ≡ not (link_up pair)) (sizes_of plan side queue) pair side queue frame (λ r no. no.link) (λ may. not_down (link_up pair) may.up)
read_answer devs plan reading bytes pair (QpDown p side queue) =
    qpdown_cases reading (λ o. is_link_down o.answer ≡ not (link_up pair)) (sizes_of plan side queue) pair side queue (λ r no. no.link) (λ may. not_down (link_up pair) may.up)
read_answer devs plan reading bytes pair (Xbegin p side queue dev dst kind payload) =
    xbegin_cases reading (λ o. is_link_down o.answer ≡ not (link_up pair)) (sizes_of plan side queue) (dev_plan devs dev) pair side queue dst kind payload (λ r no. no.link)
    (λ may. not_down (link_up pair) may.up)
read_answer devs plan reading bytes pair (Post p side queue) =
    post_cases reading (λ o. is_link_down o.answer ≡ false) pair side queue refl (λ label rest e. refl) (λ entry others label rest idle waits e. refl)
read_answer devs plan reading bytes pair (Land p side place) = land_cases (λ o. is_link_down o.answer ≡ false) plan pair side place (λ r no. no.link) (λ label at may. refl)
read_answer devs plan reading bytes pair (Look p side queue) =
    look_cases reading (λ o. is_link_down o.answer ≡ false) pair side queue (λ r no found. no) (λ may none. refl) (λ may len left found. refl) (λ may. refl)
read_answer devs plan reading bytes pair (Copy p side queue) =
    copy_cases reading (λ o. is_link_down o.answer ≡ false) pair side queue (λ r no. no.link) (λ turn more. refl) (λ turn all others. refl) (λ turn all last. refl)
read_answer devs plan reading bytes pair (Clear p side queue) = clear_cases (λ o. is_link_down o.answer ≡ false) pair side queue (λ r no. no.link) (λ _. refl)
read_answer devs plan reading bytes pair (Ack p side queue) = ack_cases reading (λ o. is_link_down o.answer ≡ false) pair side queue (λ r no. no.link) (λ _. refl)
read_answer devs plan reading bytes pair (Wake p side queue dev) =
    wake_cases (λ o. is_link_down o.answer ≡ false) reading (dev_plan devs dev) pair side queue (λ r no. no.link) refl
read_answer devs plan reading bytes pair step = refl

-- A step is answered `linkdown` if and only if it needs the link and the ledger's link of its pair isn't up.
pub link_answer : (devs : List DevPlan) (plan : PairPlan) (bytes : Bytes) (pair : PairPart) (step : Step)
    → is_link_down (pair_next devs plan bytes pair step).answer ≡ (needs_link step && not (link_up pair))
link_answer devs plan bytes pair step = read_answer devs plan (reading_of plan bytes pair) bytes pair step

fresh_up : (up : Bool) (plan : PairPlan) → up ≡ plan.up → up ≡ link_up (fresh_pair plan)
fresh_up true plan e = rw (← e) refl
fresh_up false plan e = rw (← e) refl

-- the log says whether the pair's link is up
next_up : (b c now : Bool) (k : ℕ) (made : Answered) → trains k made ≡ b → breaks k made ≡ c → up_step k made now ≡ (if b then true else if c then false else now)
next_up b c now k made starts ends = rw (starts, ends) refl

up_kept : (plan : Plan) (lane : LaneName) (s : Sight) (made : Answered) (news : News) (t : Sight) → Tells plan lane s.lane made news → Turn plan lane s made news t
    → up_step lane.pair made (is_up s.state) ≡ is_up t.state
up_kept plan lane s made news t tells (Trains may) = next_up true false (is_up s.state) lane.pair made tells.starts tells.ends
up_kept plan lane s made news t tells (Breaks may) = next_up false true (is_up s.state) lane.pair made tells.starts tells.ends
up_kept plan lane s made news t tells (Drops may) = next_up false false (is_up s.state) lane.pair made tells.starts tells.ends ∙ closing-not_up s.state may.closing
up_kept plan lane s made news t tells turn = next_up false false (is_up s.state) lane.pair made tells.starts tells.ends

link_runs : (plan : Plan) (lane : LaneName) → HoldsAlways plan lane (λ log s. up_at plan lane.pair log ≡ is_up s.state)
link_runs plan lane = record {
  fresh = fresh_up (pair_plan plan lane.pair).up (pair_plan plan lane.pair) refl;
  turns = λ log s made news t tells turn h. up_after-last lane.pair (pair_plan plan lane.pair).up log made ∙ ap (up_step lane.pair made) h ∙ up_kept plan lane s made news t tells turn;
}

-- after every log: any lane of the pair tells it
pub up_known : (plan : Plan) (memories : Memories) (steps : List Step) (pair : ℕ) → up_at plan pair (log_of plan memories steps) ≡ link_up (ledger_of plan memories steps pair)
up_known plan memories steps pair = always_after plan any _ (link_runs plan any) memories steps
  where
    any : LaneName
    any = record { pair = pair; from = A; queue = 0 }

-- A step is answered `linkdown` if and only if it needs the link and the log says that its pair's link isn't up.
pub link_down_where_not_up : LinkDownWhereNotUp
link_down_where_not_up plan memories steps step answer goes =
    ap is_link_down (answer_of plan memories steps step answer goes)
    ∙ link_answer plan.devs (pair_plan plan (subject_of step)) (memories (log_of plan memories steps) (subject_of step)) (ledger_of plan memories steps (subject_of step)) step
    ∙ ap (λ up. needs_link step && not up) (sym (up_known plan memories steps (subject_of step)))
