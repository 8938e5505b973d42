-- In every log, on raw pairs too, the ledger's tallies count the frames that a lane accepted and delivered in a
-- session.
use Rattle.std.proofs.Common.{◌≡◌, ℕ, ◌+◌, ◌==◌, Bool, true, false, List, [], ◌∷◌, ◌++◌, length, refl, sym, ap, ◌∙◌, subst, inl, inr, ◌⊎◌, arith}
use Rattle.std.specs.Prelude.{count_by, if◌then◌else◌}
use Rattle.std.specs.List.{flat_map}
use Rattle.std.proofs.lemmas.Bool.{eq-eqb, ne_eqb, cases_eq}
use Rattle.std.proofs.lemmas.List.{append-nil, length-append}
use Rattle.std.proofs.lemmas.List.Sums.{sum_by-cons}
use Rattle.step_kinds.specs.declared.names.LaneName.{LaneName}
use Rattle.step_kinds.specs.declared.names.Side.{Side}
use Rattle.step_kinds.specs.declared.names.Side.TheVariants.{A, B}
use Rattle.step_kinds.specs.declared.plan.Plan.{Plan}
use Rattle.step_kinds.specs.declared.plan.PairPlan.{PairPlan}
use Rattle.ledger_model.specs.Ledger.{Tally, tally_of, updated}
use Rattle.ledger_model.specs.Log.{Answered, Numbered, accepts, delivers, accepted, delivered, first_session, trains, made_in, log_of}
use Rattle.ledger_model.specs.Next.{fresh_pair, no_tally}
use Rattle.pair_model.specs.Plans.{pair_plan}
use Rattle.ledger_laws.specs.Laws.{SessionsAreCounts, TalliesAreCounts}
use Rattle.ledger_laws.proofs.LogReaders.{session_at, session_at-last, found_in-last}
use Rattle.ledger_laws.proofs.walk.Logs.{HoldsAlways, always_after}
use Rattle.ledger_laws.proofs.walk.Sight.{Sight}
use Rattle.ledger_laws.proofs.walk.News.{News, Tells}
use Rattle.ledger_laws.proofs.walk.Turn.{Turn, Trains, Begins, CopiesLast, more_accepted, more_delivered}

-- what is added to the lists of a session by what is made now
abbrev pub added : ℕ → ℕ → List Numbered → List Numbered
added session now frames = if now == session then frames else []

-- Adding no frames to a list, under any condition, leaves it as it was.
pub added-none : (b : Bool) (xs frames : List Numbered) → frames ≡ [] → xs ++ (if b then frames else []) ≡ xs
added-none true xs frames e = ap (λ more. xs ++ more) e ∙ append-nil xs
added-none false xs frames e = append-nil xs

-- Frames made while the pair is in a session are added to the list of that session.
pub added-now : (session now : ℕ) (xs frames more : List Numbered) → now ≡ session → frames ≡ more → xs ++ added session now frames ≡ xs ++ more
added-now session now xs frames more e f = ap (λ b. xs ++ (if b then frames else [])) (eq-eqb now session e) ∙ ap (λ ys. xs ++ ys) f

-- Frames made while the pair is in another session add nothing to a session's list.
pub added-elsewhere : (session now : ℕ) (xs frames : List Numbered) → (now ≡ session → ⊥) → xs ++ added session now frames ≡ xs
added-elsewhere session now xs frames ne = ap (λ b. xs ++ (if b then frames else [])) (ne_eqb now session ne) ∙ append-nil xs

-- the tally of the session that is counted, and of another one
tally-now : (tally : ℕ → Tally) (more : Tally → Tally) (session now : ℕ) → now ≡ session → updated tally now (more (tally now)) session ≡ more (tally session)
tally-now tally more session now e = ap (λ b. if b then more (tally now) else tally session) (eq-eqb session now (sym e)) ∙ ap (λ n. more (tally n)) e

tally-elsewhere : (tally : ℕ → Tally) (counted : Tally) (session now : ℕ) → (now ≡ session → ⊥) → updated tally now counted session ≡ tally session
tally-elsewhere tally counted session now ne = ap (λ b. if b then counted else tally session) (ne_eqb session now (λ e. ne (sym e)))

-- What holds of two lists of frames holds of two that are equal to them.
pub of_lists : (P : List Numbered → List Numbered → Type 0) {a b c d : List Numbered} → a ≡ b → c ≡ d → P b d → P a c
of_lists P {a} {b} {c} {d} e f lists = subst (λ x. P x c) (sym e) (subst (λ x. P b x) (sym f) lists)

abbrev IsTallied : ℕ → Sight → List Numbered → List Numbered → Type 0
IsTallied session s taken given = s.tally session ≡ record { accepted = length taken; delivered = length given }

tally_kept : (plan : Plan) (lane : LaneName) (session : ℕ) (s : Sight) (made : Answered) (news : News) (t : Sight) (taken given : List Numbered)
    → Tells plan lane s.lane made news → Turn plan lane s made news t → (s.session ≡ session) ⊎ (s.session ≡ session → ⊥) → IsTallied session s taken given
    → IsTallied session t (taken ++ added session s.session (accepts plan lane made)) (given ++ added session s.session (delivers lane made))
tally_kept plan lane session s made news t taken given tells (Begins bytes first others may cut) (inl now) h =
    of_lists (IsTallied session t) (added-now session s.session taken _ _ now tells.accepted) (added-none (s.session == session) given _ tells.delivered)
    (tally-now s.tally more_accepted session s.session now ∙ ap more_accepted h
    ∙ ap (λ n. record { accepted = n; delivered = length given }) (sym (length-append taken (record { number = s.lane.told; bytes = bytes } ∷ []))))
tally_kept plan lane session s made news t taken given tells (Begins bytes first others may cut) (inr ne) h =
    of_lists (IsTallied session t) (added-elsewhere session s.session taken _ ne) (added-elsewhere session s.session given _ ne) (tally-elsewhere s.tally _ session s.session ne ∙ h)
tally_kept plan lane session s made news t taken given tells (CopiesLast bytes may) (inl now) h =
    of_lists (IsTallied session t) (added-none (s.session == session) taken _ tells.accepted) (added-now session s.session given _ _ now tells.delivered)
    (tally-now s.tally more_delivered session s.session now ∙ ap more_delivered h
    ∙ ap (λ n. record { accepted = length taken; delivered = n }) (sym (length-append given (record { number = s.lane.done; bytes = s.lane.gathered ++ bytes } ∷ []))))
tally_kept plan lane session s made news t taken given tells (CopiesLast bytes may) (inr ne) h =
    of_lists (IsTallied session t) (added-elsewhere session s.session taken _ ne) (added-elsewhere session s.session given _ ne) (tally-elsewhere s.tally _ session s.session ne ∙ h)
tally_kept plan lane session s made news t taken given tells turn c h =
    of_lists (IsTallied session t) (added-none (s.session == session) taken _ tells.accepted) (added-none (s.session == session) given _ tells.delivered) h

-- the session goes on, but where one begins
pub session_kept : (plan : Plan) (lane : LaneName) (s : Sight) (made : Answered) (news : News) (t : Sight) → Tells plan lane s.lane made news → Turn plan lane s made news t
    → (if trains lane.pair made then s.session + 1 else s.session) ≡ t.session
session_kept plan lane s made news t tells (Trains may) = ap (λ b. if b then s.session + 1 else s.session) tells.starts
session_kept plan lane s made news t tells turn = ap (λ b. if b then s.session + 1 else s.session) tells.starts

-- what a log has of a session, with one entry more, if the lane's session is this one
pub more_found : (plan : Plan) (lane : LaneName) (session : ℕ) (log : List Answered) (made : Answered) (now : ℕ) → session_at lane.pair (first_session plan lane.pair) log ≡ now
    → (read : Answered → List Numbered) → flat_map read (made_in lane.pair session (first_session plan lane.pair) (log ++ made ∷ []))
    ≡ flat_map read (made_in lane.pair session (first_session plan lane.pair) log) ++ added session now (read made)
more_found plan lane session log made now is read =
    found_in-last read lane.pair session (first_session plan lane.pair) log made
    ∙ ap (λ n. flat_map read (made_in lane.pair session (first_session plan lane.pair) log) ++ (if n == session then read made else [])) is

-- Each turn keeps the session that is read off the log equal to the one that the lane has in sight.
pub now_kept : (plan : Plan) (lane : LaneName) (log : List Answered) (s : Sight) (made : Answered) (news : News) (t : Sight) → Tells plan lane s.lane made news → Turn plan lane s made news t
    → session_at lane.pair (first_session plan lane.pair) log ≡ s.session → session_at lane.pair (first_session plan lane.pair) (log ++ made ∷ []) ≡ t.session
now_kept plan lane log s made news t tells turn now =
    session_at-last lane.pair (first_session plan lane.pair) log made ∙ ap (λ n. if trains lane.pair made then n + 1 else n) now ∙ session_kept plan lane s made news t tells turn

record TallyRun (plan : Plan) (lane : LaneName) (session : ℕ) (log : List Answered) (s : Sight) : Type 0 where
  now : session_at lane.pair (first_session plan lane.pair) log ≡ s.session
  tallied : IsTallied session s (accepted plan log lane session) (delivered plan log lane session)

no_tally_at : (plan : PairPlan) (from : Side) (queue session : ℕ) → tally_of (fresh_pair plan) from queue session ≡ no_tally
no_tally_at plan A queue session = refl
no_tally_at plan B queue session = refl

-- Before any step a pair is in session 1 where it is declared up, and else in session 0.
pub fresh_now : (up : Bool) (plan : PairPlan) → plan.up ≡ up → (if plan.up then 1 else 0) ≡ (fresh_pair plan).link.session
fresh_now true plan e = rw e refl
fresh_now false plan e = rw e refl

tally_runs : (plan : Plan) (lane : LaneName) (session : ℕ) → HoldsAlways plan lane (TallyRun plan lane session)
tally_runs plan lane session = record {
  fresh = record { now = fresh_now (pair_plan plan lane.pair).up (pair_plan plan lane.pair) refl; tallied = no_tally_at (pair_plan plan lane.pair) lane.from lane.queue session };
  turns = λ log s made news t tells turn h. record {
    now = now_kept plan lane log s made news t tells turn h.now;
    tallied = of_lists (IsTallied session t) (more_found plan lane session log made s.session h.now (accepts plan lane)) (more_found plan lane session log made s.session h.now (delivers lane))
        (tally_kept plan lane session s made news t (accepted plan log lane session) (delivered plan log lane session) tells turn (cases_eq s.session session) h.tallied);
  };
}

-- The ledger's tally of a lane and session has the numbers of frames that the log accepted and delivered there.
pub tallies_are_counts : TalliesAreCounts
tallies_are_counts plan memories steps lane session = (always_after plan lane (TallyRun plan lane session) (tally_runs plan lane session) memories steps).tallied

-- The session is a count of the log too

session_at-counts : (k now : ℕ) (log : List Answered) → session_at k now log ≡ now + count_by (trains k) log
session_at-counts k now [] = omega arith
session_at-counts k now (made ∷ log) =
    session_at-counts k (if trains k made then now + 1 else now) log ∙ one (trains k made) (count_by (trains k) log)
    ∙ ap (λ n. now + n) (sym (sum_by-cons (λ m. if trains k m then 1 else 0) made log))
  where
    one : (starts : Bool) (others : ℕ) → (if starts then now + 1 else now) + others ≡ now + ((if starts then 1 else 0) + others)
    one true others = omega arith
    one false others = omega arith

session_runs : (plan : Plan) (lane : LaneName) → HoldsAlways plan lane (λ log s. session_at lane.pair (first_session plan lane.pair) log ≡ s.session)
session_runs plan lane = record {
  fresh = fresh_now (pair_plan plan lane.pair).up (pair_plan plan lane.pair) refl;
  turns = λ log s made news t tells turn now. now_kept plan lane log s made news t tells turn now;
}

-- A pair's session is its first one plus the number of trains of the pair that were made in the log.
pub sessions_are_counts : SessionsAreCounts
sessions_are_counts plan memories steps pair =
    sym (always_after plan any _ (session_runs plan any) memories steps) ∙ session_at-counts pair (first_session plan pair) (log_of plan memories steps)
  where
    -- any lane of the pair
    any : LaneName
    any = record { pair = pair; from = A; queue = 0 }
