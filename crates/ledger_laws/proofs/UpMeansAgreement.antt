-- A check that is answered `up` has found the peer's whole offer of this session, and it agrees.
use Rattle.std.proofs.Common.{◌≡◌, ℕ, zero, suc, ◌+◌, ◌*◌, ◌<◌, ◌≤◌, ◌==◌, Bool, true, false, not, Option, Some, None, List, [], ◌∷◌, ◌++◌, refl, sym, ap, ◌∙◌, subst, inl, inr, arith, ◌&&◌, ◌||◌}
use Rattle.std.specs.Prelude.{if◌then◌else◌, nat_lt, ◌/◌, ◌%◌, find}
use Rattle.std.specs.List.{AllByRecursion}
use Rattle.std.proofs.lemmas.Bool.{false≢true, true≢false, cases_Bool, eqb-true, eqb-false, ltb-false, not-false}
use Rattle.step_kinds.specs.Sides.{other_side}
use Rattle.step_kinds.specs.declared.names.LaneName.{LaneName}
use Rattle.step_kinds.specs.declared.names.Side.{Side}
use Rattle.step_kinds.specs.declared.names.Side.TheVariants.{A, B}
use Rattle.step_kinds.specs.declared.plan.Plan.{Plan}
use Rattle.step_kinds.specs.declared.plan.PairPlan.{PairPlan}
use Rattle.step_kinds.specs.declared.plan.SidePlan.{SidePlan}
use Rattle.step_kinds.specs.declared.steps.Answer.TheVariants.{LinkDown, Already, NotYet, Version, Queues, Windows, Up}
use Rattle.step_kinds.specs.declared.steps.Label.{Label}
use Rattle.step_kinds.specs.declared.steps.Step.TheVariants.{Check}
use Rattle.lane_model.specs.Lane.{count_from}
use Rattle.pair_model.specs.Both.{both_of}
use Rattle.ledger_model.specs.Handshake.{pad_in, refuse_larger, check_refusal, check_step}
use Rattle.pair_model.specs.Pads.{word, offers, first_larger, size_in, versions_differ, high_pad, low_pad, queues_pad, version_pad, windows_pad}
use Rattle.pair_model.specs.Plans.{pair_plan, side_plan}
use Rattle.ledger_laws.specs.Laws.{UpMeansAgreement, Agrees, VersionsAgree, HasNumbersInRange, IsOrdinaryOn}
use Rattle.ledger_model.specs.Ledger.{PairPart, SidePart, side_of, link_up}
use Rattle.pair_model.specs.Link.{is_up, fresh_link}
use Rattle.ledger_model.specs.Log.{Answered, log_of, ledger_of, landed_pad}
use Rattle.ledger_model.specs.Next.{fresh_pair, idle_side, agreed_side}
use Rattle.ledger_laws.proofs.AtStart.{fresh-flight}
use Rattle.ledger_laws.proofs.CleanSides.{SettledOf, settled_up, settled_kept, settled_new}
use Rattle.ledger_laws.proofs.InFlight.{EmptyOf, empty_kept}
use Rattle.ledger_laws.proofs.Offers.{is_offer, last_value, value_of, offer-version, offer-queues, offer-windows, offer-high, offer-low, whole_landed, window_offers}
use Rattle.ledger_laws.proofs.OffersInSession.{InSession, SessionOf, session_kept}
use Rattle.ledger_laws.proofs.Outcomes.{passed}
use Rattle.ledger_laws.proofs.LogGrowth.{answer_of}
use Rattle.ledger_laws.proofs.walk.Cases.{refuses, neither, check_cases}
use Rattle.ledger_laws.proofs.walk.Logs.{HoldsOn, holds_after}
use Rattle.ledger_laws.proofs.walk.Sight.{Sight, sight}

-- The handshake in every log

pub record HandshakeKnown (lane : LaneName) (peer : SidePlan) (log : List Answered) (s : Sight) : Type 0 where
  pub empty : EmptyOf s
  pub settled : SettledOf s
  pub session : is_up s.state ≡ true → s.sender.up ≡ false → SessionOf lane peer log s

handshake_fresh : (plan : PairPlan) (lane : LaneName) (peer : SidePlan) → HandshakeKnown lane peer [] (sight lane.from lane.queue (fresh_pair plan))
handshake_fresh plan lane peer = record {
  empty = λ down. (fresh-flight plan lane.from, fresh-flight plan (other_side lane.from));
  settled = (go plan.up lane.from).0;
  session = λ up no_check. absurd ((go plan.up lane.from).1 up no_check);
}
  where
    start : Bool → Side → Sight
    start up from = sight from lane.queue (record (fresh_pair plan) {
      link = fresh_link up;
      sides = (if up then record { a = agreed_side plan.a plan.b; b = agreed_side plan.b plan.a } else both_of idle_side);
    })

    go : (up : Bool) (from : Side) → SettledOf (start up from) × (is_up (start up from).state ≡ true → (start up from).sender.up ≡ false → ⊥)
    go true A = ((settled_up _ refl, settled_up _ refl), λ up no_check. true≢false no_check)
    go true B = ((settled_up _ refl, settled_up _ refl), λ up no_check. true≢false no_check)
    go false A = ((settled_new _ _, settled_new _ _), λ up no_check. false≢true up)
    go false B = ((settled_new _ _, settled_new _ _), λ up no_check. false≢true up)

-- With four windows at most at the peer, the handshake's facts hold of a side at the start and by ordinary steps.
pub handshake_runs : (plan : Plan) (lane : LaneName) → (side_plan (pair_plan plan lane.pair) (other_side lane.from)).windows ≤ 4
    → HoldsOn plan lane (IsOrdinaryOn lane.pair) (λ log s ring. HandshakeKnown lane (side_plan (pair_plan plan lane.pair) (other_side lane.from)) log s)
handshake_runs plan lane few = record {
  fresh = handshake_fresh (pair_plan plan lane.pair) lane peer;
  turns = λ log s ring made news t ordinary tells turn h. record {
    empty = empty_kept plan lane s made news t turn h.empty;
    settled = settled_kept plan lane s made news t turn h.empty h.settled;
    session = session_kept plan lane peer log s made news t refl few ordinary tells turn h.empty h.settled h.session;
  };
}
  where
    peer : SidePlan
    peer = side_plan (pair_plan plan lane.pair) (other_side lane.from)

-- What a check that is made has found

pub record HasFound (own : SidePlan) (part : SidePart) (up : Bool) : Type 0 where
  pub link : up ≡ true
  not_yet : part.up ≡ false
  some_version : pad_in part version_pad ≡ 0 → ⊥
  version : VersionsAgree (pad_in part version_pad) own.version
  queues : pad_in part queues_pad ≡ own.queues
  windows : pad_in part windows_pad ≡ own.windows
  none_larger : first_larger own part.pads ≡ None

none_found : (part : SidePart) (cap : ℕ) (found : Option ℕ) → refuse_larger part cap found None ≡ None → found ≡ None
none_found part cap None e = refl
none_found part cap (Some m) e = absurd (cc)

versions_passed : (seen own : ℕ) → versions_differ seen own ≡ false → VersionsAgree seen own
versions_passed seen own e = elim (cases_Bool (seen == own)) [
  | inl same ↦ inl (eqb-true seen own same)
  | inr other ↦
      let old : (nat_lt seen 4 || nat_lt own 4) ≡ false = sym (ap (λ b. not b && (nat_lt seen 4 || nat_lt own 4)) other) ∙ e in
      let both = neither (nat_lt seen 4) (nat_lt own 4) old in
      inr (ltb-false seen 4 both.0, ltb-false own 4 both.1)
]

-- A check that passes found the link up, versions that agree, equal queues and windows, and no size too large.
pub has_found : (own : SidePlan) (part : SidePart) (up : Bool) → check_refusal own part up ≡ None → HasFound own part up
has_found own part up none =
    let a = passed (not up) LinkDown _ none in
    let b = passed part.up Already _ a.1 in
    let c = passed (pad_in part version_pad == 0) NotYet _ b.1 in
    let d = passed (versions_differ (pad_in part version_pad) own.version) (Version (pad_in part version_pad) own.version) _ c.1 in
    let e = passed (not (pad_in part queues_pad == own.queues)) (Queues (pad_in part queues_pad) own.queues) _ d.1 in
    let f = passed (not (pad_in part windows_pad == own.windows)) (Windows (pad_in part windows_pad) own.windows) _ e.1 in
    record {
      link = not-false up a.0;
      not_yet = b.0;
      some_version = eqb-false (pad_in part version_pad) 0 c.0;
      version = versions_passed (pad_in part version_pad) own.version d.0;
      queues = eqb-true (pad_in part queues_pad) own.queues (not-false (pad_in part queues_pad == own.queues) e.0);
      windows = eqb-true (pad_in part windows_pad) own.windows (not-false (pad_in part windows_pad == own.windows) f.0);
      none_larger = none_found part own.cap (first_larger own part.pads) f.1;
    }

up_found : (plan : PairPlan) (pair : PairPart) (side : Side) → Up ≡ (check_step plan pair side).answer → HasFound (side_plan plan side) (side_of pair side) (link_up pair)
up_found plan pair side =
    check_cases (λ o. Up ≡ o.answer → HasFound (side_plan plan side) (side_of pair side) (link_up pair)) plan pair side
    (λ r is e. absurd (false≢true (ap refuses e ∙ is.is)))
    (λ none _. has_found (side_plan plan side) (side_of pair side) (link_up pair) none)

-- the first window of the peer isn't larger than the own memory gives
first_fits : (part : SidePart) (cap windows : ℕ) → 0 < windows → find (λ m. nat_lt cap (size_in part.pads m)) (count_from 0 windows) ≡ None → size_in part.pads 0 ≤ cap
first_fits part cap zero some e = absurd (omega arith)
first_fits part cap (suc more) some e = go (nat_lt cap (size_in part.pads 0)) refl e
  where
    go : (b : Bool) → nat_lt cap (size_in part.pads 0) ≡ b → (if b then Some 0 else find (λ m. nat_lt cap (size_in part.pads m)) (count_from 1 more)) ≡ None → size_in part.pads 0 ≤ cap
    go true is e = absurd (cc)
    go false is e = ltb-false cap (size_in part.pads 0) is

-- a check that has found so in a session agrees
pub agrees : (lane : LaneName) (own peer : SidePlan) (log : List Answered) (part : SidePart) (up : Bool) (offered : ℕ) (flight : List Label) → HasNumbersInRange own → HasNumbersInRange peer → HasFound own part up
    → InSession lane peer log part.pads offered flight → Agrees log lane.pair lane.from own peer
agrees lane own peer log part up offered flight own_side peer_side found session = record {
  version_landed = version_here;
  queues_landed = queues_here;
  windows_landed = windows_here;
  sizes_landed = λ m below. (high_here m below, low_here m below);
  versions_agree = subst (λ n. VersionsAgree n own.version) (pad_is version_pad peer.version (omega arith) version_here) found.version;
  same_queues = sym (pad_is queues_pad peer.queues (omega arith) queues_here) ∙ found.queues;
  same_windows = same_windows_here;
  size_fits = subst (λ n. n ≤ own.cap) first_size (first_fits part own.cap own.windows own_side.a_window found.none_larger);
}
  where
    whole : session.landed ≡ offers peer
    whole =
        whole_landed peer session.landed _ offered session.order
        (λ none. found.some_version (session.shown version_pad (omega arith) ∙ ap value_of (session.landed_values version_pad refl ∙ none)))

    value : (i : ℕ) → is_offer i ≡ true → landed_pad log lane.pair lane.from i ≡ last_value i None (offers peer)
    value i is = session.landed_values i is ∙ ap (last_value i None) whole

    version_here : landed_pad log lane.pair lane.from version_pad ≡ Some peer.version
    version_here = value version_pad refl ∙ offer-version peer

    queues_here : landed_pad log lane.pair lane.from queues_pad ≡ Some peer.queues
    queues_here = value queues_pad refl ∙ offer-queues peer

    windows_here : landed_pad log lane.pair lane.from windows_pad ≡ Some peer.windows
    windows_here = value windows_pad refl ∙ offer-windows peer

    high_here : (m : ℕ) → m < peer.windows → landed_pad log lane.pair lane.from (high_pad m) ≡ Some (peer.size / word)
    high_here m below = value (high_pad m) ((window_offers m (let f = peer_side.few_windows in omega arith)).0) ∙ offer-high peer m below

    low_here : (m : ℕ) → m < peer.windows → landed_pad log lane.pair lane.from (low_pad m) ≡ Some (peer.size % word)
    low_here m below = value (low_pad m) ((window_offers m (let f = peer_side.few_windows in omega arith)).1) ∙ offer-low peer m below

    pad_is : (i v : ℕ) → i < 16 → landed_pad log lane.pair lane.from i ≡ Some v → pad_in part i ≡ v
    pad_is i v small here = session.shown i small ∙ ap value_of here

    same_windows_here : peer.windows ≡ own.windows
    same_windows_here = sym (pad_is windows_pad peer.windows (omega arith) windows_here) ∙ found.windows

    first_size : size_in part.pads 0 ≡ peer.size
    first_size =
        let some : 0 < peer.windows = peer_side.a_window in
        ap (λ n. n * word + pad_in part (low_pad 0)) (pad_is (high_pad 0) (peer.size / word) (omega arith) (high_here 0 some))
        ∙ ap (λ n. peer.size / word * word + n) (pad_is (low_pad 0) (peer.size % word) (omega arith) (low_here 0 some))
        ∙ omega arith

-- the steps before a last one
pub all_front : {X : Type 0} (P : X → Type 0) (xs : List X) (x : X) → AllByRecursion P (xs ++ x ∷ []) → AllByRecursion P xs
all_front P [] x all = tt
all_front P (y ∷ xs) x all = (all.0, all_front P xs x all.1)

-- After ordinary steps a check answered `up` has the peer's whole offer landed in the session, and it agrees.
pub up_means_agreement : UpMeansAgreement
up_means_agreement plan memories steps pair side sides within ordinary goes =
    let now = ledger_of plan memories steps pair in
    let lane : LaneName = record { pair = pair; from = side; queue = 0 } in
    let found = up_found (pair_plan plan pair) now side (answer_of plan memories steps (Check pair side) Up goes) in
    let peer_side = sides pair (other_side side) within in
    let known = holds_after plan lane (IsOrdinaryOn pair) _ (handshake_runs plan lane peer_side.few_windows) memories steps (all_front (IsOrdinaryOn pair) steps (Check pair side) ordinary) in
    agrees lane (side_plan (pair_plan plan pair) side) (side_plan (pair_plan plan pair) (other_side side)) (log_of plan memories steps) (side_of now side) (link_up now)
    (side_of now (other_side side)).offered (side_of now (other_side side)).flight (sides pair side within) peer_side found (known.session found.link found.not_yet)
