-- The laws together, of the steps that a plan permits: on an ordinary pair these are ordinary.
use Rattle.std.proofs.Common.{ℕ, List, [], ◌∷◌, ◌++◌, sym, ap, ◌∙◌, subst, ⊎_elim}
use Rattle.std.specs.List.{AllByRecursion}
use Rattle.std.proofs.lemmas.Bool.{true≢false}
use Rattle.step_kinds.specs.declared.names.Side.TheVariants.{A, B}
use Rattle.step_kinds.specs.declared.plan.Plan.{Plan}
use Rattle.step_kinds.specs.declared.steps.Answer.{Answer}
use Rattle.step_kinds.specs.declared.steps.Step.{Step}
use Rattle.step_kinds.specs.declared.steps.Step.TheVariants.{Check, Poke, Spad}
use Rattle.pair_model.specs.DeclaredPlans.{IsDeclared, IsPermitted}
use Rattle.pair_model.specs.Plans.{pair_plan}
use Rattle.ledger_model.specs.Ledger.{side_of}
use Rattle.ledger_model.specs.Log.{ledger_of}
use Rattle.ledger_laws.specs.Laws.{GoesOn, HasSidesInRange, IsOrdinaryOn, IsOrdinaryPair}
use Rattle.ledger_laws.specs.Together.{AnswersAreRight, LawsHold}
use Rattle.ledger_laws.proofs.CopiedInParts.{copied_in_parts}
use Rattle.ledger_laws.proofs.CountersAreCounts.{counters_are_counts}
use Rattle.ledger_laws.proofs.FlightOfLog.{in_flight_is_posted}
use Rattle.ledger_laws.proofs.FoundInOrder.{empty_where_nothing_landed, peer_down_where_down_landed}
use Rattle.ledger_laws.proofs.FramesInOrder.{every_frame_comes_once, every_log_is_in_order}
use Rattle.ledger_laws.proofs.FreshLanes.{no_entry_before_both_up}
use Rattle.ledger_laws.proofs.JoinedMeansAgreement.{in_range, joined_means_agreement, up_side_agrees}
use Rattle.ledger_laws.proofs.LanePart.{lane_part_lands}
use Rattle.ledger_laws.proofs.LinkDownWhereNotUp.{link_down_where_not_up}
use Rattle.ledger_laws.proofs.NeitherDiffersNorLong.{no_ordinary_ver_differs_or_long}
use Rattle.ledger_laws.proofs.NothingWhileDown.{nothing_in_flight_while_down}
use Rattle.ledger_laws.proofs.PairsAreSeparate.{pairs_are_separate}
use Rattle.ledger_laws.proofs.PostedAreWrites.{posted_are_writes}
use Rattle.ledger_laws.proofs.QuietMeansDone.{quiet_means_done}
use Rattle.ledger_laws.proofs.RefusalsChangeNothing.{refusals_change_nothing}
use Rattle.ledger_laws.proofs.RefusedInOrder.{busy_where_left_to_post, closed_where_closed, not_ready_where_not_joined}
use Rattle.ledger_laws.proofs.RingLawHolds.{index_word_is_tail, ring_law_holds, ring_law_of_receiver}
use Rattle.ledger_laws.proofs.SendersInOrder.{again_where_ring_is_full, stopped_where_ring_was_low, too_long_where_frame_is_long}
use Rattle.ledger_laws.proofs.Tallies.{sessions_are_counts, tallies_are_counts}
use Rattle.ledger_laws.proofs.UpMeansAgreement.{up_means_agreement}

-- Permitted steps are ordinary on an ordinary pair

is_ordinary : (plan : Plan) (k : ℕ) → IsOrdinaryPair plan k → (step : Step) → IsPermitted plan step → IsOrdinaryOn k step
is_ordinary plan k no_raw (Spad p side i value) may on =
    ⊎_elim (λ own. own) (λ raw. absurd (true≢false (sym raw ∙ ap (λ j. (pair_plan plan j).raw) on ∙ no_raw))) may.1.free
is_ordinary plan k no_raw (Poke p side window offset bytes) may on = true≢false (sym may.1.raw ∙ ap (λ j. (pair_plan plan j).raw) on ∙ no_raw)
is_ordinary plan k no_raw step may on = tt

-- Steps that a plan permits on a pair that isn't raw poke no bytes and write no scratchpad of the handshake by hand.
pub are_ordinary : (plan : Plan) (k : ℕ) → IsOrdinaryPair plan k → (steps : List Step) → AllByRecursion (IsPermitted plan) steps → AllByRecursion (IsOrdinaryOn k) steps
are_ordinary plan k no_raw [] may = tt
are_ordinary plan k no_raw (step ∷ steps) may = (is_ordinary plan k no_raw step may.0, are_ordinary plan k no_raw steps may.1)

last_permitted : (plan : Plan) (steps : List Step) (step : Step) → AllByRecursion (IsPermitted plan) (steps ++ step ∷ []) → IsPermitted plan step
last_permitted plan [] step all = all.0
last_permitted plan (first ∷ steps) step all = last_permitted plan steps step all.1

-- A declared plan's sides have numbers in the range that the law of a check asks for

-- The sides of a declared plan have versions, queues, windows and sizes in the range that the law of a check needs.
pub has_sides : (plan : Plan) → IsDeclared plan → HasSidesInRange plan
has_sides plan declared k A below = in_range (pair_plan plan k).a (declared.pairs k below).side_a
has_sides plan declared k B below = in_range (pair_plan plan k).b (declared.pairs k below).side_b

-- Together

-- All laws of a log hold of the steps that a declared plan permits, if memories keep pairs apart.
pub laws_hold : LawsHold
laws_hold plan memories steps declared permitted apart = record {
  in_order = λ lane session ordinary. every_log_is_in_order plan memories steps lane session ordinary;
  once = λ lane session n ordinary. every_frame_comes_once plan memories steps lane session n ordinary;
  quiet = λ pair side queue ordinary is. quiet_means_done plan memories steps pair side queue ordinary is;
  separate = λ pair. pairs_are_separate plan memories apart steps pair;
  tallies = λ lane session. tallies_are_counts plan memories steps lane session;
  sessions = λ pair. sessions_are_counts plan memories steps pair;
  counters = λ own. counters_are_counts plan memories steps own;
  posted = λ lane open_yet. posted_are_writes plan memories steps lane open_yet;
  in_flight = λ pair side ordinary. in_flight_is_posted plan memories steps pair side ordinary;
  none_while_down = λ pair side down. nothing_in_flight_while_down plan memories steps pair side down;
  lane_part = λ pair side queue place label there may. lane_part_lands (pair_plan plan pair) side queue (side_of (ledger_of plan memories steps pair) side).flight place label there may;
  ring = λ lane ordinary ring up other_up. ring_law_holds plan memories steps lane ordinary (are_ordinary plan lane.pair ordinary steps permitted) ring up other_up;
  ring_received = λ lane ordinary ring up. ring_law_of_receiver plan memories steps lane ordinary (are_ordinary plan lane.pair ordinary steps permitted) ring up;
  index_word = λ lane ordinary ring up. index_word_is_tail plan memories steps lane ordinary (are_ordinary plan lane.pair ordinary steps permitted) ring up;
  agreement = λ pair side among ordinary up. up_side_agrees plan memories steps pair side (declared.pairs pair among) (are_ordinary plan pair ordinary steps permitted) up;
  joined = λ pair side queue among ordinary joined. joined_means_agreement plan memories steps pair side queue (declared.pairs pair among) (are_ordinary plan pair ordinary steps permitted) joined;
  before_both_up = λ pair side from queue ordinary late. no_entry_before_both_up plan memories steps pair side from queue ordinary (are_ordinary plan pair ordinary steps permitted) late;
}

-- In a log of permitted steps each answer is what the log before it says, and a refusal changes no more than a count.
pub answers_are_right : AnswersAreRight
answers_are_right plan memories steps step answer declared permitted goes = record {
  link_down = link_down_where_not_up plan memories steps step answer goes;
  not_ready = not_ready_where_not_joined plan memories steps step answer goes;
  closed = closed_where_closed plan memories steps step answer goes;
  too_long = too_long_where_frame_is_long plan memories steps step answer goes;
  busy = busy_where_left_to_post plan memories steps step answer goes;
  stopped = λ ordinary. stopped_where_ring_was_low plan memories steps step answer ordinary goes;
  again = λ ordinary. again_where_ring_is_full plan memories steps step answer ordinary goes;
  empty = λ ordinary. empty_where_nothing_landed plan memories steps step answer ordinary goes;
  peer_down = λ ordinary. peer_down_where_down_landed plan memories steps step answer ordinary goes;
  likely = λ ordinary. no_ordinary_ver_differs_or_long plan memories steps step answer ordinary goes;
  copied = λ pair side queue is. copied_in_parts plan memories steps pair side queue step answer is goes;
  up = λ pair side ordinary is_check is_up.
      up_means_agreement plan memories steps pair side (has_sides plan declared) (subst (IsPermitted plan) is_check (last_permitted plan steps step permitted))
      (are_ordinary plan pair ordinary (steps ++ Check pair side ∷ []) (subst (λ (made : Step). AllByRecursion (IsPermitted plan) (steps ++ made ∷ [])) is_check permitted))
      (subst (λ (given : Answer). GoesOn plan memories steps (Check pair side) given) is_up (subst (λ (made : Step). GoesOn plan memories steps made answer) is_check goes));
  refused = λ pair refused. refusals_change_nothing plan memories steps step answer pair goes refused;
}
