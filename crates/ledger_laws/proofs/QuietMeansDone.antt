-- If nothing is on its way to a receiver and it has seen so, all that was accepted was delivered.
use Rattle.std.proofs.Common.{◌≡◌, Bool, true, false, List, [], ◌∷◌, ◌++◌, length, take, refl, sym, ap, ◌∙◌, subst}
use Rattle.std.specs.Prelude.{if◌then◌else◌}
use Rattle.std.proofs.lemmas.Bool.{false≢true}
use Rattle.std.proofs.Math.Seq.{take-length}
use Rattle.step_kinds.specs.Bits.{has_bit}
use Rattle.step_kinds.specs.Sides.{other_side}
use Rattle.step_kinds.specs.declared.names.LaneName.{LaneName}
use Rattle.step_kinds.specs.declared.plan.Plan.{Plan}
use Rattle.step_kinds.specs.declared.plan.PairPlan.{PairPlan}
use Rattle.pair_model.specs.Plans.{pair_plan}
use Rattle.ledger_laws.specs.Laws.{QuietMeansDone}
use Rattle.ledger_model.specs.Ledger.{LanePart, PairPart, side_of, lane_of}
use Rattle.pair_model.specs.Link.{is_up}
use Rattle.ledger_model.specs.Log.{Answered, log_of, ledger_of, accepted, delivered, last_look_empty}
use Rattle.ledger_model.specs.Next.{fresh_pair}
use Rattle.ledger_laws.proofs.AtStart.{fresh-lane, fresh-flight}
use Rattle.ledger_laws.proofs.FlagsAndBells.{LinedOf, WatchedOf, lined_kept, watched_kept, nothing_left, ticks_of}
use Rattle.ledger_laws.proofs.Frames.{frames_from}
use Rattle.ledger_laws.proofs.FramesInOrder.{LaneRun, lane_runs, none_comes, alone, taken_of, given_of}
use Rattle.ledger_laws.proofs.InFlight.{EmptyOf, empty_kept}
use Rattle.ledger_laws.proofs.LogReaders.{last_look-last}
use Rattle.ledger_laws.proofs.walk.Logs.{HoldsAlways, always_after}
use Rattle.ledger_laws.proofs.walk.Sight.{Sight, sight, other_other}
use Rattle.ledger_laws.proofs.walk.News.{News, Tells, saw_next}
use Rattle.ledger_laws.proofs.walk.Turn.{Turn, IsRaw}

-- what holds after each log, while the link is up
record WatchKnown (lane : LaneName) (log : List Answered) (s : Sight) : Type 0 where
  empty : EmptyOf s
  on : is_up s.state ≡ true → LinedOf lane.queue s × (last_look_empty log lane.pair (other_side lane.from) lane.queue ≡ true → WatchedOf lane.queue s)

watch_kept : (plan : Plan) (lane : LaneName) → IsRaw plan lane ≡ false → (log : List Answered) (s : Sight) (made : Answered) (news : News) (t : Sight) → Tells plan lane s.lane made news → Turn plan lane s made news t
    → WatchKnown lane log s → WatchKnown lane (log ++ made ∷ []) t
watch_kept plan lane no_raw log s made news t tells turn h = record {
  empty = empty_kept plan lane s made news t turn h.empty;
  on = λ up. (
    lined_kept plan lane s made news t no_raw turn h.empty (λ up. (h.on up).0) up,
    λ saw. watched_kept plan lane s made news t no_raw turn (went_on saw) before h.on (sym (tells.sees before) ∙ sees (went_on saw) saw) up,
  );
}
  where
    before : Bool
    before = last_look_empty log lane.pair (other_side lane.from) lane.queue

    next : last_look_empty (log ++ made ∷ []) lane.pair (other_side lane.from) lane.queue ≡ (if news.starts then false else saw_next lane made before)
    next = last_look-last lane.pair (other_side lane.from) lane.queue log made ∙ ap (λ b. if b then false else saw_next lane made before) tells.starts

    -- a session that begins shows nothing
    went_on : last_look_empty (log ++ made ∷ []) lane.pair (other_side lane.from) lane.queue ≡ true → news.starts ≡ false
    went_on saw = go news.starts (sym next ∙ saw)
      where
        go : (b : Bool) → (if b then false else saw_next lane made before) ≡ true → b ≡ false
        go true e = absurd (false≢true e)
        go false e = refl

    sees : news.starts ≡ false → last_look_empty (log ++ made ∷ []) lane.pair (other_side lane.from) lane.queue ≡ true → saw_next lane made before ≡ true
    sees no_start saw = ap (λ b. if b then false else saw_next lane made before) (sym no_start) ∙ sym next ∙ saw

watch_fresh : (plan : PairPlan) (lane : LaneName) → WatchKnown lane [] (sight lane.from lane.queue (fresh_pair plan))
watch_fresh plan lane =
    subst (λ (l : LanePart). WatchKnown lane [] (record (sight lane.from lane.queue (fresh_pair plan)) { lane = l })) (sym (fresh-lane plan lane.from lane.queue))
    (record {
      empty = λ down. (fresh-flight plan lane.from, fresh-flight plan (other_side lane.from));
      on = λ up. (
        record { ringing = false; left = 0; is = ap (λ flight. ticks_of lane.queue flight ++ []) (fresh-flight plan lane.from); count = refl },
        λ saw. absurd (false≢true saw),
      );
    })

watch_runs : (plan : Plan) (lane : LaneName) → IsRaw plan lane ≡ false → HoldsAlways plan lane (WatchKnown lane)
watch_runs plan lane no_raw = record { fresh = watch_fresh (pair_plan plan lane.pair) lane; turns = watch_kept plan lane no_raw }

-- On an ordinary pair all that was accepted was delivered once nothing is under way to a receiver that saw so.
pub quiet_means_done : QuietMeansDone
quiet_means_done plan memories steps pair side queue no_raw quiet = record {
  all_taken = done.0;
  all_flagged = done.1;
  all_delivered =
      current.1
      ∙ ap (λ n. frames_from 0 [] (take n (lane_of now (other_side side) queue).sent)) (done.0 ∙ done.1)
      ∙ ap (frames_from 0 []) (take-length (lane_of now (other_side side) queue).sent)
      ∙ alone (frames_from 0 []) (lane_of now (other_side side) queue).sent run.coming (none_comes quiet.link quiet.none_waiting run.begun)
      ∙ sym current.0;
}
  where
    lane : LaneName
    lane = record { pair = pair; from = other_side side; queue = queue }

    now : PairPart
    now = ledger_of plan memories steps pair

    log : List Answered
    log = log_of plan memories steps

    view : Sight
    view = sight lane.from lane.queue now

    on : LinedOf queue view × (last_look_empty log pair (other_side lane.from) queue ≡ true → WatchedOf queue view)
    on = (always_after plan lane (WatchKnown lane) (watch_runs plan lane no_raw) memories steps).on quiet.link

    looked : last_look_empty log pair (other_side (other_side side)) queue ≡ true
    looked = subst (λ s. last_look_empty log pair s queue ≡ true) (sym (other_other side)) quiet.looked

    not_pending : has_bit (side_of now (other_side lane.from)).pending queue ≡ false
    not_pending = subst (λ s. has_bit (side_of now s).pending queue ≡ false) (sym (other_other side)) quiet.not_pending

    done : (view.lane.got ≡ view.lane.flagged) × (view.lane.flagged ≡ length view.lane.sent)
    done = nothing_left queue view on.0 (on.1 looked) quiet.nothing_in_flight quiet.nothing_to_post not_pending

    run : LaneRun plan lane now.link.session log view
    run = always_after plan lane (LaneRun plan lane now.link.session) (lane_runs plan lane now.link.session no_raw) memories steps

    current : (accepted plan log lane now.link.session ≡ taken_of view run.coming) × (delivered plan log lane now.link.session ≡ given_of view)
    current = run.lists.current refl
