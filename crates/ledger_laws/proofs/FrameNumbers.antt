-- A frame is delivered with the number of frames delivered before it in the session, on raw pairs too.
use Rattle.std.proofs.Common.{◌≡◌, ℕ, ◌+◌, ◌<◌, ◌==◌, List, [], ◌∷◌, ◌++◌, length, refl, sym, ap, ◌∙◌, subst, arith, inl, inr, ◌⊎◌}
use Rattle.std.proofs.lemmas.Bool.{cases_eq}
use Rattle.std.proofs.lemmas.List.{length-append}
use Rattle.step_kinds.specs.Sides.{other_side}
use Rattle.step_kinds.specs.declared.names.LaneName.{LaneName}
use Rattle.step_kinds.specs.declared.names.Side.{Side}
use Rattle.step_kinds.specs.declared.plan.Plan.{Plan}
use Rattle.step_kinds.specs.declared.steps.Step.{Step}
use Rattle.ledger_model.specs.Ledger.{LanePart, lane_to}
use Rattle.ledger_model.specs.Log.{Answered, Memories, Numbered, delivers, delivered, first_session, log_of, ledger_of}
use Rattle.pair_model.specs.Plans.{pair_plan}
use Rattle.ledger_laws.proofs.AtStart.{fresh-lane}
use Rattle.ledger_laws.proofs.LogReaders.{session_at}
use Rattle.ledger_laws.proofs.Tallies.{added, added-none, added-now, added-elsewhere, more_found, now_kept, fresh_now}
use Rattle.ledger_laws.proofs.walk.Logs.{HoldsAlways, always_after}
use Rattle.ledger_laws.proofs.walk.News.{News, Tells}
use Rattle.ledger_laws.proofs.walk.Sight.{Sight}
use Rattle.ledger_laws.proofs.walk.Turn.{Turn, Hand, Trains, Strays, CopiesLast}

-- what was delivered in a session, if the lane's session is `now` and its receiver has put together `done` frames in it
record DoneBy (session now done : ℕ) (given : List Numbered) : Type 0 where
  later : now < session → given ≡ []
  counted : now ≡ session → length given ≡ done

done_kept : (plan : Plan) (lane : LaneName) (session : ℕ) (s : Sight) (made : Answered) (news : News) (t : Sight) (given : List Numbered)
    → Tells plan lane s.lane made news → Turn plan lane s made news t → (s.session ≡ session) ⊎ (s.session ≡ session → ⊥) → DoneBy session s.session s.lane.done given
    → DoneBy session t.session t.lane.done (given ++ added session s.session (delivers lane made))
done_kept plan lane session s made news t given tells (Trains may) c h =
    subst (DoneBy session (s.session + 1) 0) (sym (added-none (s.session == session) given _ tells.delivered))
    (record { later = λ less. h.later (omega arith); counted = λ e. ap length (h.later (omega arith)) })
done_kept plan lane session s made news t given tells (CopiesLast bytes may) (inl now) h =
    let frame : Numbered = record { number = s.lane.done; bytes = s.lane.gathered ++ bytes } in
    subst (DoneBy session s.session (s.lane.done + 1)) (sym (added-now session s.session given _ (frame ∷ []) now tells.delivered))
    (record { later = λ less. absurd (omega arith); counted = λ e. length-append given (frame ∷ []) ∙ ap (λ n. n + 1) (h.counted now) })
done_kept plan lane session s made news t given tells (CopiesLast bytes may) (inr ne) h =
    subst (DoneBy session s.session (s.lane.done + 1)) (sym (added-elsewhere session s.session given _ ne)) (record { later = h.later; counted = λ e. absurd (ne e) })
done_kept plan lane session s made news t given tells (Strays after may) c h =
    subst (DoneBy session s.session after.done) (sym (added-none (s.session == session) given _ tells.delivered))
    (subst (λ n. DoneBy session s.session n given) (sym (elim may.hand [ inl same ↦ ap (λ (hand : Hand). hand.done) same | inr back ↦ ap (λ (hand : Hand). hand.done) back.1 ])) h)
done_kept plan lane session s made news t given tells turn c h =
    subst (DoneBy session t.session t.lane.done) (sym (added-none (s.session == session) given _ tells.delivered)) h

record DoneRun (plan : Plan) (lane : LaneName) (session : ℕ) (log : List Answered) (s : Sight) : Type 0 where
  now : session_at lane.pair (first_session plan lane.pair) log ≡ s.session
  done : DoneBy session s.session s.lane.done (delivered plan log lane session)

done_runs : (plan : Plan) (lane : LaneName) (session : ℕ) → HoldsAlways plan lane (DoneRun plan lane session)
done_runs plan lane session = record {
  fresh = record {
    now = fresh_now (pair_plan plan lane.pair).up (pair_plan plan lane.pair) refl;
    done = record { later = λ less. refl; counted = λ e. sym (ap (λ (l : LanePart). l.done) (fresh-lane (pair_plan plan lane.pair) lane.from lane.queue)) };
  };
  turns = λ log s made news t tells turn h. record {
    now = now_kept plan lane log s made news t tells turn h.now;
    done = subst (DoneBy session t.session t.lane.done) (sym (more_found plan lane session log made s.session h.now (delivers lane)))
        (done_kept plan lane session s made news t (delivered plan log lane session) tells turn (cases_eq s.session session) h.done);
  };
}

-- the frames that a receiver has put together are those that the log has as delivered in the session
pub done_is_delivered : (plan : Plan) (memories : Memories) (steps : List Step) (pair : ℕ) (side : Side) (queue : ℕ) →
    let now = ledger_of plan memories steps pair in
    (lane_to now side queue).done ≡ length (delivered plan (log_of plan memories steps) (record { pair = pair; from = other_side side; queue = queue }) now.link.session)
done_is_delivered plan memories steps pair side queue =
    let session = (ledger_of plan memories steps pair).link.session in
    sym ((always_after plan own (DoneRun plan own session) (done_runs plan own session) memories steps).done.counted refl)
  where
    own : LaneName
    own = record { pair = pair; from = other_side side; queue = queue }
