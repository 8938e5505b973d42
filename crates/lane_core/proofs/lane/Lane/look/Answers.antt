use Rattle.std.proofs.Common.{refl, sym, subst, ◌≤◌, map, ◌≡◌, length, ap, ◌∙◌, arith}
use Rattle.std.proofs.lemmas.Result.{IfOk-from_err}
use Rattle.std.proofs.lemmas.List.{length-map}
use Rattle.lane_model.specs.Lane.{Slot, bytes_of, entry_of}
use Rattle.lane_model.specs.Law.{HoldsRingLaw}
use Rattle.lane_model.specs.Steps.{after_look}
use Rattle.lane_model.specs.declared.Phase.TheVariants.{Copying}
use Rattle.posted_queue.specs.Flight.{Flight}
use Rattle.lane_laws.proofs.Facade.{look_keeps}
use Rattle.lane_core.specs.Calls.{LaneValue, core_look_answer, core_with_lane}
use Rattle.lane_core.specs.declared.answers.LaneLook.TheVariants.{Ready, Empty, PeerDown, OutOfTurn}
use Rattle.lane_core.specs.declared.write.IndexWrite.{IndexWrite}
use Rattle.lane_core.specs.Parts.{place_seen}
use Rattle.lane_core.specs.LaneView.{index_room, lane_seen, value_seen}
use Rattle.lane_core.proofs.LookAnswers.{answers_down, answers_empty, answers_out_of_turn, answers_ready}
use Rattle.lane_core.proofs.Parts.{on_err}
use Rattle.lane_core.proofs.NextEntry.{read_place, finds_entry}
use Rattle.lane_core.proofs.lane.Lane.look.Goals as goal

pub invariant_of-self-in-Frame : goal.invariant_of-self-in-Frame
invariant_of-self-in-Frame c =
    let kept = c.self.invariant in
    let old = c.self.inside in
    let place = c.index-place.result.now in
    let count = length-map old.ring.items place_seen in
    let here = read_place old old.got c.position_of.result place c.position_of.ensures.value (omega arith) c.index-place.ensures in
    let frame = finds_entry (lane_seen old) c.in-Idle.is (rw here (λ e. cc (c.in-Frame.ensures.nothing e))) kept.law in
    let size : length (bytes_of (entry_of (lane_seen old) old.got)) ≡ place.len = frame.size ∙ ap (λ (p : Slot). p.len) here in
    rw c.in_ok-promise-in-Frame.ensures.ok
    (record {
      law = look_keeps (lane_seen old) c.in-Idle.is frame.more kept.law;
      sending = kept.sending;
      index_room = omega arith;
      buffers = record { items = λ e. c.in_ok-buffer-in-Frame.ensures.items; room = λ e. omega (arith, size, c.in_ok-buffer-in-Frame.ensures.exact) };
    })

pub returns-in_ok-promise-in-Frame-clause-law : goal.returns-in_ok-promise-in-Frame-clause-law
returns-in_ok-promise-in-Frame-clause-law c = (invariant_of-self-in-Frame c).law

pub returns-in_default : goal.returns-in_default
returns-in_default c =
    let kept = c.self.invariant in
    let old = c.self.inside in
    let answer = answers_out_of_turn (lane_seen old) c.in_default.not-Idle in
    record {
      answer = subst (λ (value : LaneValue). OutOfTurn ≡ core_look_answer value.lane) c.self.view_is (sym answer);
      after = refl;
      err = tt;
      wants = tt;
      law = subst (λ (value : LaneValue). HoldsRingLaw value.lane) c.self.view_is kept.law;
    }

pub returns-in-Nothing : goal.returns-in-Nothing
returns-in-Nothing c =
    let kept = c.self.invariant in
    let old = c.self.inside in
    let place = c.index-place.result.now in
    let count = length-map old.ring.items place_seen in
    let here = read_place old old.got c.position_of.result place c.position_of.ensures.value (omega arith) c.index-place.ensures in
    let answer = answers_empty (lane_seen old) c.in-Idle.is (rw here (λ e. cc (c.in-Nothing.ensures.frame e))) (rw here (λ e. cc (c.in-Nothing.ensures.link_down e))) kept.law in
    record {
      answer = subst (λ (value : LaneValue). Empty ≡ core_look_answer value.lane) c.self.view_is (sym answer);
      after = refl;
      err = tt;
      wants = tt;
      law = subst (λ (value : LaneValue). HoldsRingLaw value.lane) c.self.view_is kept.law;
    }

pub returns-in-GoesDown : goal.returns-in-GoesDown
returns-in-GoesDown c =
    let kept = c.self.invariant in
    let old = c.self.inside in
    let place = c.index-place.result.now in
    let count = length-map old.ring.items place_seen in
    let here = read_place old old.got c.position_of.result place c.position_of.ensures.value (omega arith) c.index-place.ensures in
    let answer = answers_down (lane_seen old) c.in-Idle.is (rw here (λ e. cc (c.in-GoesDown.ensures.nothing e))) (rw here (λ e. cc (c.in-GoesDown.ensures.frame e))) kept.law in
    record {
      answer = subst (λ (value : LaneValue). PeerDown ≡ core_look_answer value.lane) c.self.view_is (sym answer);
      after = refl;
      err = tt;
      wants = tt;
      law = subst (λ (value : LaneValue). HoldsRingLaw value.lane) c.self.view_is kept.law;
    }

pub returns-in_err-buffer-in-Frame : goal.returns-in_err-buffer-in-Frame
returns-in_err-buffer-in-Frame c =
    let kept = c.self.invariant in
    let old = c.self.inside in
    let place = c.index-place.result.now in
    let count = length-map old.ring.items place_seen in
    let here = read_place old old.got c.position_of.result place c.position_of.ensures.value (omega arith) c.index-place.ensures in
    let answer = answers_ready (lane_seen old) c.in-Idle.is (rw here (λ e. cc (c.in-Frame.ensures.nothing e))) (rw here (λ e. cc (c.in-Frame.ensures.link_down e))) kept.law in
    let residual = c.from_residual in
    record {
      answer = IfOk-from_err residual.result _ residual.ensures.0;
      after = IfOk-from_err residual.result _ residual.ensures.0;
      err = on_err residual.result refl;
      wants = on_err residual.result (subst (λ (value : LaneValue). core_look_answer value.lane ≡ Ready value.lane.got (length (bytes_of (entry_of value.lane value.lane.got)))) c.self.view_is answer);
      law = subst (λ (value : LaneValue). HoldsRingLaw value.lane) c.self.view_is kept.law;
    }

pub invariant_of-self : goal.invariant_of-self
invariant_of-self c =
    let kept = c.self.invariant in
    let old = c.self.inside in
    let failed = c.in_err-promise-in-Frame.ensures.err in
    record {
      law = subst (λ (returning : Flight IndexWrite). HoldsRingLaw (record (lane_seen old) { returning = map (λ (write : IndexWrite). write.number) returning.writes })) (sym failed) kept.law;
      sending = kept.sending;
      index_room = subst (λ (returning : Flight IndexWrite). index_room old.phase ≤ returning.spare) (sym failed) kept.index_room;
      buffers = kept.buffers;
    }

pub returns-in_err-promise-in-Frame : goal.returns-in_err-promise-in-Frame
returns-in_err-promise-in-Frame c =
    let kept = c.self.invariant in
    let old = c.self.inside in
    let place = c.index-place.result.now in
    let count = length-map old.ring.items place_seen in
    let here = read_place old old.got c.position_of.result place c.position_of.ensures.value (omega arith) c.index-place.ensures in
    let answer = answers_ready (lane_seen old) c.in-Idle.is (rw here (λ e. cc (c.in-Frame.ensures.nothing e))) (rw here (λ e. cc (c.in-Frame.ensures.link_down e))) kept.law in
    let residual = c.from_residual-in_err-promise-in-Frame in
    let same = ap (λ (returning : Flight IndexWrite). core_with_lane (value_seen old) (record (lane_seen old) { returning = map (λ (write : IndexWrite). write.number) returning.writes })) c.in_err-promise-in-Frame.ensures.err in
    record {
      answer = IfOk-from_err residual.result _ residual.ensures.0;
      after = IfOk-from_err residual.result _ residual.ensures.0;
      err = on_err residual.result (same ∙ c.self.view_is);
      wants = on_err residual.result (subst (λ (value : LaneValue). core_look_answer value.lane ≡ Ready value.lane.got (length (bytes_of (entry_of value.lane value.lane.got)))) c.self.view_is answer);
      law = (invariant_of-self c).law;
    }

pub returns-in_ok-promise-in-Frame-clause-answer : goal.returns-in_ok-promise-in-Frame-clause-answer
returns-in_ok-promise-in-Frame-clause-answer c =
    let kept = c.self.invariant in
    let old = c.self.inside in
    let place = c.index-place.result.now in
    let count = length-map old.ring.items place_seen in
    let here = read_place old old.got c.position_of.result place c.position_of.ensures.value (omega arith) c.index-place.ensures in
    let frame = finds_entry (lane_seen old) c.in-Idle.is (rw here (λ e. cc (c.in-Frame.ensures.nothing e))) kept.law in
    let answer = answers_ready (lane_seen old) c.in-Idle.is (rw here (λ e. cc (c.in-Frame.ensures.nothing e))) (rw here (λ e. cc (c.in-Frame.ensures.link_down e))) kept.law ∙ ap (Ready old.got) (frame.size ∙ ap (λ (p : Slot). p.len) here) in
    subst (λ (value : LaneValue). Ready old.got place.len ≡ core_look_answer value.lane) c.self.view_is (sym answer)

pub returns-in_ok-promise-in-Frame-clause-after : goal.returns-in_ok-promise-in-Frame-clause-after
returns-in_ok-promise-in-Frame-clause-after c =
    let old = c.self.inside in
    let after = ap (λ (returning : Flight IndexWrite). core_with_lane (value_seen old) (record (lane_seen old) { returning = map (λ (write : IndexWrite). write.number) returning.writes; phase = Copying; part = 0 })) c.in_ok-promise-in-Frame.ensures.ok in
    after ∙ ap (λ (value : LaneValue). core_with_lane value (after_look value.lane)) c.self.view_is
