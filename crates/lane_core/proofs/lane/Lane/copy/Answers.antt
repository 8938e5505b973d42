use Rattle.std.proofs.Common.{true, ◌≡◌, ℕ, ◌+◌, ◌*◌, ◌<◌, ◌≤◌, ap, ◌∙◌, sym, subst, arith, take, Vec, Global}
use Rattle.std.proofs.lemmas.Bool.{cond-false, cond-true}
use Rattle.std.proofs.lemmas.List.{length-map}
use Rattle.lane_model.specs.Lane.{chunk_size}
use Rattle.lane_model.specs.Law.{HoldsRingLaw}
use Rattle.lane_model.specs.Steps.{more_to_copy}
use Rattle.lane_model.specs.declared.Phase.{Phase}
use Rattle.lane_model.specs.declared.Phase.TheVariants.{Copied}
use Rattle.lane_laws.proofs.Facade.{copy_keeps}
use Rattle.lane_core.specs.Calls.{LaneValue, core_with_lane, after_copying, core_copy_answer, is_copying}
use Rattle.step_kinds.specs.declared.lanes.LaneCopy.TheVariants.{OutOfTurn, Part}
use Rattle.lane_core.specs.Parts.{place_seen}
use Rattle.lane_core.specs.LaneView.{index_room, lane_seen, value_seen}
use Rattle.lane_core.proofs.CopiedBytes.{IsWhole, can_copy, not_copying_lane, answer_whole, bytes_at, copies_from, is_whole, more_left}
use Rattle.lane_core.proofs.NextEntry.{read_place}
use Rattle.lane_core.proofs.Parts.{not_copying}
use Rattle.lane_core.proofs.lane.Lane.copy.Goals as goal

pub invariant_of-self : goal.invariant_of-self
invariant_of-self c =
    let kept = c.self.invariant in
    let old = c.self.inside in
    let place = c.index-place.result.now in
    let count = length-map old.ring.items place_seen in
    let here = read_place old old.got c.position_of.result place c.position_of.ensures.value (omega arith) c.index-place.ensures in
    let copies = copies_from old place c.copy_chunk.new.copied.items here c.in-Copying.is kept c.copy_chunk.ensures.copied in
    let more : chunk_size * (old.part + 1) < place.len = c.copy_chunk.ensures.more.0 c.if-copy_chunk.true in
    let law = copy_keeps (lane_seen old) c.in-Copying.is kept.law in
    record {
      law = subst HoldsRingLaw (cond-true _ _ _ (more_left (lane_seen old) (omega (arith, more, copies.len)))) law;
      sending = kept.sending;
      index_room = kept.index_room;
      buffers = record {
        items = λ e. copies.copied ∙ ap (λ n. take n (bytes_at old)) (next_chunk old.part);
        room = λ e. rw c.copy_chunk.ensures.capacity (kept.buffers.room e);
      };
    }
  where
    next_chunk : (part : ℕ) → chunk_size * part + chunk_size ≡ chunk_size * (part + 1)
    next_chunk part = omega arith

pub returns-then-copy_chunk-clause-law : goal.returns-then-copy_chunk-clause-law
returns-then-copy_chunk-clause-law c = (invariant_of-self c).law

pub of_vec-requires : goal.of_vec-requires
of_vec-requires c =
    let old = c.self.inside in
    let place = c.index-place.result.now in
    let count = length-map old.ring.items place_seen in
    let here = read_place old old.got c.position_of.result place c.position_of.ensures.value (omega arith) c.index-place.ensures in
    let copies = copies_from old place c.copy_chunk.new.copied.items here c.in-Copying.is c.self.invariant c.copy_chunk.ensures.copied in
    let bytes = ap (λ (v : Vec ℕ Global). v.items) c.replace-bytes.ensures.value in
    let whole = is_whole old place c.copy_chunk.new.copied.items c.replace-bytes.result.items c.copy_chunk.result copies bytes c.copy_chunk.ensures.more.1 c.if-copy_chunk.false in
    omega (arith, whole.small, c.replace-bytes.result.ok.0)

-- the last copy has the whole entry
copied_whole : (c : goal.After-of_vec) → IsWhole c.self.inside c.of_vec.result
copied_whole c =
    let old = c.self.inside in
    let place = c.index-place.result.now in
    let count = length-map old.ring.items place_seen in
    let here = read_place old old.got c.position_of.result place c.position_of.ensures.value (omega arith) c.index-place.ensures in
    let copies = copies_from old place c.copy_chunk.new.copied.items here c.in-Copying.is c.self.invariant c.copy_chunk.ensures.copied in
    let bytes = c.of_vec.ensures ∙ ap (λ (v : Vec ℕ Global). v.items) c.replace-bytes.ensures.value in
    is_whole old place c.copy_chunk.new.copied.items c.of_vec.result c.copy_chunk.result copies bytes c.copy_chunk.ensures.more.1 c.if-copy_chunk.false

pub invariant_of-self-2 : goal.invariant_of-self-2
invariant_of-self-2 c =
    let kept = c.self.invariant in
    let old = c.self.inside in
    let law = copy_keeps (lane_seen old) c.in-Copying.is kept.law in
    record {
      law = subst HoldsRingLaw (cond-false _ _ _ (copied_whole c).last) law;
      sending = kept.sending;
      index_room = subst (λ (phase : Phase). index_room phase ≤ old.returning.spare) c.in-Copying.is kept.index_room;
      buffers = not_copying Copied old.part _ _ _ (λ e. cc e);
    }

pub returns-clause-law : goal.returns-clause-law
returns-clause-law c = (invariant_of-self-2 c).law

pub returns-clause-answer : goal.returns-clause-answer
returns-clause-answer c = answer_whole c.self.inside c.of_vec.result c.in-Copying.is (copied_whole c) ∙ ap (λ (value : LaneValue). core_copy_answer value.lane) c.self.view_is

pub returns-clause-after : goal.returns-clause-after
returns-clause-after c =
    let old = c.self.inside in
    let after = cond-true (is_copying old.phase) _ (lane_seen old) (ap is_copying c.in-Copying.is) ∙ cond-false (more_to_copy (lane_seen old)) _ _ (copied_whole c).last in
    ap (core_with_lane (value_seen old)) (sym after) ∙ ap (λ (value : LaneValue). core_with_lane value (after_copying value.lane)) c.self.view_is

pub returns-in_default : goal.returns-in_default
returns-in_default c =
    let old = c.self.inside in
    let other = not_copying_lane (lane_seen old) c.in_default.not-Copying in
    record {
      answer = subst (λ (value : LaneValue). OutOfTurn ≡ core_copy_answer value.lane) c.self.view_is (sym other.answer);
      after = subst (λ (value : LaneValue). value ≡ core_with_lane value (after_copying value.lane)) c.self.view_is (ap (core_with_lane (value_seen old)) (sym other.after));
      law = subst (λ (value : LaneValue). HoldsRingLaw value.lane) c.self.view_is c.self.invariant.law;
    }

-- more is left to copy than this part
more_copied : (c : goal.After-self-1) → more_to_copy (lane_seen c.self.inside) ≡ true
more_copied c =
    let old = c.self.inside in
    let place = c.index-place.result.now in
    let count = length-map old.ring.items place_seen in
    let here = read_place old old.got c.position_of.result place c.position_of.ensures.value (omega arith) c.index-place.ensures in
    let copies = copies_from old place c.copy_chunk.new.copied.items here c.in-Copying.is c.self.invariant c.copy_chunk.ensures.copied in
    let more : chunk_size * (old.part + 1) < place.len = c.copy_chunk.ensures.more.0 c.if-copy_chunk.true in
    more_left (lane_seen old) (omega (arith, more, copies.len))

pub returns-then-copy_chunk-clause-answer : goal.returns-then-copy_chunk-clause-answer
returns-then-copy_chunk-clause-answer c =
    let old = c.self.inside in
    let answer = cond-true (is_copying old.phase) _ OutOfTurn (ap is_copying c.in-Copying.is) ∙ cond-true (more_to_copy (lane_seen old)) (Part old.got old.part) _ (more_copied c) in
    sym answer ∙ ap (λ (value : LaneValue). core_copy_answer value.lane) c.self.view_is

pub returns-then-copy_chunk-clause-after : goal.returns-then-copy_chunk-clause-after
returns-then-copy_chunk-clause-after c =
    let old = c.self.inside in
    let after = cond-true (is_copying old.phase) _ (lane_seen old) (ap is_copying c.in-Copying.is) ∙ cond-true (more_to_copy (lane_seen old)) _ _ (more_copied c) in
    ap (core_with_lane (value_seen old)) (sym after) ∙ ap (λ (value : LaneValue). core_with_lane value (after_copying value.lane)) c.self.view_is

pub copy_chunk-requires : goal.copy_chunk-requires
copy_chunk-requires c =
    let old = c.self.inside in
    let place = c.index-place.result.now in
    let count = length-map old.ring.items place_seen in
    let here = read_place old old.got c.position_of.result place c.position_of.ensures.value (omega arith) c.index-place.ensures in
    let can = can_copy old place here c.in-Copying.is c.self.invariant in
    record { begins = can.begins; stands = can.stands; room = omega (arith, can.room, old.copied.ok.0) }
