-- A lane that is over: its last session delivered all that it had to send.
use Rattle.std.proofs.Common.{◌≡◌, ℕ, ◌==◌, ◌&&◌, Bool, true, false, not, List, [], ◌∷◌, ◌++◌, length, map, refl, sym, ◌∙◌, ap, arith, length-append, append-nil}
use Rattle.std.proofs.lemmas.Bool.{and_parts}
use Rattle.std.proofs.lemmas.Bool.Decides.{nat_tests}
use Rattle.std.proofs.lemmas.Grind.{flat_map-append}
use Rattle.std.proofs.lemmas.List.{nil_from_length, length_push}
use Rattle.std.proofs.lemmas.List.{length-map, map-append}
use Rattle.step_kinds.specs.FrameLists.{Frames}
use Rattle.step_kinds.specs.Runs.{SessionShown, session_shown, accepted_in, lane_shown}
use Rattle.step_kinds.specs.declared.runs.SessionRun.{SessionRun}
use Rattle.table_lane.specs.EndOfLane.{Shown}
use Rattle.cluster_run.specs.Runs.{accepted_over, left_at_last, session_proof, lane_proofs}
use Rattle.cluster_run.specs.Sessions.{EndsWith}
use Rattle.cluster_run.specs.LaneKeys.{ComesTo, cut_proofs}
use Rattle.cluster_run.specs.LaneFields.{state_of, IsWork, ended_of}
use Rattle.cluster_run.specs.declared.lanes.LaneWork.TheInside.{Inside}

-- what the last session left, and the proofs, with one session more
left_at_last-push : (xs : List SessionShown) (x : SessionShown) → left_at_last (xs ++ x ∷ []) ≡ x.left
left_at_last-push [] x = refl
left_at_last-push (y ∷ []) x = refl
left_at_last-push (y ∷ z ∷ zs) x = left_at_last-push (z ∷ zs) x

lane_proofs-push : (N : ℕ) (xs : List SessionShown) (x : SessionShown) → lane_proofs N (xs ++ x ∷ []) ≡ cut_proofs N xs ++ session_proof N false x ∷ []
lane_proofs-push N [] x = refl
lane_proofs-push N (y ∷ []) x = refl
lane_proofs-push N (y ∷ z ∷ zs) x = ap (λ (rest : List Shown). session_proof N true y ∷ rest) (lane_proofs-push N (z ∷ zs) x)

-- where as many frames were delivered as there were to send, none is left, and none wasn't accepted
all_delivered : (frames delivered left rest : List (List ℕ)) → frames ≡ (delivered ++ left) ++ rest → length delivered ≡ length frames → (left ≡ []) × (rest ≡ [])
all_delivered frames delivered left rest are many =
    let outer = length-append (delivered ++ left) rest in
    let inner = length-append delivered left in
    let all = ap length are in
    (nil_from_length left (omega arith), nil_from_length rest (omega arith))

-- the tests of a lane that is over
is_over : (ahead got all : ℕ) (cut : Bool) → ((ahead == 0) && (got == all) && not cut) ≡ true → (ahead ≡ 0) × (got ≡ all) × (cut ≡ false)
is_over ahead got all cut h =
    let tests = and_parts ((ahead == 0) && (got == all)) (not cut) h in
    let counts = and_parts (ahead == 0) (got == all) tests.0 in
    let none = counts.0 in
    let many = counts.1 in
    (grind (arith, nat_tests), grind (arith, nat_tests), not_cut cut tests.1) where
      not_cut : (b : Bool) → not b ≡ true → b ≡ false
      not_cut true h = sym h
      not_cut false _ = refl

-- the record and the proofs of a lane that is over
pub comes_to : (w : Inside) (run : SessionRun) (proof : Shown) (rest : Frames) (runs : List SessionRun) (proofs : List Shown) → IsWork w → (state_of w).over ≡ true
    → EndsWith w.session run proof rest → runs ≡ w.runs.items ++ run ∷ [] → proofs ≡ w.proofs.items ++ proof ∷ []
    → ComesTo (state_of w).key (lane_shown (record { name = w.name; sessions = runs })) proofs
comes_to w run proof rest runs proofs holds over ends runs_are proofs_are =
    let tests = is_over w.ahead (length w.session.got) (length w.session.frames) w.session.cut over in
    let last = session_shown run in
    let delivered : length last.delivered ≡ length w.session.frames = ap length ends.delivered ∙ tests.1 in
    let nothing = all_delivered w.session.frames last.delivered last.left rest.frames ends.frames delivered in
    let shown : map session_shown runs ≡ ended_of w ++ last ∷ [] = ap (map session_shown) runs_are ∙ map-append session_shown w.runs.items (run ∷ []) in
    let accepted : w.session.frames ≡ accepted_in last = ends.frames ∙ (ap (λ rest. accepted_in last ++ rest) nothing.1 ∙ append-nil (accepted_in last)) in
    record {
      name = refl;
      sessions = let more = length_push (ended_of w) last in let count = length-map w.runs.items session_shown in let all = ap length shown in let none = tests.0 in omega arith;
      traffic = ap accepted_over shown ∙ (flat_map-append accepted_in (ended_of w) (last ∷ []) ∙ ap (λ frames. accepted_over (ended_of w) ++ frames) (append-nil (accepted_in last) ∙ sym accepted));
      nothing_left = ap left_at_last shown ∙ (left_at_last-push (ended_of w) last ∙ nothing.0);
      shown = proofs_are ∙ (ap (λ proofs. proofs ++ proof ∷ []) holds.shown
          ∙ (ap (λ one. cut_proofs w.entries (ended_of w) ++ one ∷ []) (ends.shown ∙ (ap (λ entries. session_proof entries w.session.cut last) (sym holds.ring.0) ∙ ap (λ cut. session_proof w.entries cut last) tests.2))
          ∙ (sym (lane_proofs-push w.entries (ended_of w) last) ∙ ap (lane_proofs w.entries) (sym shown))));
    }
