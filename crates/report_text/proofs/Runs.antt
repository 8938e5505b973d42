-- The lines of a threaded run, one frame and one session more at a time.
use Rattle.std.proofs.Common.{◌≡◌, ℕ, zero, suc, ◌+◌, ◌<◌, ◌≤◌, List, [], ◌∷◌, ◌++◌, length, get_or, take, map, refl, sym, ap, ◌∙◌, append_assoc, arith, add-one, subst}
use Rattle.std.proofs.lemmas.List.{append-nil, take_all}
use Rattle.std.specs.List.{flat_map}
use Rattle.step_kinds.specs.Runs.{SessionShown, LaneShown, session_shown, lane_shown}
use Rattle.step_kinds.specs.declared.runs.LaneRun.{LaneRun}
use Rattle.step_kinds.specs.declared.names.LaneName.{LaneName}
use Rattle.step_kinds.specs.declared.plan.PairPlan.{PairPlan}
use Rattle.step_kinds.specs.declared.runs.SessionRun.{SessionRun}
use Rattle.report_text.specs.Report.{frame_line, frame_lines, session_lines, sessions_lines}

frames_step : (line : ℕ → List ℕ → List ℕ) (lines : ℕ → List (List ℕ) → List ℕ) → ((n : ℕ) → lines n [] ≡ []) → ((n : ℕ) (x : List ℕ) (xs : List (List ℕ)) → lines n (x ∷ xs) ≡ line n x ++ lines (n + 1) xs)
    → (n : ℕ) (xs : List (List ℕ)) (k : ℕ) (d : List ℕ) → k < length xs → lines n (take (suc k) xs) ≡ lines n (take k xs) ++ line (n + k) (get_or xs k d)
frames_step line lines none more n [] k d within = absurd (omega arith)
frames_step line lines none more n (x ∷ xs) zero d within =
    more n x [] ∙ ap (λ r. line n x ++ r) (none (n + 1)) ∙ append-nil (line n x) ∙ ap (λ m. line m x) (omega arith) ∙ ap (λ r. r ++ line (n + 0) x) (sym (none n))
frames_step line lines none more n (x ∷ xs) (suc k) d within =
    more n x (take (suc k) xs) ∙ ap (λ r. line n x ++ r) (frames_step line lines none more (n + 1) xs k d (omega arith))
    ∙ sym (append_assoc (line n x) (lines (n + 1) (take k xs)) (line (n + 1 + k) (get_or xs k d)))
    ∙ ap (λ r. r ++ line (n + 1 + k) (get_or xs k d)) (sym (more n x (take k xs))) ∙ ap (λ m. lines n (x ∷ take k xs) ++ line m (get_or xs k d)) (omega arith)

-- The numbered lines of the first k+1 frames are those of the first k and then that of frame k.
pub frame_lines_more : (word : List ℕ) (n : ℕ) (xs : List (List ℕ)) (k : ℕ) (d : List ℕ) → k < length xs →
    frame_lines word n (take (k + 1) xs) ≡ frame_lines word n (take k xs) ++ frame_line word (n + k) (get_or xs k d)
frame_lines_more word n xs k d within = rw add-one (frames_step (frame_line word) (frame_lines word) (λ n. refl) (λ n x xs. refl) n xs k d within)

-- The numbered lines of the first k frames are those of all where there are at most k.
pub frame_lines_all : (word : List ℕ) (n : ℕ) (xs : List (List ℕ)) (k : ℕ) → length xs ≤ k → frame_lines word n (take k xs) ≡ frame_lines word n xs
frame_lines_all word n xs k all = ap (frame_lines word n) (take_all k xs all)

sessions_step : (line : ℕ → SessionShown → List ℕ) (lines : ℕ → List SessionShown → List ℕ) → ((n : ℕ) → lines n [] ≡ [])
    → ((n : ℕ) (x : SessionShown) (xs : List SessionShown) → lines n (x ∷ xs) ≡ line n x ++ lines (n + 1) xs)
    → (n : ℕ) (xs : List SessionRun) (k : ℕ) (d : SessionRun) → k < length xs
    → lines n (map session_shown (take (suc k) xs)) ≡ lines n (map session_shown (take k xs)) ++ line (n + k) (session_shown (get_or xs k d))
sessions_step line lines none more n [] k d within = absurd (omega arith)
sessions_step line lines none more n (x ∷ xs) zero d within =
    more n (session_shown x) [] ∙ ap (λ r. line n (session_shown x) ++ r) (none (n + 1)) ∙ append-nil (line n (session_shown x)) ∙ ap (λ m. line m (session_shown x)) (omega arith)
    ∙ ap (λ r. r ++ line (n + 0) (session_shown x)) (sym (none n))
sessions_step line lines none more n (x ∷ xs) (suc k) d within =
    more n (session_shown x) (map session_shown (take (suc k) xs))
    ∙ ap (λ r. line n (session_shown x) ++ r) (sessions_step line lines none more (n + 1) xs k d (omega arith))
    ∙ sym (append_assoc (line n (session_shown x)) (lines (n + 1) (map session_shown (take k xs))) (line (n + 1 + k) (session_shown (get_or xs k d))))
    ∙ ap (λ r. r ++ line (n + 1 + k) (session_shown (get_or xs k d))) (sym (more n (session_shown x) (map session_shown (take k xs))))
    ∙ ap (λ m. lines n (session_shown x ∷ map session_shown (take k xs)) ++ line m (session_shown (get_or xs k d))) (omega arith)

-- The lines of a lane's first k+1 sessions are those of its first k and then those of session number k+1.
pub sessions_lines_more : (pairs : List PairPlan) (lane : LaneName) (xs : List SessionRun) (k : ℕ) (d : SessionRun) → k < length xs →
    sessions_lines pairs lane 1 (map session_shown (take (k + 1) xs))
    ≡ sessions_lines pairs lane 1 (map session_shown (take k xs)) ++ session_lines pairs lane (k + 1) (session_shown (get_or xs k d))
sessions_lines_more pairs lane xs k d within =
    let number : 1 + k ≡ suc k = omega arith in
    let step = sessions_step (session_lines pairs lane) (sessions_lines pairs lane) (λ n. refl) (λ n x xs. refl) 1 xs k d within in
    rw add-one (subst (λ m. sessions_lines pairs lane 1 (map session_shown (take (suc k) xs))
    ≡ sessions_lines pairs lane 1 (map session_shown (take k xs)) ++ session_lines pairs lane m (session_shown (get_or xs k d))) number step)

-- the lines of what is shown of lanes are those of the lanes
pub runs_shown : (line : LaneShown → List ℕ) (lanes : List LaneRun) → flat_map line (map lane_shown lanes) ≡ flat_map (λ lane. line (lane_shown lane)) lanes
runs_shown line [] = refl
runs_shown line (lane ∷ lanes) = ap (λ r. line (lane_shown lane) ++ r) (runs_shown line lanes)
