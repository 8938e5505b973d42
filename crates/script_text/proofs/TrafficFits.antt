-- What a line of traffic gives fits: frames of lanes that may have traffic, within the limits.
use Rattle.std.proofs.Common.{◌≡◌, ℕ, zero, suc, ◌+◌, ◌<◌, ◌≤◌, ◌==◌, Bool, true, false, not, ◌||◌, cond, List, [], ◌∷◌, length, get_or, map, sum, count_by, codes, nat_lt, nat_le, refl, ◌∙◌, subst, arith}
use Rattle.std.proofs.lemmas.Bool.{ltb-false, leb-true, not-false, not-true, and_parts, or_parts, eqb-true}
use Rattle.std.proofs.lemmas.List.Elements.{All-cons, All-nil, All-map}
use Rattle.std.proofs.lemmas.List.Sums.{sum_by-cons}
use Rattle.std.specs.List.{All}
use Rattle.std.specs.Str.{bytes_eq}
use Rattle.step_kinds.specs.Limits.{most_frame_bytes, most_traffic_frames, most_traffic_bytes, most_breaks, most_traffic_entries}
use Rattle.step_kinds.specs.declared.names.LaneName.{LaneName}
use Rattle.step_kinds.specs.declared.names.Side.{Side}
use Rattle.step_kinds.specs.declared.names.Side.TheVariants.{A, B}
use Rattle.step_kinds.specs.declared.plan.PairPlan.{PairPlan}
use Rattle.step_kinds.specs.declared.plan.Traffic.{Traffic}
use Rattle.step_kinds.specs.declared.plan.Traffic.TheVariants.{Send, Break}
use Rattle.lane_model.specs.Lane.{count_from}
use Rattle.pair_model.specs.DeclaredPlans.{Agree}
use Rattle.pair_model.specs.Plans.{side_plan, pair_plan}
use Rattle.pair_model.specs.Sizes.{sizes_of}
use Rattle.pair_model.specs.TrafficPlans.{frames_in, traffic_bytes_in, is_break_of, MayHaveTraffic, IsTrafficLane, IsTraffic}
use Rattle.pair_settings.specs.Settings.{agrees}
use Rattle.script_words.specs.Before.{Before, MoreTraffic}
use Rattle.script_words.specs.Tests.{unknown_line, whole}
use Rattle.script_words.specs.TrafficLines.{may_have_traffic, is_little, traffic_within, script_lane_of, traffic_frame_line, flood_frame, flood_line, break_line, traffic_line}
use Rattle.script_words.specs.declared.fault.Cause.TheVariants.{BadGeometry, BadPair, TooMany}
use Rattle.script_words.specs.declared.parts.Part.TheVariants.{Declarations}
use Rattle.script_plan.proofs.Facade.{length_flood_frame}
use Rattle.script_text.specs.SoundLines.{Filled}
use Rattle.script_text.proofs.Fits.{Fits}
use Rattle.script_text.proofs.Gives.{Gives, gives_ok, gives_fault, gives_then, gives_passed, gives_at, gives_if}
use Rattle.script_text.proofs.PairFits.{sides_agree}
use Rattle.script_text.proofs.WordFacts.{below, pair_declared, queue_declared, number_ranged, bytes_spelled}

may_have : (pair : PairPlan) → may_have_traffic pair ≡ true → MayHaveTraffic pair
may_have pair h = let parts = and_parts (not pair.raw) (agrees pair) h in record { ordinary = not-true pair.raw parts.0; agree = sides_agree pair parts.1 }

among_both : (pair : PairPlan) (side : Side) (queue : ℕ) → Agree pair → queue < (side_plan pair side).queues → (queue < pair.a.queues) × (queue < pair.b.queues)
among_both pair A queue agree lt = let same = agree.queues in (lt, omega arith)
among_both pair B queue agree lt = let same = agree.queues in (omega arith, lt)

-- Link losses among frames and by themselves

no_breaks : (pair : ℕ) (made : ℕ → Traffic) → ((i : ℕ) → is_break_of pair (made i) ≡ false) → (from n : ℕ) → count_by (is_break_of pair) (map made (count_from from n)) ≡ 0
no_breaks pair made none from zero = refl
no_breaks pair made none from (suc n) =
    let first = sum_by-cons (λ x. cond (is_break_of pair x) 1 0) (made from) (map made (count_from (suc from) n)) in
    let rest : count_by (is_break_of pair) (map made (count_from (suc from) n)) ≡ 0 = no_breaks pair made none (suc from) n in
    let here : cond {A = ℕ} (is_break_of pair (made from)) 1 0 ≡ 0 = rw (none from) refl in
    omega arith

-- A single link loss counts once among the link losses of its own pair, and not among those of any other.
pub one_break : (pair other : ℕ) → count_by (is_break_of other) (Break pair ∷ []) ≡ cond (pair == other) 1 0
one_break pair other = omega arith

break_within : (items : List Traffic) (pair other : ℕ) → count_by (is_break_of pair) items < most_breaks → count_by (is_break_of other) items ≤ most_breaks
    → count_by (is_break_of other) items + count_by (is_break_of other) (Break pair ∷ []) ≤ most_breaks
break_within items pair other room few = by (pair == other) refl
  where
    by : (t : Bool) → (pair == other) ≡ t → count_by (is_break_of other) items + count_by (is_break_of other) (Break pair ∷ []) ≤ most_breaks
    by true is =
        let P : ℕ → Type 0 = λ p. count_by (is_break_of p) items < most_breaks in
        let here : count_by (is_break_of other) items < most_breaks = subst P (eqb-true pair other is) room in
        let counted : count_by (is_break_of other) (Break pair ∷ []) ≡ 1 = one_break pair other ∙ rw is refl in
        omega arith
    by false is =
        let counted : count_by (is_break_of other) (Break pair ∷ []) ≡ 0 = one_break pair other ∙ rw is refl in
        omega arith

module _ (before : Before) (part : before.part ≡ Declarations → ⊥) (few : (pair : ℕ) → count_by (is_break_of pair) before.plan.traffic ≤ most_breaks)
    (few_frames : sum (map frames_in before.plan.traffic) ≤ most_traffic_frames) (few_bytes : sum (map traffic_bytes_in before.plan.traffic) ≤ most_traffic_bytes) where
  within_fits : (lane : LaneName) (len : ℕ) (more : List Traffic) → lane.pair < length before.plan.pairs → lane.queue < (side_plan (pair_plan before.plan lane.pair) lane.from).queues
      → (IsTrafficLane before.plan lane → len ≤ (sizes_of (pair_plan before.plan lane.pair) lane.from lane.queue).largest → All (IsTraffic before.plan) more)
      → ((pair : ℕ) → count_by (is_break_of pair) more ≡ 0) → Gives (Fits before) (traffic_within before lane len more)
  within_fits lane len more declared among items unbroken =
      gives_then _ _ _
      (gives_passed (nat_lt (sizes_of (pair_plan before.plan lane.pair) lane.from lane.queue).largest len
      || nat_lt most_traffic_entries (sizes_of (pair_plan before.plan lane.pair) lane.from lane.queue).entries) (whole BadGeometry)) (λ _ sizes.
      gives_then _ _ _ (gives_passed (not (may_have_traffic (pair_plan before.plan lane.pair))) (whole BadPair)) (λ _ may.
      gives_then _ _ _ (gives_passed (not (is_little before.plan.traffic more)) (whole TooMany)) (λ _ little.
      let fit = or_parts (nat_lt (sizes_of (pair_plan before.plan lane.pair) lane.from lane.queue).largest len)
      (nat_lt most_traffic_entries (sizes_of (pair_plan before.plan lane.pair) lane.from lane.queue).entries) sizes in
      let has : MayHaveTraffic (pair_plan before.plan lane.pair) = may_have (pair_plan before.plan lane.pair) (not-false (may_have_traffic (pair_plan before.plan lane.pair)) may) in
      let room = and_parts (nat_le (sum (map frames_in before.plan.traffic) + sum (map frames_in more)) most_traffic_frames)
      (nat_le (sum (map traffic_bytes_in before.plan.traffic) + sum (map traffic_bytes_in more)) most_traffic_bytes) (not-false (is_little before.plan.traffic more) little) in
      gives_ok (Fits before) (MoreTraffic more) (record {
        part = part;
        items = items (record {
          declared = declared;
          may = has;
          among = among_both (pair_plan before.plan lane.pair) lane.from lane.queue has.agree among;
          short = ltb-false most_traffic_entries (sizes_of (pair_plan before.plan lane.pair) lane.from lane.queue).entries fit.1;
        }) (ltb-false (sizes_of (pair_plan before.plan lane.pair) lane.from lane.queue).largest len fit.0);
        few_frames = leb-true (sum (map frames_in before.plan.traffic) + sum (map frames_in more)) most_traffic_frames room.0;
        few_bytes = leb-true (sum (map traffic_bytes_in before.plan.traffic) + sum (map traffic_bytes_in more)) most_traffic_bytes room.1;
        few_breaks = λ pair. let none = unbroken pair in let old = few pair in omega arith;
      }))))

  frame_fits : (pair_text side_text queue_text frame_text : List ℕ) → 0 < length frame_text → Gives (Fits before) (traffic_frame_line before pair_text side_text queue_text frame_text)
  frame_fits pair_text side_text queue_text frame_text some =
      gives_then _ _ _ (queue_declared before 2 pair_text side_text queue_text) (λ name queue.
      gives_then _ _ _ (gives_at _ 5 _ (bytes_spelled frame_text some)) (λ frame filled.
      within_fits (script_lane_of name) (length frame) (Send (script_lane_of name) frame ∷ []) queue.declared queue.among
      (λ lane short. All-cons (IsTraffic before.plan) (Send (script_lane_of name) frame) [] (lane, filled, short) (All-nil (IsTraffic before.plan)))
      (λ other. refl)))

  flooded : (lane : LaneName) (len : ℕ) → IsTrafficLane before.plan lane → len ≤ (sizes_of (pair_plan before.plan lane.pair) lane.from lane.queue).largest → 1 ≤ len → (i : ℕ)
      → IsTraffic before.plan (Send lane (flood_frame len i))
  flooded lane len is short some i = let same = length_flood_frame len i in (is, omega arith, omega arith)

  flood_fits : (pair_text side_text queue_text count_text len_text : List ℕ) → Gives (Fits before) (flood_line before pair_text side_text queue_text count_text len_text)
  flood_fits pair_text side_text queue_text count_text len_text =
      gives_then _ _ _ (queue_declared before 2 pair_text side_text queue_text) (λ name queue.
      gives_then _ _ _ (number_ranged 5 1 most_traffic_frames count_text) (λ count _.
      gives_then _ _ _ (number_ranged 6 1 most_frame_bytes len_text) (λ len range.
      within_fits (script_lane_of name) len
      (map (λ i. Send (script_lane_of name) (flood_frame len i)) (count_from 0 count)) queue.declared queue.among
      (λ lane short. All-map (IsTraffic before.plan) (λ i. Send (script_lane_of name) (flood_frame len i)) (count_from 0 count)
      (λ k d _. flooded (script_lane_of name) len lane short range.0 (get_or (count_from 0 count) k d)))
      (λ other. no_breaks other (λ i. Send (script_lane_of name) (flood_frame len i)) (λ i. refl) 0 count))))

  break_fits : (pair_text : List ℕ) → Gives (Fits before) (break_line before pair_text)
  break_fits pair_text =
      gives_then _ _ _ (gives_at _ 2 _ (pair_declared before pair_text)) (λ pair lt.
      gives_then _ _ _ (gives_passed (not (may_have_traffic (pair_plan before.plan pair))) (whole BadPair)) (λ _ may.
      gives_then _ _ _ (gives_passed (not (nat_lt (count_by (is_break_of pair) before.plan.traffic) most_breaks)) (whole TooMany)) (λ _ room.
      let has : MayHaveTraffic (pair_plan before.plan pair) = may_have (pair_plan before.plan pair) (not-false (may_have_traffic (pair_plan before.plan pair)) may) in
      gives_ok (Fits before) (MoreTraffic (Break pair ∷ [])) (record {
        part = part;
        items = All-cons (IsTraffic before.plan) (Break pair) [] (lt, has) (All-nil (IsTraffic before.plan));
        few_frames = omega arith;
        few_bytes = omega arith;
        few_breaks = λ other. break_within before.plan.traffic pair other (below (count_by (is_break_of pair) before.plan.traffic) most_breaks room) (few other);
      }))))

  pub traffic_fits : (word : List ℕ) (words : List (List ℕ)) → Filled words → Gives (Fits before) (traffic_line before word words)
  traffic_fits word [] h = gives_fault (Fits before) unknown_line
  traffic_fits word (a ∷ []) h = gives_if _ (bytes_eq word (codes "break")) _ _ (break_fits a) (gives_fault (Fits before) unknown_line)
  traffic_fits word (a ∷ b ∷ []) h = gives_fault (Fits before) unknown_line
  traffic_fits word (a ∷ b ∷ c ∷ []) h = gives_fault (Fits before) unknown_line
  traffic_fits word (a ∷ b ∷ c ∷ d ∷ []) h = gives_if _ (bytes_eq word (codes "frame")) _ _ (frame_fits a b c d h.1.1.1.0) (gives_fault (Fits before) unknown_line)
  traffic_fits word (a ∷ b ∷ c ∷ d ∷ e ∷ []) h = gives_if _ (bytes_eq word (codes "flood")) _ _ (flood_fits a b c d e) (gives_fault (Fits before) unknown_line)
  traffic_fits word (a ∷ b ∷ c ∷ d ∷ e ∷ f ∷ words) h = gives_fault (Fits before) unknown_line
