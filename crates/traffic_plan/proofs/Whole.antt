-- A script can declare the plan of a load, and may make its steps.
use Rattle.std.proofs.Common.{ℕ, zero, suc, ◌+◌, ◌*◌, ◌/◌, ◌%◌, ◌^◌, ◌<◌, ◌≤◌, inl, List, [], ◌∷◌, ◌++◌, length, replicate, slice_index, slice_index_or, refl, arith, lit<, lit≤}
use Rattle.std.proofs.lemmas.List.{length-map}
use Rattle.std.proofs.lemmas.List.Elements.{All-nil, All-cons, All-append, All-map, All-replicate, All-weaker}
use Rattle.std.specs.List.{All, flat_map, range_with_len}
use Rattle.step_kinds.specs.declared.names.Side.{Side}
use Rattle.step_kinds.specs.declared.names.Side.TheVariants.{A, B}
use Rattle.step_kinds.specs.declared.plan.Line.{Line}
use Rattle.step_kinds.specs.declared.steps.Step.{Step}
use Rattle.step_kinds.specs.declared.steps.Step.TheVariants.{Begin, Post, Land, Look, Copy, Clear, Ack}
use Rattle.lane_model.specs.Lane.{chunks_in}
use Rattle.pair_model.specs.DeclaredPlans.{IsSide, IsPair, IsDeclared, IsQueueOf, IsFrame, IsPermitted}
use Rattle.pair_model.specs.Macros.{send, land_all, receive, posts_in}
use Rattle.pair_model.specs.Plans.{no_pair}
use Rattle.pair_model.specs.Switches.{IsMakeable, IsSwitch}
use Rattle.traffic_plan.specs.Laws.{LoadIsWhole}
use Rattle.traffic_plan.specs.Load.{load_pair, length_of, payload_of, landings_of, load_frame_steps, lines_of_frame, word_of, load_plan_of}
use Rattle.traffic_plan.proofs.Frames.{length_payload, few_bytes, few_steps, few_lines}

-- the pair

zero_class : (n k : ℕ) → slice_index (replicate n 0) k < 8
zero_class zero k = lit< tt
zero_class (suc n) zero = lit< tt
zero_class (suc n) (suc k) = zero_class n k

side_is : IsSide load_pair.a
side_is = record {
  known_version = (lit≤ tt, lit≤ tt);
  queues = (lit≤ tt, lit≤ tt);
  windows = (lit≤ tt, lit≤ tt);
  size = (lit≤ tt, lit≤ tt, refl);
  cap = (lit≤ tt, lit≤ tt, refl);
}

pair_is : IsPair load_pair
pair_is = record {
  side_a = side_is;
  side_b = side_is;
  known_transport = inl (lit≤ tt);
  mtu = (lit≤ tt, lit≤ tt);
  long_header = λ h. lit≤ tt;
  classes_a = zero_class 16;
  classes_b = zero_class 16;
  up = λ h. record { versions = (lit≤ tt, lit≤ tt); queues = refl; windows = refl; sizes = (lit≤ tt, lit≤ tt) };
  raw = λ h. (lit≤ tt, lit≤ tt);
}

each_pair : (k : ℕ) → k < 1 → IsPair (slice_index_or (load_pair ∷ []) k no_pair)
each_pair zero h = pair_is
each_pair (suc k) h = absurd (omega arith)

declared : (lines : List Line) → IsDeclared (load_plan_of lines)
declared lines = record {
  few_pairs = lit≤ tt;
  pairs = each_pair;
  few_devices = lit≤ tt;
  devices = λ k h. absurd (omega arith);
  one_on_a_queue = λ j k h h2 same. absurd (omega arith);
}

-- the steps

queue_of : (lines : List Line) (side : Side) → IsQueueOf (load_plan_of lines) 0 side 0
queue_of lines A = record { declared = lit< tt; among = lit< tt }
queue_of lines B = record { declared = lit< tt; among = lit< tt }

abbrev Permitted : List Line → Step → Type 0
Permitted lines step = IsPermitted (load_plan_of lines) step

frame_is : (word : ℕ) → IsFrame (payload_of word)
frame_is word = let len = length_payload word in let few = few_bytes word in (omega arith, omega arith)

send_permitted : (lines : List Line) (word : ℕ) → All (Permitted lines) (send load_pair 0 A 0 (payload_of word))
send_permitted lines word =
    let posts = posts_in load_pair A 0 (length (payload_of word)) in
    All-cons (Permitted lines) (Begin 0 A 0 (payload_of word)) (replicate posts (Post 0 A 0)) (queue_of lines A, frame_is word)
    (All-replicate (Permitted lines) posts (Post 0 A 0) (queue_of lines A))

receive_permitted : (lines : List Line) (copies : ℕ) → All (Permitted lines) (receive 0 B 0 copies)
receive_permitted lines copies =
    All-cons (Permitted lines) (Look 0 B 0) (replicate copies (Copy 0 B 0) ++ Clear 0 B 0 ∷ Ack 0 B 0 ∷ []) (queue_of lines B)
    (All-append (Permitted lines) (replicate copies (Copy 0 B 0)) (Clear 0 B 0 ∷ Ack 0 B 0 ∷ []) (All-replicate (Permitted lines) copies (Copy 0 B 0) (queue_of lines B))
    (All-cons (Permitted lines) (Clear 0 B 0) (Ack 0 B 0 ∷ []) (queue_of lines B) (All-cons (Permitted lines) (Ack 0 B 0) [] (queue_of lines B) (All-nil (Permitted lines)))))

landings_permitted : (lines : List Line) (landings : ℕ) → All (Permitted lines) (landings_of landings)
landings_permitted lines landings =
    All-map (Permitted lines) (λ i. Land 0 A (landings / 2 ^ (8 * i) % 4)) (range_with_len 0 8) (λ k d h. lit< tt)

frame_permitted : (lines : List Line) (word landings : ℕ) → All (Permitted lines) (load_frame_steps word landings)
frame_permitted lines word landings =
    let P : Step → Type 0 = Permitted lines in
    let chunks = chunks_in (length_of word) in
    let a = send load_pair 0 A 0 (payload_of word) in
    let b = landings_of landings in
    let c = land_all 0 A (chunks + 4) in
    let d = receive 0 B 0 chunks in
    let e = Land 0 B 0 ∷ [] in
    All-append P (a ++ b ++ c ++ d) e
    (All-append P (a ++ b ++ c) d
    (All-append P (a ++ b) c (All-append P a b (send_permitted lines word) (landings_permitted lines landings)) (All-replicate P (chunks + 4) (Land 0 A 0) (lit< tt)))
    (receive_permitted lines chunks))
    (All-cons P (Land 0 B 0) [] (lit< tt) (All-nil P))

-- all frames

each_frame : (P : Line → Type 0) (f : ℕ → List Line) → ((k : ℕ) → All P (f k)) → (a n : ℕ) → All P (flat_map f (range_with_len a n))
each_frame P f each a zero = All-nil P
each_frame P f each a (suc n) = All-append P (f a) (flat_map f (range_with_len (a + 1) n)) (each a) (each_frame P f each (a + 1) n)

-- Each step of each frame of a load is permitted by a plan of the load's pair, whatever lines that plan has.
pub lines_permitted : (lines : List Line) (seed k : ℕ) → All (λ line. IsPermitted (load_plan_of lines) line.step) (lines_of_frame seed k)
lines_permitted lines seed k =
    let steps = load_frame_steps (word_of seed (2 * k)) (word_of seed (2 * k + 1)) in
    All-map (λ line. IsPermitted (load_plan_of lines) line.step) (λ step. record { line = k + 1; step = step }) steps
    (frame_permitted lines (word_of seed (2 * k)) (word_of seed (2 * k + 1)))

few_of_frame : (seed k : ℕ) → length (lines_of_frame seed k) ≤ 30
few_of_frame seed k =
    let word = word_of seed (2 * k) in
    let landings = word_of seed (2 * k + 1) in
    let made : Step → Line = λ step. record { line = k + 1; step = step } in
    let same = length-map (load_frame_steps word landings) made in
    let few = few_steps word landings in
    omega (arith, same, few)

-- The plan of a load of at most 30,000 frames is a whole one, which a script can declare, within all limits.
pub load_is_whole : LoadIsWhole
load_is_whole seed frames most =
    let lines = flat_map (lines_of_frame seed) (range_with_len 0 frames) in
    record {
      declared = declared lines;
      switches = record { few = lit≤ tt; each = All-nil (IsSwitch (load_plan_of lines)); apart = λ i j d lt within. absurd (omega arith) };
      steps = All-weaker (λ line. IsPermitted (load_plan_of lines) line.step) (λ line. IsMakeable (load_plan_of lines) line.step) (λ line may. inl may) lines
          (each_frame (λ line. IsPermitted (load_plan_of lines) line.step) (lines_of_frame seed) (lines_permitted lines seed) 0 frames);
      few_steps = omega (arith, few_lines (lines_of_frame seed) (few_of_frame seed) 0 frames, most);
      traffic = All-nil _;
      few_frames = lit≤ tt;
      few_bytes = lit≤ tt;
      few_breaks = λ pair. lit≤ tt;
    }
