-- The steps of a load, frame by frame: the words of a frame, one frame more, and how many steps there are.
use Rattle.std.proofs.Common.{◌≡◌, ℕ, zero, suc, ◌+◌, ◌*◌, ◌/◌, ◌%◌, ◌^◌, ◌<◌, ◌≤◌, List, [], ◌∷◌, ◌++◌, length, map, replicate, take, OnOk, Result, refl, sym, ◌∙◌, ap, subst, add-zero, zero-add, add-one, append_assoc, append-nil, arith, length-append, lit<}
use Rattle.std.proofs.Math.Nat.{mod-lt}
use Rattle.std.proofs.lemmas.List.{length-replicate, map-append}
use Rattle.std.proofs.lemmas.List.FromFn.{length-map-range_with_len, map-range_with_len_more}
use Rattle.std.specs.List.{flat_map, range_with_len}
use Rattle.std.specs.Int.{byte_at, bytes_low_first}
use Rattle.step_kinds.specs.declared.names.Side.TheVariants.{A, B}
use Rattle.step_kinds.specs.declared.plan.Line.{Line}
use Rattle.step_kinds.specs.declared.steps.Step.{Step}
use Rattle.step_kinds.specs.declared.steps.Step.TheVariants.{Post, Land, Copy, Clear, Ack}
use Rattle.lane_model.specs.Lane.{chunks_in}
use Rattle.pair_model.specs.Macros.{send, receive}
use Rattle.step_list.specs.Compact.{lines_with}
use Rattle.traffic_plan.specs.Load.{eight_of, load_word_at, state_past, state_after, word_of, load_pair, length_of, payload_of, landings_of, load_frame_steps, load_frame_lines, lines_of_frame, LoadGiven, frames_given}

-- a state is a number of 64 bits
past_small : (state : ℕ) → state_past state < 2 ^ 64
unfolding state_past
past_small state = mod-lt _ (lit< tt)

-- Each state of the generator is below 2^64 where the seed is.
pub state_small : (seed n : ℕ) → seed < 2 ^ 64 → state_after seed n < 2 ^ 64
state_small seed zero small = small
state_small seed (suc n) small = past_small (state_after seed n)

-- the two words of a frame, and the state after it
pub words_of_frame : (seed k state : ℕ) → state ≡ state_after seed (2 * k)
    → (load_word_at state ≡ word_of seed (2 * k)) × (load_word_at (state_past state) ≡ word_of seed (2 * k + 1)) × (state_past (state_past state) ≡ state_after seed (2 * (k + 1)))
words_of_frame seed k state is =
    let next : state_past state ≡ state_after seed (2 * k + 1) = ap state_past is ∙ sym (ap (state_after seed) (add-one (2 * k))) in
    let double : 2 * (k + 1) ≡ suc (2 * k + 1) = omega arith in
    (ap load_word_at is, ap load_word_at next, ap state_past next ∙ sym (ap (state_after seed) double))

-- the lines of one frame more
more-suc : (f : ℕ → List Line) (a n : ℕ) → flat_map f (range_with_len a (suc n)) ≡ flat_map f (range_with_len a n) ++ f (a + n)
more-suc f a zero = append-nil (f a) ∙ sym (ap f (add-zero a))
more-suc f a (suc n) =
    ap (λ lines. f a ++ lines) (more-suc f (a + 1) n)
    ∙ (sym (append_assoc (f a) (flat_map f (range_with_len (a + 1) n)) (f (a + 1 + n))) ∙ ap (λ k. f a ++ flat_map f (range_with_len (a + 1) n) ++ f k) (omega arith))

-- The lines of the first n+1 frames are those of the first n and then those of frame n.
pub frames_more : (f : ℕ → List Line) (n : ℕ) → flat_map f (range_with_len 0 (n + 1)) ≡ flat_map f (range_with_len 0 n) ++ f n
frames_more f n =
    let first : 0 + n ≡ n = omega arith in
    ap (λ m. flat_map f (range_with_len 0 m)) (add-one n) ∙ (more-suc f 0 n ∙ ap (λ k. flat_map f (range_with_len 0 n) ++ f k) first)

-- The lines of a load's first k frames and then those of its next are the lines of its first k+1 frames.
pub frame_more : (seed k : ℕ) (load : LoadGiven) (old new : List Line) → load ≡ frames_given seed k → old ≡ flat_map (lines_of_frame seed) (range_with_len 0 k)
    → new ≡ old ++ lines_of_frame load.seed load.given → new ≡ flat_map (lines_of_frame seed) (range_with_len 0 (k + 1))
frame_more seed k load old new given was is =
    is ∙ (ap (λ (load : LoadGiven). old ++ lines_of_frame load.seed load.given) given ∙ (ap (λ lines. lines ++ lines_of_frame seed k) was
    ∙ sym (frames_more (lines_of_frame seed) k)))

-- the lines of the frame whose words were drawn
pub frame_drawn : {X E : Type 0} (seed given word landings : ℕ) (load : LoadGiven) (old new : List Line) (result : Result X E) → frames_given seed given ≡ load
    → word ≡ word_of seed (2 * given) → landings ≡ word_of seed (2 * given + 1) → OnOk result (new ≡ old ++ load_frame_lines (given + 1) word landings)
    → OnOk result (new ≡ old ++ lines_of_frame load.seed load.given)
frame_drawn seed given word landings load old new result same first second pushed =
    subst (λ (load : LoadGiven). OnOk result (new ≡ old ++ lines_of_frame load.seed load.given)) same
    (subst (λ (w : ℕ). OnOk result (new ≡ old ++ load_frame_lines (given + 1) (word_of seed (2 * given)) w)) second
    (subst (λ (w : ℕ). OnOk result (new ≡ old ++ load_frame_lines (given + 1) w landings)) first pushed))

-- one step more of those that a number says
pub appended : (line : ℕ) (f : ℕ → Step) (i : ℕ) (before old new : List Line) → old ≡ before ++ lines_with line (map f (range_with_len 0 i)) → new ≡ old ++ lines_with line (f i ∷ [])
    → new ≡ before ++ lines_with line (map f (range_with_len 0 (i + 1)))
appended line f i before old new was is =
    let made : Step → Line = λ step. record { line = line; step = step } in
    let one = f i ∷ [] in
    let more : map f (range_with_len 0 (i + 1)) ≡ map f (range_with_len 0 i) ++ one = map-range_with_len_more f 0 i i (omega arith) in
    is ∙ (ap (λ lines. lines ++ lines_with line one) was ∙ (append_assoc before (lines_with line (map f (range_with_len 0 i))) (lines_with line one)
    ∙ ap (λ lines. before ++ lines) (sym (ap (map made) more ∙ map-append made (map f (range_with_len 0 i)) one))))

-- A frame's bytes are eight bytes again and again

abbrev pub byte_of : ℕ → ℕ → ℕ
byte_of word j = word / 2 ^ (8 * (j % 8)) % 256

range_both : (f : ℕ → ℕ) (a n m : ℕ) → map f (range_with_len a (n + m)) ≡ map f (range_with_len a n) ++ map f (range_with_len (a + n) m)
range_both f a zero m = ap (λ n. map f (range_with_len a n)) (zero-add m) ∙ ap (λ b. map f (range_with_len b m)) (sym (add-zero a))
range_both f a (suc n) m =
    let on : a + 1 + n ≡ a + suc n = omega arith in
    let size : suc n + m ≡ suc (n + m) = omega arith in
    ap (λ n. map f (range_with_len a n)) size
    ∙ ap (λ (rest : List ℕ). f a ∷ rest) (range_both f (a + 1) n m ∙ ap (λ b. map f (range_with_len (a + 1) n) ++ map f (range_with_len b m)) on)

same_byte : (word i : ℕ) → i < 8 → word / 2 ^ (8 * i) % 256 ≡ byte_at i word
same_byte word zero h = omega arith
same_byte word (suc zero) h = refl
same_byte word (suc (suc zero)) h = refl
same_byte word (suc (suc (suc zero))) h = refl
same_byte word (suc (suc (suc (suc zero)))) h = refl
same_byte word (suc (suc (suc (suc (suc zero))))) h = refl
same_byte word (suc (suc (suc (suc (suc (suc zero)))))) h = refl
same_byte word (suc (suc (suc (suc (suc (suc (suc zero))))))) h = refl
same_byte word (suc (suc (suc (suc (suc (suc (suc (suc i)))))))) h = absurd (omega arith)

eight_bytes : (word k i n : ℕ) → i + n ≤ 8 → map (byte_of word) (range_with_len (8 * k + i) n) ≡ bytes_low_first i n word
eight_bytes word k i zero few = refl
eight_bytes word k i (suc n) few =
    let place : (8 * k + i) % 8 ≡ i = omega arith in
    let on : 8 * k + i + 1 ≡ 8 * k + suc i = omega arith in
    ap (λ p. word / 2 ^ (8 * p) % 256 ∷ map (byte_of word) (range_with_len (8 * k + i + 1) n)) place
    ∙ (ap (λ byte. byte ∷ map (byte_of word) (range_with_len (8 * k + i + 1) n)) (same_byte word i (omega arith))
    ∙ ap (λ (rest : List ℕ). byte_at i word ∷ rest) (ap (λ b. map (byte_of word) (range_with_len b n)) on ∙ eight_bytes word k (suc i) n (omega arith)))

-- The first 8(k+1) bytes of a word that is repeated are its first 8k and then its eight bytes, the lowest first.
pub bytes_more : (word k : ℕ) → map (byte_of word) (range_with_len 0 (8 * (k + 1))) ≡ map (byte_of word) (range_with_len 0 (8 * k)) ++ bytes_low_first 0 8 word
bytes_more word k =
    let size : 8 * (k + 1) ≡ 8 * k + 8 = omega arith in
    let first : 0 + 8 * k ≡ 8 * k + 0 = omega arith in
    ap (λ n. map (byte_of word) (range_with_len 0 n)) size ∙ (range_both (byte_of word) 0 (8 * k) 8
    ∙ ap (λ (rest : List ℕ). map (byte_of word) (range_with_len 0 (8 * k)) ++ rest) (ap (λ b. map (byte_of word) (range_with_len b 8)) first ∙ eight_bytes word k 0 8 (omega arith)))

-- The first 32(k+1) are its first 32k and then its eight bytes four times.
pub four_words_more : (word k : ℕ) → map (byte_of word) (range_with_len 0 (32 * (k + 1)))
    ≡ map (byte_of word) (range_with_len 0 (32 * k)) ++ (bytes_low_first 0 8 word ++ bytes_low_first 0 8 word ++ bytes_low_first 0 8 word ++ bytes_low_first 0 8 word)
four_words_more word k =
    let so_far : ℕ → List ℕ = λ n. map (byte_of word) (range_with_len 0 (8 * n)) in
    let own : List ℕ = bytes_low_first 0 8 word in
    let first : List ℕ = map (byte_of word) (range_with_len 0 (32 * k)) in
    let all : 32 * (k + 1) ≡ 8 * (4 * k + 3 + 1) = omega arith in
    let third : 4 * k + 3 ≡ 4 * k + 2 + 1 = omega arith in
    let second : 4 * k + 2 ≡ 4 * k + 1 + 1 = omega arith in
    let none : 8 * (4 * k) ≡ 32 * k = omega arith in
    ap (λ n. map (byte_of word) (range_with_len 0 n)) all
    ∙ bytes_more word (4 * k + 3)
    ∙ ap (λ (before : List ℕ). before ++ own) (ap so_far third ∙ bytes_more word (4 * k + 2))
    ∙ ap (λ (before : List ℕ). (before ++ own) ++ own) (ap so_far second ∙ bytes_more word (4 * k + 1))
    ∙ ap (λ (before : List ℕ). ((before ++ own) ++ own) ++ own) (bytes_more word (4 * k))
    ∙ ap (λ n. (((map (byte_of word) (range_with_len 0 n) ++ own) ++ own) ++ own) ++ own) none
    ∙ append_assoc ((first ++ own) ++ own) own own
    ∙ append_assoc (first ++ own) own (own ++ own)
    ∙ append_assoc first own (own ++ (own ++ own))

-- The first 64(k+1) are its first 64k and then its eight bytes eight times.
pub eight_words_more : (word k : ℕ) → map (byte_of word) (range_with_len 0 (64 * (k + 1))) ≡ map (byte_of word) (range_with_len 0 (64 * k)) ++ eight_of (bytes_low_first 0 8 word)
eight_words_more word k =
    let own : List ℕ = bytes_low_first 0 8 word in
    let four : List ℕ = own ++ own ++ own ++ own in
    let all : 64 * (k + 1) ≡ 32 * (2 * k + 1 + 1) = omega arith in
    let none : 32 * (2 * k) ≡ 64 * k = omega arith in
    ap (λ n. map (byte_of word) (range_with_len 0 n)) all
    ∙ four_words_more word (2 * k + 1)
    ∙ ap (λ (before : List ℕ). before ++ four) (four_words_more word (2 * k))
    ∙ ap (λ n. (map (byte_of word) (range_with_len 0 n) ++ four) ++ four) none
    ∙ append_assoc (map (byte_of word) (range_with_len 0 (64 * k))) four four

-- of which the first are those of a shorter range
pub first_bytes : (f : ℕ → ℕ) (a len all : ℕ) → len ≤ all → take len (map f (range_with_len a all)) ≡ map f (range_with_len a len)
first_bytes f a zero all few = refl
first_bytes f a (suc len) zero few = absurd (omega arith)
first_bytes f a (suc len) (suc all) few = ap (λ (rest : List ℕ). f a ∷ rest) (first_bytes f (a + 1) len all (omega arith))

-- a frame has 1 to 300 bytes
pub length_payload : (word : ℕ) → length (payload_of word) ≡ length_of word
length_payload word = length-map-range_with_len _ 0 (length_of word)

-- A frame of a load has at most 300 bytes.
pub few_bytes : (word : ℕ) → length_of word ≤ 300
few_bytes word = let h : word % 300 < 300 = mod-lt word (lit< tt) in omega arith

few_chunks : (word : ℕ) → chunks_in (length_of word) ≤ 3
few_chunks word = let h = few_bytes word in omega arith

-- how many steps the parts of a frame have
five : (a b c d e : List Step) → length (a ++ b ++ c ++ d ++ e) ≡ length a + length b + length c + length d + length e
five a b c d e = simp length-append refl

length_send : (word : ℕ) → length (send load_pair 0 A 0 (payload_of word)) ≡ chunks_in (length_of word) + 5
length_send word =
    let posts = length-replicate (chunks_in (length (payload_of word)) + 4) (Post 0 A 0) in
    let chunks = ap chunks_in (length_payload word) in
    omega arith

length_receive : (copies : ℕ) → length (receive 0 B 0 copies) ≡ copies + 3
length_receive copies =
    let parts = length-append (replicate copies (Copy 0 B 0)) (Clear 0 B 0 ∷ Ack 0 B 0 ∷ []) in
    let copied = length-replicate copies (Copy 0 B 0) in
    omega arith

-- A frame of a load takes at most 30 steps.
pub few_steps : (word landings : ℕ) → length (load_frame_steps word landings) ≤ 30
few_steps word landings =
    let chunks = chunks_in (length_of word) in
    let parts = five (send load_pair 0 A 0 (payload_of word)) (landings_of landings) (replicate (chunks + 4) (Land 0 A 0)) (receive 0 B 0 chunks) (Land 0 B 0 ∷ []) in
    let sent = length_send word in
    let landed = length-replicate (chunks + 4) (Land 0 A 0) in
    let received = length_receive chunks in
    let few = few_chunks word in
    omega arith

-- how many steps all frames have
pub few_lines : (f : ℕ → List Line) → ((k : ℕ) → length (f k) ≤ 30) → (a n : ℕ) → length (flat_map f (range_with_len a n)) ≤ 30 * n
few_lines f each a zero = omega arith
few_lines f each a (suc n) =
    let parts = length-append (f a) (flat_map f (range_with_len (a + 1) n)) in
    let first = each a in
    let rest = few_lines f each (a + 1) n in
    omega arith
