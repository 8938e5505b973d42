-- The text of a pair and of its sides, put together member by member.
use Rattle.std.proofs.Common.{◌≡◌, ◌∙◌, ℕ, ◌+◌, List, [], ◌∷◌, ◌++◌, append_assoc, append-nil, map, refl, sym, ap, arith}
use Rattle.std.specs.Prelude.{codes}
use Rattle.std.specs.List.{flat_map, range_with_len}
use Rattle.std.proofs.lemmas.Grind.{flat_map-append}
use Rattle.std.proofs.lemmas.List.FromFn.{map-range_with_len_more}
use Rattle.step_kinds.specs.declared.names.Side.{Side}
use Rattle.step_kinds.specs.declared.names.Side.TheVariants.{A, B}
use Rattle.step_kinds.specs.declared.plan.PairPlan.{PairPlan}
use Rattle.step_kinds.specs.declared.plan.SidePlan.{SidePlan}
use Rattle.pair_model.specs.Plans.{side_plan}
use Rattle.pair_model.specs.Sizes.{agreed_version}
use Rattle.trace_command.specs.Words.{number_member, text_member, truth_text}
use Rattle.trace_command.specs.Head.{trace_pair_line, ring_after, side_object}

-- Rings, one more

same_list : (xs : List ℕ) → map (λ x. x) xs ≡ xs
same_list [] = refl
same_list (x ∷ xs) = ap (λ (rest : List ℕ). x ∷ rest) (same_list xs)

range_more : (n : ℕ) → range_with_len 0 (n + 1) ≡ range_with_len 0 n ++ n ∷ []
range_more n =
    sym (same_list (range_with_len 0 (n + 1))) ∙ map-range_with_len_more (λ (x : ℕ). x) 0 n n (omega arith) ∙ ap (λ (xs : List ℕ). xs ++ n ∷ []) (same_list (range_with_len 0 n))

-- The rings of a side's first n+1 queues are written as those of its first n and then that of queue n.
pub rings_more : (pair : PairPlan) (side : Side) (n : ℕ) →
    flat_map (ring_after pair side) (range_with_len 0 (n + 1)) ≡ flat_map (ring_after pair side) (range_with_len 0 n) ++ ring_after pair side n
rings_more pair side n =
    ap (flat_map (ring_after pair side)) (range_more n) ∙ flat_map-append (ring_after pair side) (range_with_len 0 n) (n ∷ [])
    ∙ ap (λ (last : List ℕ). flat_map (ring_after pair side) (range_with_len 0 n) ++ last) (append-nil (ring_after pair side n))

-- A side

eight : (t a b c d e f g h : List ℕ) → (((((((t ++ a) ++ b) ++ c) ++ d) ++ e) ++ f) ++ g) ++ h ≡ t ++ (((((((a ++ b) ++ c) ++ d) ++ e) ++ f) ++ g) ++ h)
eight t a b c d e f g h = simp append_assoc

abbrev members_of : PairPlan → Side → SidePlan → ℕ → ℕ → ℕ → List ℕ
members_of pair side own version queues windows =
    number_member (codes "{\"version\":") version ++ number_member (codes ",\"queues\":") queues ++ number_member (codes ",\"windows\":") windows
    ++ number_member (codes ",\"size\":") own.size ++ number_member (codes ",\"cap\":") own.cap ++ codes ",\"rings\":["
    ++ flat_map (ring_after pair side) (range_with_len 0 own.queues) ++ codes "]}"

-- A text that got the members of a side one after another has grown by the side's object.
pub side_text : (pair : PairPlan) (side : Side) (own : SidePlan) (version queues windows : ℕ) (old t1 t2 t3 t4 t5 t6 t7 new : List ℕ) → own ≡ side_plan pair side →
    version ≡ own.version → queues ≡ own.queues → windows ≡ own.windows → t1 ≡ old ++ number_member (codes "{\"version\":") version →
    t2 ≡ t1 ++ number_member (codes ",\"queues\":") queues → t3 ≡ t2 ++ number_member (codes ",\"windows\":") windows → t4 ≡ t3 ++ number_member (codes ",\"size\":") own.size →
    t5 ≡ t4 ++ number_member (codes ",\"cap\":") own.cap → t6 ≡ t5 ++ codes ",\"rings\":[" →
    t7 ≡ t6 ++ flat_map (ring_after pair side) (range_with_len 0 own.queues) → new ≡ t7 ++ codes "]}" → new ≡ old ++ side_object pair side
side_text pair side own version queues windows old t1 t2 t3 t4 t5 t6 t7 new is of_version of_queues of_windows h1 h2 h3 h4 h5 h6 h7 h8 =
    let a = number_member (codes "{\"version\":") version in
    let b = number_member (codes ",\"queues\":") queues in
    let c = number_member (codes ",\"windows\":") windows in
    let d = number_member (codes ",\"size\":") own.size in
    let e = number_member (codes ",\"cap\":") own.cap in
    let f = codes ",\"rings\":[" in
    let g = flat_map (ring_after pair side) (range_with_len 0 own.queues) in
    let z = codes "]}" in
    let two = h2 ∙ ap (λ (t : List ℕ). t ++ b) h1 in
    let three = h3 ∙ ap (λ (t : List ℕ). t ++ c) two in
    let four = h4 ∙ ap (λ (t : List ℕ). t ++ d) three in
    let five = h5 ∙ ap (λ (t : List ℕ). t ++ e) four in
    let six = h6 ∙ ap (λ (t : List ℕ). t ++ f) five in
    let seven = h7 ∙ ap (λ (t : List ℕ). t ++ g) six in
    h8 ∙ ap (λ (t : List ℕ). t ++ z) seven ∙ eight old a b c d e f g z
    ∙ ap (λ (n : ℕ). old ++ members_of pair side own n queues windows) of_version
    ∙ ap (λ (n : ℕ). old ++ members_of pair side own own.version n windows) of_queues
    ∙ ap (λ (n : ℕ). old ++ members_of pair side own own.version own.queues n) of_windows
    ∙ ap (λ (plan : SidePlan). old ++ members_of pair side plan plan.version plan.queues plan.windows) is

-- A pair

fifteen : (t a b c d e f g h i j k l m n o : List ℕ) →
    ((((((((((((((t ++ a) ++ b) ++ c) ++ d) ++ e) ++ f) ++ g) ++ h) ++ i) ++ j) ++ k) ++ l) ++ m) ++ (n ++ o))
    ≡ t ++ ((((((((((((((a ++ b) ++ c) ++ d) ++ e) ++ f) ++ g) ++ h) ++ i) ++ j) ++ k) ++ l) ++ m) ++ n) ++ o)
fifteen t a b c d e f g h i j k l m n o = simp append_assoc

abbrev line_with : PairPlan → List ℕ → ℕ → ℕ → List ℕ
line_with pair name version mtu =
    (text_member (codes "{\"pair\":") name ++ codes ",\"up\":" ++ truth_text pair.up ++ codes ",\"strict\":" ++ truth_text pair.strict ++ codes ",\"raw\":" ++ truth_text pair.raw
    ++ number_member (codes ",\"version\":") version ++ number_member (codes ",\"mtu\":") mtu ++ codes ",\"A\":" ++ side_object pair A ++ codes ",\"B\":" ++ side_object pair B ++ codes "}")
    ++ 10 ∷ []

-- A text that got the members of a pair one after another has grown by the pair's line.
pub pair_text : (pair : PairPlan) (name : List ℕ) (version mtu : ℕ) (old t1 t2 t3 t4 t5 t6 t7 t8 t9 t10 new : List ℕ) → name ≡ pair.name → version ≡ agreed_version pair → mtu ≡ pair.mtu →
    t1 ≡ old ++ text_member (codes "{\"pair\":") name → t2 ≡ (t1 ++ codes ",\"up\":") ++ truth_text pair.up → t3 ≡ (t2 ++ codes ",\"strict\":") ++ truth_text pair.strict →
    t4 ≡ (t3 ++ codes ",\"raw\":") ++ truth_text pair.raw → t5 ≡ t4 ++ number_member (codes ",\"version\":") version → t6 ≡ t5 ++ number_member (codes ",\"mtu\":") mtu →
    t7 ≡ t6 ++ codes ",\"A\":" → t8 ≡ t7 ++ side_object pair A → t9 ≡ t8 ++ codes ",\"B\":" → t10 ≡ t9 ++ side_object pair B → new ≡ t10 ++ codes "}\n" →
    new ≡ old ++ trace_pair_line pair
pair_text pair name version mtu old t1 t2 t3 t4 t5 t6 t7 t8 t9 t10 new of_name of_version of_mtu h1 h2 h3 h4 h5 h6 h7 h8 h9 h10 h11 =
    let a = text_member (codes "{\"pair\":") name in
    let e = number_member (codes ",\"version\":") version in
    let f = number_member (codes ",\"mtu\":") mtu in
    let two = h2 ∙ ap (λ (t : List ℕ). (t ++ codes ",\"up\":") ++ truth_text pair.up) h1 in
    let three = h3 ∙ ap (λ (t : List ℕ). (t ++ codes ",\"strict\":") ++ truth_text pair.strict) two in
    let four = h4 ∙ ap (λ (t : List ℕ). (t ++ codes ",\"raw\":") ++ truth_text pair.raw) three in
    let five = h5 ∙ ap (λ (t : List ℕ). t ++ e) four in
    let six = h6 ∙ ap (λ (t : List ℕ). t ++ f) five in
    let seven = h7 ∙ ap (λ (t : List ℕ). t ++ codes ",\"A\":") six in
    let eighth = h8 ∙ ap (λ (t : List ℕ). t ++ side_object pair A) seven in
    let nine = h9 ∙ ap (λ (t : List ℕ). t ++ codes ",\"B\":") eighth in
    let ten = h10 ∙ ap (λ (t : List ℕ). t ++ side_object pair B) nine in
    h11 ∙ ap (λ (t : List ℕ). t ++ (codes "}" ++ 10 ∷ [])) ten
    ∙ fifteen old a (codes ",\"up\":") (truth_text pair.up) (codes ",\"strict\":") (truth_text pair.strict) (codes ",\"raw\":") (truth_text pair.raw) e f (codes ",\"A\":")
    (side_object pair A) (codes ",\"B\":") (side_object pair B) (codes "}") (10 ∷ [])
    ∙ ap (λ (n : List ℕ). old ++ line_with pair n version mtu) of_name
    ∙ ap (λ (n : ℕ). old ++ line_with pair pair.name n mtu) of_version
    ∙ ap (λ (n : ℕ). old ++ line_with pair pair.name (agreed_version pair) n) of_mtu
