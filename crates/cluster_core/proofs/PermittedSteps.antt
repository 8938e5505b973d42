-- What a plan permits its pairs and devices alone permit.
use Rattle.std.proofs.Common.{◌≡◌, ℕ, zero, suc, ◌+◌, ◌<◌, List, [], ◌∷◌, ◌++◌, ◌∙◌, append_assoc, length, replicate, ap, sym, subst, arith}
use Rattle.std.specs.List.{All}
use Rattle.std.proofs.lemmas.List.{get_or-append-add, get_or_append_left, length-append, map-append}
use Rattle.std.proofs.lemmas.List.Elements.{All-weaker}
use Rattle.pair_model.specs.PlanParts.{declared_part}
use Rattle.step_kinds.specs.declared.names.Side.{Side}
use Rattle.step_kinds.specs.declared.plan.Line.{Line}
use Rattle.step_kinds.specs.declared.plan.Plan.{Plan}
use Rattle.step_kinds.specs.declared.steps.Step.{Step}
use Rattle.step_kinds.specs.declared.steps.Step.TheVariants.{Ack, Clear, Copy, Look}
use Rattle.step_list.specs.Compact.{lines_with}
use Rattle.pair_model.specs.Switches.{IsMakeable}
use Rattle.pair_model.specs.Macros.{receive}
use Rattle.pair_model.proofs.Facade.{makeable_by_other}

-- a cluster that keeps a plan's pairs and devices may make the steps that the plan permits
pub steps_permitted : (plan kept : Plan) (lines : List Line) → kept ≡ declared_part plan → All (λ line. IsMakeable plan line.step) lines → All (λ line. IsMakeable kept line.step) lines
steps_permitted plan kept lines same all =
    subst (λ (kept : Plan). All (λ line. IsMakeable kept line.step) lines) (sym same)
    (All-weaker (λ (line : Line). IsMakeable plan line.step) (λ line. IsMakeable (declared_part plan) line.step) (λ line may. makeable_by_other plan [] [] line.step may) lines all)

-- a step that may be made again and again may be made once
pub again_permitted : (kept : Plan) (line count : ℕ) (step : Step) → 0 < count → All (λ line. IsMakeable kept line.step) (lines_with line (replicate count step)) → IsMakeable kept step
again_permitted kept line zero step some all = absurd (omega arith)
again_permitted kept line (suc count) step some all = all 0 (record { line = line; step = step }) (omega arith)

-- what holds of all items of a list holds of those of its parts
all_rest : {X : Type 0} (P : X → Type 0) (x : X) (xs : List X) → All P (x ∷ xs) → All P xs
all_rest P x xs all i d lt = all (suc i) d (omega arith)

all_front : {X : Type 0} (P : X → Type 0) (xs ys : List X) → All P (xs ++ ys) → All P xs
all_front P xs ys all i d lt =
    let size = length-append xs ys in
    subst P (get_or_append_left xs ys d i lt) (all i d (omega arith))

all_back : {X : Type 0} (P : X → Type 0) (xs ys : List X) → All P (xs ++ ys) → All P ys
all_back P xs ys all i d lt =
    let size = length-append xs ys in
    subst P (get_or-append-add xs ys i d) (all (length xs + i) d (omega arith))

-- the steps that receive a frame: a look, copies, a clear and an ack
pub lines_received : (line pair : ℕ) (side : Side) (queue copies : ℕ) →
    lines_with line (receive pair side queue copies)
    ≡ ((lines_with line (Look pair side queue ∷ []) ++ lines_with line (replicate copies (Copy pair side queue))) ++ lines_with line (Clear pair side queue ∷ [])) ++ lines_with line (Ack pair side queue ∷ [])
lines_received line pair side queue copies =
    let made : Step → Line = λ step. record { line = line; step = step } in
    let copied : List Line = lines_with line (replicate copies (Copy pair side queue)) in
    ap (λ (rest : List Line). made (Look pair side queue) ∷ rest)
    (map-append made (replicate copies (Copy pair side queue)) (Clear pair side queue ∷ Ack pair side queue ∷ [])
    ∙ sym (append_assoc copied (made (Clear pair side queue) ∷ []) (made (Ack pair side queue) ∷ [])))

-- If the steps that receive a frame may all be made, so may the look, each copy, the clear and the ack.
pub received_permitted : (kept : Plan) (line pair : ℕ) (side : Side) (queue copies : ℕ) → All (λ line. IsMakeable kept line.step) (lines_with line (receive pair side queue copies)) →
    IsMakeable kept (Look pair side queue) × All (λ line. IsMakeable kept line.step) (lines_with line (replicate copies (Copy pair side queue))) × IsMakeable kept (Clear pair side queue) × IsMakeable kept (Ack pair side queue)
received_permitted kept line pair side queue copies all =
    let P : Line → Type 0 = λ line. IsMakeable kept line.step in
    let made : Step → Line = λ step. record { line = line; step = step } in
    let copied : List Line = lines_with line (replicate copies (Copy pair side queue)) in
    let last : List Line = lines_with line (Clear pair side queue ∷ Ack pair side queue ∷ []) in
    let rest : All P (copied ++ last) =
    subst (All P) (map-append made (replicate copies (Copy pair side queue)) (Clear pair side queue ∷ Ack pair side queue ∷ [])) (all_rest P (made (Look pair side queue)) _ all) in
    let ends = all_back P copied last rest in
    (all 0 (made (Look pair side queue)) (omega arith), all_front P copied last rest, ends 0 (made (Look pair side queue)) (omega arith), ends 1 (made (Look pair side queue)) (omega arith))
