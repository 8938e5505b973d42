-- The texts of labels and answers: a word, and then its numbers and what it ends with. Numbers are decimal, bytes
-- lower-case hexadecimal.
use Rattle.std.specs.Prelude.{ℕ, List, [], ◌∷◌, ◌++◌, codes}
use Rattle.std.specs.Fmt.{decimal}
use Rattle.std.specs.List.{flat_map}
use Rattle.hex.specs.Hex.{encode_lower}
use Rattle.step_kinds.specs.Shapes.{ShapeSeen, answer_bytes, answer_shape, label_shape}
use Rattle.step_kinds.specs.declared.shapes.Numbers.{Numbers}
use Rattle.step_kinds.specs.declared.shapes.Numbers.TheVariants as are
use Rattle.step_kinds.specs.declared.shapes.ShapeEnd.{ShapeEnd}
use Rattle.step_kinds.specs.declared.shapes.ShapeEnd.TheVariants as ends
use Rattle.step_kinds.specs.declared.steps.Answer.{Answer}
use Rattle.step_kinds.specs.declared.steps.Label.{Label}

-- numbers, each after a space
abbrev pub numbers_text : List ℕ → List ℕ
numbers_text numbers = flat_map (λ n. 32 ∷ decimal n) numbers

-- the numbers without their names
abbrev pub values_of : Numbers → List ℕ
values_of are.None = []
values_of (are.One first) = first.value ∷ []
values_of (are.Two first second) = first.value ∷ second.value ∷ []
values_of (are.Three first second third) = first.value ∷ second.value ∷ third.value ∷ []

-- a word and its numbers
abbrev pub word_and_numbers : List ℕ → List ℕ → List ℕ
word_and_numbers word numbers = word ++ numbers_text numbers

-- those of a shape
abbrev pub shape_text : ShapeSeen → List ℕ
shape_text shape = word_and_numbers shape.word (values_of shape.numbers)

abbrev pub label_text : Label → List ℕ
label_text label = shape_text (label_shape label)

-- the bytes of a frame; one without bytes has a dash in their place
abbrev pub frame_text : List ℕ → List ℕ
frame_text [] = codes "-"
frame_text (b ∷ bytes) = encode_lower (b ∷ bytes)

-- what stands behind the numbers: a label, a dash where there is none, or the space before bytes
abbrev pub end_text : ShapeEnd → List ℕ
end_text ends.Nothing = []
end_text (ends.Label label) = codes " " ++ label_text label
end_text ends.NoLabel = codes " -"
end_text ends.Frame = codes " "
end_text ends.Bytes = codes " "

-- the bytes at such an end
abbrev pub end_bytes : ShapeEnd → List ℕ → List ℕ
end_bytes ends.Nothing bytes = []
end_bytes (ends.Label label) bytes = []
end_bytes ends.NoLabel bytes = []
end_bytes ends.Frame bytes = frame_text bytes
end_bytes ends.Bytes bytes = encode_lower bytes

-- the text of an answer before the bytes that it ends with
abbrev pub start_text : Answer → List ℕ
start_text answer = shape_text (answer_shape answer) ++ end_text (answer_shape answer).end

-- these bytes
abbrev pub bytes_text : Answer → List ℕ
bytes_text answer = end_bytes (answer_shape answer).end (answer_bytes answer)

abbrev pub answer_text : Answer → List ℕ
answer_text answer = start_text answer ++ bytes_text answer
