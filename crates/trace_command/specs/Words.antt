-- Members of a JSON object. Each text stands as it is written; names of a script are letters and digits, so no text has
-- to be escaped.
use Rattle.std.specs.Prelude.{ℕ, ◌^◌, Bool, true, false, List, [], ◌∷◌, ◌++◌, codes, nat_lt, if◌then◌else◌}
use Rattle.std.specs.Fmt.{decimal}
use Rattle.std.specs.List.{flat_map}
use Rattle.hex.specs.Hex.{encode_lower}
use Rattle.step_kinds.specs.Shapes.{label_shape}
use Rattle.step_kinds.specs.declared.shapes.NamedNumber.{NamedNumber}
use Rattle.step_kinds.specs.declared.shapes.NumberName.{NumberName}
use Rattle.step_kinds.specs.declared.shapes.NumberName.TheVariants as name
use Rattle.step_kinds.specs.declared.shapes.Numbers.{Numbers}
use Rattle.step_kinds.specs.declared.shapes.Numbers.TheVariants as are
use Rattle.step_kinds.specs.declared.steps.Label.{Label}

-- A member after another: its name stands with the comma and the colon, as in `,"queue":`.

unfoldable pub number_member : List ℕ → ℕ → List ℕ
number_member name n = name ++ decimal n

-- a text within quotation marks
unfoldable pub text_member : List ℕ → List ℕ → List ℕ
text_member name text = name ++ 34 ∷ text ++ 34 ∷ []

-- below this each reader of JSON has a number exactly
abbrev pub exact_numbers : ℕ
exact_numbers = 2 ^ 53

-- a number that may be larger: from there on its digits stand within quotation marks
abbrev pub wide_member : List ℕ → ℕ → List ℕ
wide_member name n = if nat_lt n exact_numbers then number_member name n else text_member name (decimal n)

-- bytes, as hexadecimal digits within quotation marks
abbrev pub bytes_member : List ℕ → List ℕ → List ℕ
bytes_member name bytes = text_member name (encode_lower bytes)

-- the members after the first of a list, each after a comma
abbrev pub more_numbers : List ℕ → List ℕ
more_numbers numbers = flat_map (λ n. 44 ∷ decimal n) numbers

-- the members of a list, a comma between any two
abbrev pub separated : List ℕ → List ℕ
separated [] = []
separated (n ∷ numbers) = decimal n ++ more_numbers numbers

-- a list of numbers
unfoldable pub numbers_list : List ℕ → List ℕ
numbers_list numbers = codes "[" ++ separated numbers ++ codes "]"

-- an object of a name, and the members after it
abbrev pub named_object : List ℕ → List ℕ → List ℕ
named_object name members = codes "{\"name\":\"" ++ name ++ codes "\"" ++ members ++ codes "}"

-- the name of a number of an answer or of a label
abbrev pub number_name : NumberName → List ℕ
number_name name.Bits = codes ",\"bits\":"
number_name name.Cap = codes ",\"cap\":"
number_name name.Count = codes ",\"count\":"
number_name name.Head = codes ",\"head\":"
number_name name.Index = codes ",\"index\":"
number_name name.Len = codes ",\"len\":"
number_name name.Max = codes ",\"max\":"
number_name name.Number = codes ",\"number\":"
number_name name.Offset = codes ",\"offset\":"
number_name name.Own = codes ",\"own\":"
number_name name.Part = codes ",\"part\":"
number_name name.Port = codes ",\"port\":"
number_name name.Queue = codes ",\"queue\":"
number_name name.Seen = codes ",\"seen\":"
number_name name.SeenSize = codes ",\"seen\":"
number_name name.Session = codes ",\"session\":"
number_name name.Tail = codes ",\"tail\":"
number_name name.Value = codes ",\"value\":"
number_name name.Window = codes ",\"window\":"

-- is it a number that may be larger?
abbrev pub is_wide : NumberName → Bool
is_wide name.SeenSize = true
is_wide other = false

-- a number with its name
abbrev pub named_member : NamedNumber → List ℕ
named_member number = if is_wide number.name then wide_member (number_name number.name) number.value else number_member (number_name number.name) number.value

abbrev pub named_members : Numbers → List ℕ
named_members are.None = []
named_members (are.One first) = named_member first
named_members (are.Two first second) = named_member first ++ named_member second
named_members (are.Three first second third) = named_member first ++ named_member second ++ named_member third

abbrev pub label_object : Label → List ℕ
label_object label = named_object (label_shape label).word (named_members (label_shape label).numbers)

abbrev pub truth_text : Bool → List ℕ
truth_text true = codes "true"
truth_text false = codes "false"
