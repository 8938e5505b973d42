-- Parts of lists from the front.
use Rattle.std.specs.Prelude.{◌≡◌, List, ◌++◌}

-- the first list begins the second
abbrev pub Begins : {X : Type 0} → List X → List X → Type 0
Begins {X} front whole = (rest : List X) × (whole ≡ front ++ rest)
