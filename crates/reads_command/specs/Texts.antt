-- The texts of answers: a word, and then its numbers and bytes. Numbers are decimal, bytes lower-case hexadecimal.
use Rattle.std.specs.Prelude.{ℕ, List, [], ◌∷◌, ◌++◌, Option, Some, None, codes}
use Rattle.hex.specs.Hex.{encode_lower}
use Rattle.pair_model.specs.declared.LinkRefusal.{LinkRefusal}
use Rattle.pair_model.specs.declared.LinkRefusal.TheVariants.{NotDown, Dirty, NotEnabled, NotUp, NotClosing, SessionsSpent}
use Rattle.report_text.specs.Texts.{word_and_numbers}
use Rattle.read_path.specs.declared.steps.PathAnswer.{PathAnswer}
use Rattle.read_path.specs.declared.steps.PathAnswer.TheVariants.{Wrote, Asked, Landed, Shown, Linked}
use Rattle.read_path.specs.declared.steps.PostAnswer.{PostAnswer}
use Rattle.read_path.specs.declared.steps.PostAnswer.TheVariants.{Ok as PostOk, LinkDown as PostLinkDown}
use Rattle.read_path.specs.declared.steps.ReadAnswer.{ReadAnswer}
use Rattle.read_path.specs.declared.steps.ReadAnswer.TheVariants.{Posted, LinkDown as ReadLinkDown}
use Rattle.read_path.specs.declared.steps.PathLand.{PathLand}
use Rattle.read_path.specs.declared.steps.PathLand.TheVariants.{Nothing, Blocked, Write, Request, Part, Whole}

abbrev pub post_text : PostAnswer → List ℕ
post_text PostOk = codes "ok"
post_text PostLinkDown = codes "linkdown"

abbrev pub read_text : ReadAnswer → List ℕ
read_text (Posted number) = word_and_numbers (codes "read") (number ∷ [])
read_text ReadLinkDown = codes "linkdown"

abbrev pub reads_land_text : PathLand → List ℕ
reads_land_text Nothing = codes "nothing"
reads_land_text Blocked = codes "blocked"
reads_land_text (Write at len) = word_and_numbers (codes "landed write") (at ∷ len ∷ [])
reads_land_text (Request number) = word_and_numbers (codes "landed read") (number ∷ [])
reads_land_text (Part number part) = word_and_numbers (codes "part") (number ∷ part ∷ [])
reads_land_text (Whole number bytes) = word_and_numbers (codes "data") (number ∷ []) ++ 32 ∷ encode_lower bytes

-- a relink cleans and enables both sides, so the last two never come
abbrev pub refusal_text : LinkRefusal → List ℕ
refusal_text NotUp = codes "notup"
refusal_text NotClosing = codes "notclosing"
refusal_text NotDown = codes "notdown"
refusal_text SessionsSpent = codes "spent"
refusal_text Dirty = codes "dirty"
refusal_text NotEnabled = codes "notenabled"

abbrev pub link_text : Option LinkRefusal → List ℕ
link_text None = codes "ok"
link_text (Some refusal) = refusal_text refusal

abbrev pub reads_answer_text : PathAnswer → List ℕ
reads_answer_text (Wrote answer) = post_text answer
reads_answer_text (Asked answer) = read_text answer
reads_answer_text (Landed answer) = reads_land_text answer
reads_answer_text (Shown bytes) = codes "mem " ++ encode_lower bytes
reads_answer_text (Linked refusal) = link_text refusal
