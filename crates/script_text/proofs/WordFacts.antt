-- What holds of the values that words give.
use Rattle.std.proofs.Common.{◌≡◌, ℕ, suc, ◌+◌, ◌*◌, ◌^◌, ◌<◌, ◌≤◌, ◌==◌, Bool, true, false, not, ◌||◌, cond, Option, Some, None, Result, Ok, Err, List, [], ◌∷◌, length, filter, nat_lt, refl, lit<, arith}
use Rattle.std.proofs.lemmas.Bool.{eqb-true, ltb-true, ltb-false, not-false, or_parts}
use Rattle.std.proofs.lemmas.List.{length-map}
use Rattle.std.specs.Option.{option_map}
use Rattle.std.specs.Result.{result_ok}
use Rattle.std.specs.Str.{bytes_eq}
use Rattle.hex.specs.Hex.{IsBytes, decode_of}
use Rattle.hex.specs.declared.error.FromHexError.{FromHexError}
use Rattle.hex.proofs.HexLemmas.{decode_of-ok}
use Rattle.step_kinds.specs.declared.names.Side.{Side}
use Rattle.pair_model.specs.DeclaredPlans.{IsQueueOf}
use Rattle.pair_model.specs.Plans.{side_plan, pair_plan}
use Rattle.script_words.specs.Before.{Before, number_named, has_name, pair_names, dev_names, switch_names, pair_word, dev_word, switch_word, queue_word, named_side, named_queue}
use Rattle.script_words.specs.Declarations.{new_name}
use Rattle.script_words.specs.Tests.{found_or, at}
use Rattle.script_words.specs.Words.{name_word, side_word, number_word, number_between, word_number_in, hex_word, hex_of, kind_word, high_low, is_filled}
use Rattle.script_words.specs.declared.fault.Cause.TheVariants.{BadNumber, BadHex, Repeated, UnknownName}
use Rattle.script_text.specs.SoundLines.{Filled}
use Rattle.script_text.proofs.Gives.{Gives, gives_ok, gives_then, gives_passed, gives_found, gives_any, gives_at, gives_within}

-- Words have bytes

-- Each of the parts that remain when the empty ones are left out has a byte.
pub filter_filled : (parts : List (List ℕ)) → Filled (filter is_filled parts)
filter_filled [] = tt
filter_filled ([] ∷ parts) = filter_filled parts
filter_filled ((b ∷ word) ∷ parts) = (omega arith, filter_filled parts)

-- Names

-- If the test that one number isn't below another fails, it is below it.
pub below : (a b : ℕ) → not (nat_lt a b) ≡ false → a < b
below a b e = ltb-true a b (not-false (nat_lt a b) e)

one_up : (option : Option ℕ) (n k : ℕ) → ((m : ℕ) → option ≡ Some m → m < k) → option_map (λ j. j + 1) option ≡ Some n → n < suc k
one_up None n k lower e = cc e
one_up (Some m) n k lower e = let lt : m < k = lower m refl in let same : m + 1 ≡ n = cc in omega arith

first_or_later : (test : Bool) (names : List (List ℕ)) (name : List ℕ) (n : ℕ) → ((m : ℕ) → number_named names name ≡ Some m → m < length names)
    → cond test (Some 0) (option_map (λ j. j + 1) (number_named names name)) ≡ Some n → n < suc (length names)
first_or_later true names name n lower e = let same : 0 ≡ n = cc in omega arith
first_or_later false names name n lower e = one_up (number_named names name) n (length names) lower e

number_named_below : (names : List (List ℕ)) (name : List ℕ) (n : ℕ) → number_named names name ≡ Some n → n < length names
number_named_below [] name n e = cc e
number_named_below (first ∷ names) name n e = first_or_later (bytes_eq first name) names name n (number_named_below names name) e

found_below : (names : List (List ℕ)) (name : List ℕ) (n : ℕ) → found_or (number_named names name) UnknownName ≡ Ok n → n < length names
found_below names name n e = number_named_below names name n ((gives_found (number_named names name) UnknownName).holds n e)

-- A word that is taken as a pair's name gives the number of a declared pair.
pub pair_declared : (before : Before) (word : List ℕ) → Gives (λ pair. pair < length before.plan.pairs) (pair_word before word)
pair_declared before word =
    gives_then _ _ _ (gives_any (name_word word)) (λ name _. record {
      holds = λ n e. let lt : n < length (pair_names before) = found_below (pair_names before) name n e in let same = length-map before.plan.pairs (λ pair. pair.name) in omega arith;
    })

-- A word that is taken as a device's name gives the number of a declared device.
pub dev_declared : (before : Before) (word : List ℕ) → Gives (λ dev. dev < length before.plan.devs) (dev_word before word)
dev_declared before word =
    gives_then _ _ _ (gives_any (name_word word)) (λ name _. record {
      holds = λ n e. let lt : n < length (dev_names before) = found_below (dev_names before) name n e in let same = length-map before.plan.devs (λ dev. dev.name) in omega arith;
    })

-- A word that is taken as a switch's name gives the number of a declared switch.
pub switch_declared : (before : Before) (word : List ℕ) → Gives (λ switch. switch < length before.plan.switches) (switch_word before word)
switch_declared before word =
    gives_then _ _ _ (gives_any (name_word word)) (λ name _. record {
      holds = λ n e. let lt : n < length (switch_names before) = found_below (switch_names before) name n e in let same = length-map before.plan.switches (λ switch. switch.name) in omega arith;
    })

queue_among : (before : Before) (pair : ℕ) (side : Side) (word : List ℕ) → Gives (λ queue. queue < (side_plan (pair_plan before.plan pair) side).queues) (queue_word before pair side word)
queue_among before pair side word =
    gives_then _ _ _ (gives_any (number_word word)) (λ queue _.
    gives_then _ _ _ (gives_passed (not (nat_lt queue (side_plan (pair_plan before.plan pair) side).queues)) UnknownName) (λ _ e.
    gives_ok _ queue (below queue (side_plan (pair_plan before.plan pair) side).queues e)))

-- Two words that are taken as a side of a pair give a pair that is declared.
pub side_declared : (before : Before) (n : ℕ) (pair_text side_text : List ℕ) → Gives (λ name. name.pair < length before.plan.pairs) (named_side before n pair_text side_text)
side_declared before n pair_text side_text =
    gives_then _ _ _ (gives_at _ n _ (pair_declared before pair_text)) (λ pair lt.
    gives_then _ _ _ (gives_any (at (n + 1) (side_word side_text))) (λ side _. gives_ok _ (record { pair = pair; side = side }) lt))

-- Three words that are taken as a queue give a declared pair and a queue that the named side of it has.
pub queue_declared : (before : Before) (n : ℕ) (pair_text side_text queue_text : List ℕ)
    → Gives (λ name. IsQueueOf before.plan name.pair name.side name.queue) (named_queue before n pair_text side_text queue_text)
queue_declared before n pair_text side_text queue_text =
    gives_then _ _ _ (side_declared before n pair_text side_text) (λ name lt.
    gives_then _ _ _ (gives_at _ (n + 2) _ (queue_among before name.pair name.side queue_text)) (λ queue among.
    gives_ok _ (record { pair = name.pair; side = name.side; queue = queue }) (record { declared = lt; among = among })))

-- A word that is taken as a new name gives a name that none of those declared before has.
pub name_is_new : (names : List (List ℕ)) (word : List ℕ) → Gives (λ name. has_name names name ≡ false) (new_name names word)
name_is_new names word =
    gives_then _ _ _ (gives_any (name_word word)) (λ name _.
    gives_then _ _ _ (gives_passed (has_name names name) Repeated) (λ _ e. gives_ok _ name e))

-- Numbers

number_within : (least most : ℕ) (word : List ℕ) → Gives (λ n. (least ≤ n) × (n ≤ most)) (number_between least most word)
number_within least most word =
    gives_then _ _ _ (gives_any (number_word word)) (λ n _.
    gives_then _ _ _ (gives_passed (nat_lt n least || nat_lt most n) BadNumber) (λ _ e.
    let parts = or_parts (nat_lt n least) (nat_lt most n) e in
    gives_ok (λ k. (least ≤ k) × (k ≤ most)) n (ltb-false n least parts.0, ltb-false most n parts.1)))

-- A word that is taken as a number of a range gives a number from the range's least to its most.
pub number_ranged : (n least most : ℕ) (word : List ℕ) → Gives (λ k. (least ≤ k) × (k ≤ most)) (word_number_in n least most word)
number_ranged n least most word = gives_within _ n least most _ (number_within least most word)

-- Bytes

-- If a decoding, its error told as a bad hex word, gives some bytes, the decoding itself gave them.
pub spelled : (result : Result (List ℕ) FromHexError) (bytes : List ℕ) → found_or (result_ok result) BadHex ≡ Ok bytes → result ≡ Ok bytes
spelled (Ok found) bytes e = let same : found ≡ bytes = cc in rw same refl
spelled (Err error) bytes e = cc e

-- A word that has a byte and is taken as hexadecimal digits gives at least one byte.
pub bytes_spelled : (word : List ℕ) → 0 < length word → Gives (λ bytes. 0 < length bytes) (hex_word word)
bytes_spelled word some = record {
  holds = λ bytes e. let ok = decode_of-ok word bytes (spelled (decode_of word) bytes e) in let twice : length word ≡ 2 * length bytes = ok.2 in omega arith;
}

-- A word that is taken as this many bytes in hexadecimal digits gives exactly that many.
pub bytes_counted : (count : ℕ) (word : List ℕ) → Gives (λ bytes. length bytes ≡ count) (hex_of count word)
bytes_counted count word =
    gives_then _ _ _ (gives_any (hex_word word)) (λ bytes _.
    gives_then _ _ _ (gives_passed (not (length bytes == count)) BadHex) (λ _ e. gives_ok _ bytes (eqb-true (length bytes) count (not-false (length bytes == count) e))))

small_kind : (bytes : List ℕ) → IsBytes bytes → high_low bytes < 2 ^ 16
small_kind [] h = lit< tt
small_kind (a ∷ []) h = lit< tt
small_kind (a ∷ b ∷ bytes) h = let high : a < 256 = h 0 in let low : b < 256 = h 1 in omega arith

bytes_are : (count : ℕ) (word : List ℕ) → Gives IsBytes (hex_of count word)
bytes_are count word =
    gives_then {P = IsBytes} _ _ _ (record { holds = λ bytes e. (decode_of-ok word bytes (spelled (decode_of word) bytes e)).3 }) (λ bytes are.
    gives_then _ _ _ (gives_passed (not (length bytes == count)) BadHex) (λ _ e. gives_ok _ bytes are))

-- A word that is taken as the kind of an Ethernet frame gives a number below 2^16.
pub kind_is_small : (word : List ℕ) → Gives (λ kind. kind < 2 ^ 16) (kind_word word)
kind_is_small word = gives_then _ _ _ (bytes_are 2 word) (λ bytes are. gives_ok _ (high_low bytes) (small_kind bytes are))
