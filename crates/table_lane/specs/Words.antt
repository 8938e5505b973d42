-- The words of a table with N positions: three for each position, three for the lane, and others between them.
use Rattle.std.specs.Prelude.{◌≡◌, ℕ, ◌+◌, ◌*◌, ◌%◌, ◌^◌, List, [], ◌∷◌, ◌++◌, length, replicate}
use Rattle.table_lane.specs.LaneNames.{tail_of, version_of}

pub record Words : Type 0 where
  -- by position, what the sender stored: `header_of` the newest entry there, and 0 where none was sent
  pub posted : List ℕ
  -- by position, what the mover stored: `header_of` the newest entry there, and 0 where none was moved
  pub headers : List ℕ
  -- by position, 1 where an entry stands whole
  pub flags : List ℕ
  -- the position of the last entry that the receiver gave back, and of the last one that the sender was given back
  pub index_out : ℕ
  pub index : ℕ
  -- 1 once the link is cut
  pub link : ℕ

-- how many words that nobody reads follow each list of words and each single word: what different workers store and
-- load then lies on cache lines of its own
abbrev pub spacing : ℕ
spacing = 15

abbrev pub spaced : List ℕ → List ℕ
spaced words = words ++ replicate spacing 0

-- how they lie in the table
abbrev pub table_words_of : Words → List ℕ
table_words_of words = spaced words.posted ++ (spaced words.headers ++ (spaced words.flags ++ (spaced (words.index_out ∷ []) ++ (spaced (words.index ∷ []) ++ spaced (words.link ∷ [])))))

-- the numbers of the words
abbrev pub posted_word : ℕ → ℕ → ℕ
posted_word N n = n % N

abbrev pub header_word : ℕ → ℕ → ℕ
header_word N n = N + spacing + n % N

abbrev pub flag_word : ℕ → ℕ → ℕ
flag_word N n = 2 * (N + spacing) + n % N

abbrev pub index_out_word : ℕ → ℕ
index_out_word N = 3 * (N + spacing)

abbrev pub index_word : ℕ → ℕ
index_word N = index_out_word N + (1 + spacing)

abbrev pub link_word : ℕ → ℕ
link_word N = index_word N + (1 + spacing)

abbrev pub words_in : ℕ → ℕ
words_in N = link_word N + (1 + spacing)

-- the header of entry n: its version, with a bit above that tells it from a word that was never stored
abbrev pub table_header_of : ℕ → ℕ
table_header_of n = 2 ^ 32 + version_of n

-- the link word
abbrev pub cut_word : ℕ
cut_word = 1

pub record AreSized (N : ℕ) (words : Words) : Type 0 where
  pub posted : length words.posted ≡ N
  pub headers : length words.headers ≡ N
  pub flags : length words.flags ≡ N

-- the words of a new table
abbrev pub first_words : ℕ → Words
first_words N = record { posted = replicate N 0; headers = replicate N 0; flags = replicate N 0; index_out = tail_of N 0; index = tail_of N 0; link = 0 }
