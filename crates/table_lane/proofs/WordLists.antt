-- Reading and writing one word of a table.
use Rattle.std.proofs.Common.{◌≡◌, ℕ, ◌+◌, ◌*◌, ◌-◌, ◌%◌, ◌<◌, ◌≤◌, List, [], ◌∷◌, ◌++◌, length, set, get_or, refl, ap, ◌∙◌, arith, mod-lt, mod-eq_of_lt, sym, length-set, length-append, replicate}
use Rattle.std.proofs.lemmas.List.{get_or_append_left, get_or-append_right, set-append_left, set-append_right, replicate-append-replicate, length-replicate}
use Rattle.table_lane.specs.LaneNames.{tail_of}
use Rattle.table_lane.specs.Words.{Words, first_words, spacing, spaced, table_words_of, words_in, AreSized, posted_word, header_word, flag_word, index_out_word, index_word, link_word}

right_at : {A : Type 0} (xs ys : List A) (n i k : ℕ) (d : A) → length xs ≡ n → i ≡ n + k → get_or (xs ++ ys) i d ≡ get_or ys k d
right_at xs ys n i k d long is = get_or-append_right xs ys n i d long (omega arith) ∙ ap (λ j. get_or ys j d) (let e : i - n ≡ k = omega arith in e)

set_right_at : {A : Type 0} (xs ys : List A) (n i k : ℕ) (a : A) → length xs ≡ n → i ≡ n + k → set (xs ++ ys) i a ≡ xs ++ set ys k a
set_right_at xs ys n i k a long is = set-append_right xs ys n i a long (omega arith) ∙ ap (λ j. xs ++ set ys j a) (let e : i - n ≡ k = omega arith in e)

-- a list of words with those after it that nobody reads
length-spaced : (xs : List ℕ) (n : ℕ) → length xs ≡ n → length (spaced xs) ≡ n + spacing
length-spaced xs n long = length-append xs (replicate spacing 0) ∙ ap (λ k. k + spacing) long

get_or-spaced : (xs ys : List ℕ) (n k : ℕ) → length xs ≡ n → k < n → get_or (spaced xs ++ ys) k 0 ≡ get_or xs k 0
get_or-spaced xs ys n k long below = get_or_append_left (spaced xs) ys 0 k (omega (arith, length-spaced xs n long)) ∙ get_or_append_left xs (replicate spacing 0) 0 k (omega (arith, long))

set-spaced : (xs ys : List ℕ) (n k a : ℕ) → length xs ≡ n → k < n → set (spaced xs ++ ys) k a ≡ spaced (set xs k a) ++ ys
set-spaced xs ys n k a long below = set-append_left (spaced xs) ys k a (omega (arith, length-spaced xs n long)) ∙ ap (λ zs. zs ++ ys) (set-append_left xs (replicate spacing 0) k a (omega (arith, long)))

-- one word of a table is stored, and the words lie as before
pub record Stores (N : ℕ) (before : Words) (i word : ℕ) (after : Words) : Type 0 where
  pub words : set (table_words_of before) i word ≡ table_words_of after
  pub sized : AreSized N after

module _ (N : ℕ) (w : Words) (sized : AreSized N w) (two : 2 ≤ N) where
  within : (n : ℕ) → n % N < N
  within n = mod-lt n (omega arith)

  -- the words after the posted headers, after the headers, and after the flags
  abbrev last : List ℕ
  last = spaced (w.index_out ∷ []) ++ (spaced (w.index ∷ []) ++ spaced (w.link ∷ []))

  abbrev from_flags : List ℕ
  from_flags = spaced w.flags ++ last

  abbrev from_headers : List ℕ
  from_headers = spaced w.headers ++ from_flags

  -- how many words the areas before have
  abbrev area : ℕ
  area = N + spacing

  at_headers : (i k : ℕ) → i ≡ area + k → get_or (table_words_of w) i 0 ≡ get_or from_headers k 0
  at_headers i k is = right_at (spaced w.posted) from_headers area i k 0 (length-spaced w.posted N sized.posted) is

  at_flags : (i k : ℕ) → i ≡ area + (area + k) → get_or (table_words_of w) i 0 ≡ get_or from_flags k 0
  at_flags i k is = at_headers i (area + k) is ∙ right_at (spaced w.headers) from_flags area (area + k) k 0 (length-spaced w.headers N sized.headers) refl

  at_last : (i k : ℕ) → i ≡ area + (area + (area + k)) → get_or (table_words_of w) i 0 ≡ get_or last k 0
  at_last i k is = at_flags i (area + k) is ∙ right_at (spaced w.flags) last area (area + k) k 0 (length-spaced w.flags N sized.flags) refl

  set_headers : (i k x : ℕ) → i ≡ area + k → set (table_words_of w) i x ≡ spaced w.posted ++ set from_headers k x
  set_headers i k x is = set_right_at (spaced w.posted) from_headers area i k x (length-spaced w.posted N sized.posted) is

  set_flags : (i k x : ℕ) → i ≡ area + (area + k) → set (table_words_of w) i x ≡ spaced w.posted ++ (spaced w.headers ++ set from_flags k x)
  set_flags i k x is =
      set_headers i (area + k) x is ∙ ap (λ ws. spaced w.posted ++ ws) (set_right_at (spaced w.headers) from_flags area (area + k) k x (length-spaced w.headers N sized.headers) refl)

  set_last : (i k x : ℕ) → i ≡ area + (area + (area + k)) → set (table_words_of w) i x ≡ spaced w.posted ++ (spaced w.headers ++ (spaced w.flags ++ set last k x))
  set_last i k x is =
      set_flags i (area + k) x is ∙ ap (λ ws. spaced w.posted ++ (spaced w.headers ++ ws)) (set_right_at (spaced w.flags) last area (area + k) k x (length-spaced w.flags N sized.flags) refl)

  pub posted_at : (n : ℕ) → get_or (table_words_of w) (posted_word N n) 0 ≡ get_or w.posted (n % N) 0
  posted_at n = get_or-spaced w.posted from_headers N (n % N) sized.posted (within n)

  pub header_at : (n : ℕ) → get_or (table_words_of w) (header_word N n) 0 ≡ get_or w.headers (n % N) 0
  header_at n = at_headers (header_word N n) (n % N) refl ∙ get_or-spaced w.headers from_flags N (n % N) sized.headers (within n)

  pub flag_at : (n : ℕ) → get_or (table_words_of w) (flag_word N n) 0 ≡ get_or w.flags (n % N) 0
  flag_at n = at_flags (flag_word N n) (n % N) (omega arith) ∙ get_or-spaced w.flags last N (n % N) sized.flags (within n)

  pub index_out_at : get_or (table_words_of w) (index_out_word N) 0 ≡ w.index_out
  index_out_at = at_last (index_out_word N) 0 (omega arith)

  pub index_at : get_or (table_words_of w) (index_word N) 0 ≡ w.index
  index_at = at_last (index_word N) (1 + spacing) (omega arith)

  pub link_at : get_or (table_words_of w) (link_word N) 0 ≡ w.link
  link_at = at_last (link_word N) (2 * (1 + spacing)) (omega arith)

  pub set_posted : (n x : ℕ) → Stores N w (posted_word N n) x (record w { posted = set w.posted (n % N) x })
  set_posted n x = record { words = set-spaced w.posted from_headers N (n % N) x sized.posted (within n); sized = assumption (length-set w.posted (n % N) x ∙ sized.posted) }

  pub set_header : (n x : ℕ) → Stores N w (header_word N n) x (record w { headers = set w.headers (n % N) x })
  set_header n x = record {
    words = set_headers (header_word N n) (n % N) x refl ∙ ap (λ ws. spaced w.posted ++ ws) (set-spaced w.headers from_flags N (n % N) x sized.headers (within n));
    sized = assumption (length-set w.headers (n % N) x ∙ sized.headers);
  }

  pub set_flag : (n x : ℕ) → Stores N w (flag_word N n) x (record w { flags = set w.flags (n % N) x })
  set_flag n x = record {
    words = set_flags (flag_word N n) (n % N) x (omega arith) ∙ ap (λ ws. spaced w.posted ++ (spaced w.headers ++ ws)) (set-spaced w.flags last N (n % N) x sized.flags (within n));
    sized = assumption (length-set w.flags (n % N) x ∙ sized.flags);
  }

  pub set_index_out : (x : ℕ) → Stores N w (index_out_word N) x (record w { index_out = x })
  set_index_out x = record { words = set_last (index_out_word N) 0 x (omega arith); sized = assumption }

  pub set_index : (x : ℕ) → Stores N w (index_word N) x (record w { index = x })
  set_index x = record { words = set_last (index_word N) (1 + spacing) x (omega arith); sized = assumption }

  pub set_link : (x : ℕ) → Stores N w (link_word N) x (record w { link = x })
  set_link x = record { words = set_last (link_word N) (2 * (1 + spacing)) x (omega arith); sized = assumption }

-- zeros, and zeros that nobody reads after them
zeros_spaced : (n : ℕ) → spaced (replicate n 0) ≡ replicate (n + spacing) 0
zeros_spaced n = replicate-append-replicate n spacing 0

-- words that are all 0
abbrev pub zero_words : ℕ → Words
zero_words N = record { posted = replicate N 0; headers = replicate N 0; flags = replicate N 0; index_out = 0; index = 0; link = 0 }

-- This many zeros as a table has words are words of a table, all 0.
pub zeros_lie : (N : ℕ) → replicate (words_in N) 0 ≡ table_words_of (zero_words N)
zeros_lie N =
    let area : ℕ = N + spacing in
    let rest : ℕ = 3 * (1 + spacing) in
    let zeros : ℕ → List ℕ = λ n. replicate n 0 in
    let split : words_in N ≡ area + (area + (area + rest)) = omega arith in
    let join : (xs : List ℕ) (n : ℕ) → xs ≡ zeros n → spaced (zeros N) ++ xs ≡ zeros (area + n) = λ xs n is. (λ i. zeros_spaced N i ++ is i) ∙ replicate-append-replicate area n 0 in
    ap zeros split ∙ sym (join _ (area + (area + rest)) (join _ (area + rest) (join _ rest refl)))

-- with both indices at the last position they are those of a new table
pub first_lie : (N last : ℕ) → 2 ≤ N → last ≡ N - 1 → set (set (replicate (words_in N) 0) (index_out_word N) last) (index_word N) last ≡ table_words_of (first_words N)
first_lie N last two is =
    let zeros : AreSized N (zero_words N) = record { posted = length-replicate N 0; headers = length-replicate N 0; flags = length-replicate N 0 } in
    let outward = set_index_out N (zero_words N) zeros two last in
    let homeward = set_index N (record (zero_words N) { index_out = last }) outward.sized two last in
    let same : 0 + N - 1 ≡ last = omega arith in
    let tail : last ≡ tail_of N 0 = sym (ap (λ n. n % N) same ∙ mod-eq_of_lt (omega arith)) in
    ap (λ ws. set (set ws (index_out_word N) last) (index_word N) last) (zeros_lie N) ∙ ap (λ ws. set ws (index_word N) last) outward.words ∙ homeward.words
    ∙ (λ i. table_words_of (record (zero_words N) { index_out = tail i; index = tail i }))
