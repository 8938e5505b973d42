-- The entries of a frame under way, how many writes they take, and how many are left.
use Rattle.std.proofs.Common.{◌≡◌, ◌∙◌, ℕ, zero, suc, ◌+◌, ◌-◌, ◌*◌, ◌<◌, ◌≤◌, ◌==◌, ◌||◌, not, Option, Some, None, List, [], ◌∷◌, ◌++◌, length, take, drop, refl, sym, ap, arith}
use Rattle.std.specs.Option.{is_some}
use Rattle.std.proofs.lemmas.Bool.Decides.{nat_tests}
use Rattle.std.proofs.lemmas.List.{drop_more, get_or-map, length-append, length-drop, length-map, length-take}
use Rattle.lane_model.specs.Lane.{Entry, GoesDown, bytes_of, chunks_in, count_from, left_of, writes_of}
use Rattle.lane_model.specs.Tests.{is_empty_list}
use Rattle.lane_model.proofs.Facade.{get_or-count_from, length-count_from}
use Rattle.pair_model.specs.Labels.{label_of, labels_of}
use Rattle.pair_model.specs.Pieces.{piece_of, pieces_of}
use Rattle.pair_model.specs.Sizes.{pieces_in}
use Rattle.step_kinds.specs.declared.steps.Label.{Label}
use Rattle.frame_ring.specs.Outgoing.{all_writes_in, carries_bytes, entries_under, entry_at, port_writes_in}
use Rattle.frame_ring.specs.Port.{left_of_entry, writes_from}

-- Pieces

-- A frame is cut into as many pieces as are counted for its length and the largest payload.
pub length-pieces_of : (largest : ℕ) (bytes : List ℕ) → length (pieces_of largest bytes) ≡ pieces_in largest (length bytes)
length-pieces_of largest bytes = length-map (count_from 0 (pieces_in largest (length bytes))) (piece_of largest bytes) ∙ length-count_from 0 (pieces_in largest (length bytes))

-- The entry at place k among the pieces of a frame is the frame's piece k.
pub piece_at : (largest : ℕ) (bytes : List ℕ) (k : ℕ) → k < pieces_in largest (length bytes) → entry_at (pieces_of largest bytes) k ≡ piece_of largest bytes k
piece_at largest bytes k among =
    let numbers = count_from 0 (pieces_in largest (length bytes)) in
    let some : k < length numbers = omega (arith, length-count_from 0 (pieces_in largest (length bytes))) in
    get_or-map (piece_of largest bytes) numbers k 0 GoesDown some
    ∙ ap (piece_of largest bytes) (get_or-count_from 0 (pieces_in largest (length bytes)) k 0 among ∙ omega arith)

-- Behind an entry of the frame under way stand just as many entries as it says follow it.
pub followers_are : (largest : ℕ) (frame : Option (List ℕ)) (piece pieces : ℕ) → pieces ≡ length (entries_under largest frame) → piece < pieces
    → pieces - 1 - piece ≡ left_of (entry_at (entries_under largest frame) piece)
followers_are largest None zero pieces all among = omega arith
followers_are largest None (suc piece) pieces all among = absurd (omega arith)
followers_are largest (Some bytes) piece pieces all among =
    let count : pieces ≡ pieces_in largest (length bytes) = all ∙ length-pieces_of largest bytes in
    ap (λ count. count - 1 - piece) count ∙ sym (ap left_of (piece_at largest bytes piece (omega (arith, count, among))))

-- Each entry under way carries bytes where a frame is under way, and is a link-down entry where none is.
pub carries_is : (largest : ℕ) (frame : Option (List ℕ)) (piece : ℕ) → piece < length (entries_under largest frame)
    → is_some frame ≡ carries_bytes (entry_at (entries_under largest frame) piece)
carries_is largest None zero among = refl
carries_is largest None (suc piece) among = refl
carries_is largest (Some bytes) piece among = sym (ap carries_bytes (piece_at largest bytes piece (omega (arith, among, length-pieces_of largest bytes))))

-- Writes

-- An entry under way takes at most 516 writes, if a payload has at most 65,536 bytes.
pub few_writes : (largest : ℕ) (frame : Option (List ℕ)) (piece : ℕ) → largest ≤ 65536 → piece < length (entries_under largest frame)
    → port_writes_in (entry_at (entries_under largest frame) piece) ≤ 516
few_writes largest None zero few among = omega arith
few_writes largest None (suc piece) few among = absurd (omega arith)
few_writes largest (Some bytes) piece few among =
    let is = ap port_writes_in (piece_at largest bytes piece (omega (arith, among, length-pieces_of largest bytes))) in
    let short : length (take largest (drop (largest * piece) bytes)) ≤ 65536 = omega (arith, length-take largest (drop (largest * piece) bytes)) in
    omega (arith, is, short)

-- The list of an entry's labels has one for each write that the entry takes: its chunks, and four more.
pub length-labels_of : (queue n : ℕ) (entry : Entry) → length (labels_of queue n entry) ≡ port_writes_in entry
length-labels_of queue n entry =
    let chunks = chunks_in (length (bytes_of entry)) in
    length-map (writes_of n entry) (label_of queue entry)
    ∙ grind (arith, length-append, length-map, length-count_from)

-- The list of all writes of some entries is as long as the sum of the writes that each of them takes.
pub length-writes_from : (queue n : ℕ) (entries : List Entry) → length (writes_from queue n entries) ≡ all_writes_in entries
length-writes_from queue n [] = refl
length-writes_from queue n (entry ∷ entries) =
    length-append (left_of_entry entry (labels_of queue n entry)) (writes_from queue (suc n) entries)
    ∙ ap (λ first. first + length (writes_from queue (suc n) entries)) (length-map (labels_of queue n entry) _ ∙ length-labels_of queue n entry)
    ∙ ap (λ others. port_writes_in entry + others) (length-writes_from queue (suc n) entries)

-- From a place in a list of entries on, the writes are those of the entry there and those of all after it.
pub entry_and_others : (entries : List Entry) (piece : ℕ) → piece < length entries → all_writes_in (drop piece entries) ≡ port_writes_in (entry_at entries piece) + all_writes_in (drop (piece + 1) entries)
entry_and_others entries piece among = ap all_writes_in (drop_more entries piece GoesDown among)

busy_by : (todo : List Label) (waiting : List Entry) (left : ℕ) → left ≡ length todo + all_writes_in waiting → not (left == 0) ≡ (not (is_empty_list todo) || not (is_empty_list waiting))
busy_by [] [] left e = rw e refl
busy_by [] (entry ∷ waiting) left e = let some : 0 < left = omega arith in grind (arith, nat_tests)
busy_by (label ∷ todo) waiting left e = let some : 0 < left = omega arith in grind (arith, nat_tests)

-- An entry of which some writes are posted has as many labels left as it takes writes, less those posted.
pub length-todo : (queue n next : ℕ) (entry : Entry) → length (drop next (labels_of queue n entry)) ≡ port_writes_in entry - next
length-todo queue n next entry = length-drop next (labels_of queue n entry) ∙ ap (λ all. all - next) (length-labels_of queue n entry)

-- what is left of a frame, by the count
pub left_is : (entries : List Entry) (queue n piece next left : ℕ) → piece < length entries → next ≤ port_writes_in (entry_at entries piece)
    → left + next ≡ all_writes_in (drop piece entries)
    → left ≡ length (drop next (labels_of queue n (entry_at entries piece))) + all_writes_in (drop (piece + 1) entries)
left_is entries queue n piece next left among some all = omega (arith, entry_and_others entries piece among, length-todo queue n next (entry_at entries piece))

-- The count of writes left is above 0 just where labels of the entry at hand are left or entries of its frame wait.
pub busy_is : (entries : List Entry) (queue n piece next left : ℕ) → piece < length entries → next ≤ port_writes_in (entry_at entries piece)
    → left + next ≡ all_writes_in (drop piece entries)
    → not (left == 0) ≡ (not (is_empty_list (drop next (labels_of queue n (entry_at entries piece)))) || not (is_empty_list (drop (piece + 1) entries)))
busy_is entries queue n piece next left among some all =
    busy_by (drop next (labels_of queue n (entry_at entries piece))) (drop (piece + 1) entries) left (left_is entries queue n piece next left among some all)

-- The count of writes left of a frame is the length of the list of its writes that are left to post.
pub count_is : (entries : List Entry) (queue n m piece next left : ℕ) → piece < length entries → next ≤ port_writes_in (entry_at entries piece)
    → left + next ≡ all_writes_in (drop piece entries)
    → left ≡ length (left_of_entry (entry_at entries piece) (drop next (labels_of queue n (entry_at entries piece))) ++ writes_from queue m (drop (piece + 1) entries))
count_is entries queue n m piece next left among some all =
    let todo = drop next (labels_of queue n (entry_at entries piece)) in
    let waiting = drop (piece + 1) entries in
    left_is entries queue n piece next left among some all
    ∙ sym (length-append (left_of_entry (entry_at entries piece) todo) (writes_from queue m waiting)
    ∙ ap (λ first. first + length (writes_from queue m waiting)) (length-map todo _)
    ∙ ap (λ others. length todo + others) (length-writes_from queue m waiting))
