-- A sender moves on: to its next write, to the next entry of its frame, to another frame.
use Rattle.std.proofs.Common.{◌≡◌, ◌∙◌, ℕ, zero, suc, ◌+◌, ◌-◌, ◌<◌, ◌≤◌, ◌||◌, true, false, not, List, [], ◌∷◌, length, drop, refl, sym, ap, arith}
use Rattle.std.proofs.lemmas.Bool.Decides.{nat_tests}
use Rattle.std.proofs.lemmas.List.{drop_all, drop_more}
use Rattle.lane_model.specs.Lane.{Entry, GoesDown}
use Rattle.lane_model.specs.Tests.{is_empty_list}
use Rattle.pair_model.specs.Labels.{labels_of}
use Rattle.pair_model.specs.Pieces.{pieces_of}
use Rattle.step_kinds.specs.declared.steps.Label.{Label}
use Rattle.frame_ring.specs.Calls.{entries_begun, let_go, port_next_begun, rest_of}
use Rattle.frame_ring.specs.Outgoing.{all_writes_in, entry_at, progress_at, port_writes_in}
use Rattle.frame_ring.specs.Port.{Sending, is_port_busy}
use Rattle.frame_ring.proofs.Entries.{busy_is, left_is, length-labels_of, length-pieces_of, length-todo}

-- The next entry

moves_by : (queue begun told : ℕ) (entry old : Entry) (todo : List Label) (waiting others : List Entry) → todo ≡ [] → waiting ≡ entry ∷ others
    → port_next_begun queue (record { begun = begun; told = told; entry = old; todo = todo; waiting = waiting })
    ≡ record { begun = begun + 1; told = told; entry = entry; todo = labels_of queue begun entry; waiting = others }
moves_by queue begun told entry old todo waiting others e more = rw (e, more) refl

-- If all writes of an entry are posted and another of its frame follows, that one is begun, at its first write.
pub next_moves : (entries : List Entry) (queue piece next begun told : ℕ) → piece + 1 < length entries → port_writes_in (entry_at entries piece) ≤ next
    → progress_at queue entries (piece + 1) 0 (begun + 1) told ≡ port_next_begun queue (progress_at queue entries piece next begun told)
next_moves entries queue piece next begun told more all =
    let none : drop next (labels_of queue (begun - 1) (entry_at entries piece)) ≡ [] = drop_all next (labels_of queue (begun - 1) (entry_at entries piece)) (omega (arith, length-labels_of queue (begun - 1) (entry_at entries piece))) in
    let others : drop (piece + 1) entries ≡ entry_at entries (piece + 1) ∷ drop (piece + 1 + 1) entries = drop_more entries (piece + 1) GoesDown more in
    let number : begun + 1 - 1 ≡ begun = omega arith in
    ap (λ n. record { begun = begun + 1; told = told; entry = entry_at entries (piece + 1); todo = labels_of queue n (entry_at entries (piece + 1)); waiting = drop (piece + 1 + 1) entries }) number
    ∙ sym (moves_by queue begun told (entry_at entries (piece + 1)) (entry_at entries piece) _ (drop (piece + 1) entries) (drop (piece + 1 + 1) entries) none others)

-- Beginning the next entry changes nothing of a sender that has labels left to post or no entry waiting.
pub stays_by : (queue begun told : ℕ) (entry : Entry) (todo : List Label) (waiting : List Entry) → (todo ≡ [] → waiting ≡ [])
    → port_next_begun queue (record { begun = begun; told = told; entry = entry; todo = todo; waiting = waiting }) ≡ record { begun = begun; told = told; entry = entry; todo = todo; waiting = waiting }
stays_by queue begun told entry [] waiting h = let none = h refl in rw none refl
stays_by queue begun told entry (label ∷ todo) waiting h = refl

-- Beginning the next entry changes nothing while writes of the entry at hand are left, or where it is the last.
pub next_stays : (entries : List Entry) (queue piece next begun told : ℕ) → (port_writes_in (entry_at entries piece) ≤ next → length entries ≤ piece + 1)
    → progress_at queue entries piece next begun told ≡ port_next_begun queue (progress_at queue entries piece next begun told)
next_stays entries queue piece next begun told last =
    let labels = labels_of queue (begun - 1) (entry_at entries piece) in
    sym (stays_by queue begun told (entry_at entries piece) (drop next labels) (drop (piece + 1) entries)
    (λ none. drop_all (piece + 1) entries (last (omega (arith, ap length none, length-todo queue (begun - 1) next (entry_at entries piece))))))

-- The next write

rest_of-drop : (next : ℕ) (labels : List Label) → rest_of (drop next labels) ≡ drop (suc next) labels
rest_of-drop zero [] = refl
rest_of-drop zero (label ∷ labels) = refl
rest_of-drop (suc next) [] = refl
rest_of-drop (suc next) (label ∷ labels) = rest_of-drop next labels

rest_from : (next : ℕ) (labels : List Label) → drop (next + 1) labels ≡ rest_of (drop next labels)
rest_from next labels = let e : next + 1 ≡ suc next = omega arith in ap (λ n. drop n labels) e ∙ sym (rest_of-drop next labels)

idle_is : {X Y : Type 0} (todo : List X) (waiting : List Y) → (not (is_empty_list todo) || not (is_empty_list waiting)) ≡ false → (todo ≡ []) × (waiting ≡ [])
idle_is [] [] e = (refl, refl)
idle_is [] (y ∷ ys) e = absurd (cc e)
idle_is (x ∷ xs) [] e = absurd (cc e)
idle_is (x ∷ xs) (y ∷ ys) e = absurd (cc e)

goes_on : (sending : Sending) → is_port_busy sending ≡ true → let_go sending ≡ sending
goes_on sending busy = rw busy refl

is_gone : (sending : Sending) → is_port_busy sending ≡ false → let_go sending ≡ record sending { entry = GoesDown }
is_gone sending idle = rw idle refl

-- where writes are left, one of the entry at hand is, unless an entry waits
pub one_is_left : (entries : List Entry) (queue n piece next left : ℕ) → piece < length entries → next ≤ port_writes_in (entry_at entries piece)
    → left + next ≡ all_writes_in (drop piece entries)
    → (is_empty_list (drop next (labels_of queue n (entry_at entries piece))) ≡ true → is_empty_list (drop (piece + 1) entries) ≡ true)
    → 0 < left → next < port_writes_in (entry_at entries piece)
one_is_left entries queue n piece next left among some all moved more =
    at_lists (drop next (labels_of queue n (entry_at entries piece))) (drop (piece + 1) entries) (length-todo queue n next (entry_at entries piece)) (left_is entries queue n piece next left among some all) moved
  where
    at_lists : (todo : List Label) (waiting : List Entry) → length todo ≡ port_writes_in (entry_at entries piece) - next → left ≡ length todo + all_writes_in waiting
        → (is_empty_list todo ≡ true → is_empty_list waiting ≡ true) → next < port_writes_in (entry_at entries piece)
    at_lists [] [] len e moved = absurd (omega arith)
    at_lists [] (entry ∷ waiting) len e moved = absurd (let h = moved refl in cc h)
    at_lists (label ∷ todo) waiting len e moved = omega arith

-- If more of a frame is left after it, posting a write takes the sender one write further in the same entry.
pub posted_more : (entries : List Entry) (queue piece next begun told left : ℕ) → piece < length entries → next < port_writes_in (entry_at entries piece)
    → left + (next + 1) ≡ all_writes_in (drop piece entries) → 0 < left
    → progress_at queue entries piece (next + 1) begun told
    ≡ let_go (record (progress_at queue entries piece next begun told) { todo = rest_of (drop next (labels_of queue (begun - 1) (entry_at entries piece))) })
posted_more entries queue piece next begun told left among some all more =
    let labels = labels_of queue (begun - 1) (entry_at entries piece) in
    let busy : is_port_busy (progress_at queue entries piece (next + 1) begun told) ≡ true = sym (busy_is entries queue (begun - 1) piece (next + 1) left among (omega arith) all) ∙ grind (arith, nat_tests) in
    sym (goes_on (progress_at queue entries piece (next + 1) begun told) busy)
    ∙ ap (λ todo. let_go (record (progress_at queue entries piece next begun told) { todo = todo })) (rest_from next labels)

-- Posting the last write of a frame leaves a sender with nothing to post, nothing waiting and its entry let go.
pub posted_last : (entries : List Entry) (queue piece next begun told : ℕ) → piece < length entries → next < port_writes_in (entry_at entries piece)
    → next + 1 ≡ all_writes_in (drop piece entries)
    → record { begun = begun; told = told; entry = GoesDown; todo = []; waiting = [] }
    ≡ let_go (record (progress_at queue entries piece next begun told) { todo = rest_of (drop next (labels_of queue (begun - 1) (entry_at entries piece))) })
posted_last entries queue piece next begun told among some all =
    let labels = labels_of queue (begun - 1) (entry_at entries piece) in
    let idle : is_port_busy (progress_at queue entries piece (next + 1) begun told) ≡ false = sym (busy_is entries queue (begun - 1) piece (next + 1) 0 among (omega arith) (omega arith)) in
    let none = idle_is (drop (next + 1) labels) (drop (piece + 1) entries) idle in
    ap (λ todo. record { begun = begun; told = told; entry = GoesDown; todo = todo; waiting = [] }) (sym none.0)
    ∙ ap (λ waiting. record { begun = begun; told = told; entry = GoesDown; todo = drop (next + 1) labels; waiting = waiting }) (sym none.1)
    ∙ sym (is_gone (progress_at queue entries piece (next + 1) begun told) idle)
    ∙ ap (λ todo. let_go (record (progress_at queue entries piece next begun told) { todo = todo })) (rest_from next labels)

-- Another frame

-- A frame is cut into one piece at least, whatever its length.
pub some_pieces : (largest : ℕ) (bytes : List ℕ) → 0 < length (pieces_of largest bytes)
some_pieces largest bytes = omega (arith, length-pieces_of largest bytes)

-- A sender that begins some entries stands at the first of them, with none of its writes posted.
pub begun_is : (entries : List Entry) (queue told : ℕ) (sending : Sending) → 0 < length entries
    → progress_at queue entries 0 0 (sending.begun + 1) told ≡ record (entries_begun queue sending entries) { told = told }
begun_is [] queue told sending some = absurd (omega arith)
begun_is (first ∷ others) queue told sending some =
    let number : sending.begun + 1 - 1 ≡ sending.begun = omega arith in
    ap (λ n. record { begun = sending.begun + 1; told = told; entry = first; todo = labels_of queue n first; waiting = others }) number

-- Entries, if there is one at least, take four writes at least.
pub some_writes : (entries : List Entry) → 0 < length entries → 4 ≤ all_writes_in entries
some_writes [] some = absurd (omega arith)
some_writes (entry ∷ entries) some = omega arith
