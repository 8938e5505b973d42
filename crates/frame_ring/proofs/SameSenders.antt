-- Two senders of one queue are the same if and only if their counts, the next write and the entries from the one at
-- hand on are.
use Rattle.std.proofs.Common.{◌≡◌, ◌∙◌, ◌+◌, ◌-◌, ◌<◌, ◌==◌, ◌||◌, Bool, true, false, not, None, List, [], ◌∷◌, length, drop, refl, sym, ap, subst, arith}
use Rattle.std.proofs.lemmas.Bool.Decides.{nat_tests}
use Rattle.std.proofs.lemmas.List.{drop_more}
use Rattle.lane_model.specs.Lane.{Entry, GoesDown}
use Rattle.lane_model.specs.Tests.{is_empty_list}
use Rattle.pair_model.specs.Labels.{labels_of}
use Rattle.frame_ring.specs.Outgoing.{IsSender, Outgoing, all_writes_in, entries_under, entry_at, sender_seen, port_writes_in}
use Rattle.frame_ring.specs.Port.{is_port_busy}
use Rattle.frame_ring.specs.Same.{IsSameSending}
use Rattle.frame_ring.specs.declared.sending.Sender.TheInside.{Inside as SenderInside}
use Rattle.frame_ring.proofs.Entries.{busy_is, length-todo}

-- the entries of the frame under way
abbrev entries_of : SenderInside → List Entry
entries_of sender = entries_under sender.largest sender.frame

-- what is compared of two senders
pub record HasSameProgress (one other : SenderInside) : Type 0 where
  pub begun : one.begun ≡ other.begun
  pub told : one.told ≡ other.told
  pub next : one.next ≡ other.next
  pub entries : drop one.piece (entries_under one.largest one.frame) ≡ drop other.piece (entries_under one.largest other.frame)

-- the entry at hand is one of them
among : (sender : SenderInside) → IsSender sender → sender.piece < length (entries_of sender)
among sender is = omega (arith, is.pieces, is.piece)

-- the entry at hand and those that wait
at_hand : (sender : SenderInside) → IsSender sender → drop sender.piece (entries_of sender) ≡ entry_at (entries_of sender) sender.piece ∷ drop (sender.piece + 1) (entries_of sender)
at_hand sender is = drop_more (entries_of sender) sender.piece GoesDown (among sender is)

-- where these are the same, so is all that contracts see
seen_same : (one other : SenderInside) → IsSender one → IsSender other → one.queue ≡ other.queue → one.largest ≡ other.largest → HasSameProgress one other
    → IsSameSending (sender_seen one).sending (sender_seen other).sending
seen_same one other is are queue largest same =
    let first = entry_at (entries_of one) one.piece in
    let second = entry_at (entries_of other) other.piece in
    let both : first ∷ drop (one.piece + 1) (entries_of one) ≡ second ∷ drop (other.piece + 1) (entries_of other) = sym (at_hand one is) ∙ same.entries ∙ ap (λ largest. drop other.piece (entries_under largest other.frame)) largest ∙ at_hand other are in
    let entry : first ≡ second = cc both in
    let waiting : drop (one.piece + 1) (entries_of one) ≡ drop (other.piece + 1) (entries_of other) = cc both in
    record {
      begun = same.begun;
      told = same.told;
      todo =
          ap (λ next. drop next (labels_of one.queue (one.begun - 1) first)) same.next
          ∙ ap (λ queue. drop other.next (labels_of queue (one.begun - 1) first)) queue
          ∙ ap (λ begun. drop other.next (labels_of other.queue (begun - 1) first)) same.begun
          ∙ ap (λ entry. drop other.next (labels_of other.queue (other.begun - 1) entry)) entry;
      waiting = waiting;
      entry = λ busy. entry;
    }

-- a sender with nothing left to post keeps no frame
record KeepsNothing (sender : SenderInside) : Type 0 where
  frame : sender.frame ≡ None
  piece : sender.piece ≡ 0
  next : sender.next ≡ 4

-- which is so where the sender isn't busy
idle_keeps : (sender : SenderInside) → IsSender sender → is_port_busy (sender_seen sender).sending ≡ false → KeepsNothing sender
idle_keeps sender is idle =
    let told : not (sender.left == 0) ≡ false = busy_is (entries_of sender) sender.queue (sender.begun - 1) sender.piece sender.next sender.left (among sender is) is.next is.left ∙ idle in
    let left : sender.left ≡ 0 = grind (arith, nat_tests) in
    let gone : sender.frame ≡ None = is.gone left in
    let count : length (entries_of sender) ≡ 1 = ap (λ frame. length (entries_under sender.largest frame)) gone in
    let piece : sender.piece ≡ 0 = omega (arith, among sender is, count) in
    let all : all_writes_in (drop sender.piece (entries_of sender)) ≡ 4 =
    ap (λ frame. all_writes_in (drop sender.piece (entries_under sender.largest frame))) gone ∙ ap (λ piece. all_writes_in (drop piece (GoesDown ∷ []))) piece in
    record { frame = gone; piece = piece; next = omega (arith, is.left, all, left) }

-- then its entries are a link-down entry alone
down_alone : (sender : SenderInside) → KeepsNothing sender → drop sender.piece (entries_of sender) ≡ GoesDown ∷ []
down_alone sender keeps = ap (λ frame. drop sender.piece (entries_under sender.largest frame)) keeps.frame ∙ ap (λ piece. drop piece (GoesDown ∷ [])) keeps.piece

-- and where all that contracts see is the same, so are these
progress_same : (one other : SenderInside) → IsSender one → IsSender other → one.largest ≡ other.largest → IsSameSending (sender_seen one).sending (sender_seen other).sending
    → HasSameProgress one other
progress_same one other is are largest same = by_busy (is_port_busy (sender_seen one).sending) refl
  where
    first : Entry
    first = entry_at (entries_of one) one.piece

    second : Entry
    second = entry_at (entries_of other) other.piece

    own : drop other.piece (entries_of other) ≡ drop other.piece (entries_under one.largest other.frame)
    own = ap (λ largest. drop other.piece (entries_under largest other.frame)) (sym largest)

    by_busy : (busy : Bool) → is_port_busy (sender_seen one).sending ≡ busy → HasSameProgress one other
    by_busy true busy =
        let entry : first ≡ second = same.entry busy in
        let next : one.next ≡ other.next =
        omega (arith, length-todo one.queue (one.begun - 1) one.next first, length-todo other.queue (other.begun - 1) other.next second, ap length same.todo, ap port_writes_in entry, is.next, are.next) in
        record {
          begun = same.begun;
          told = same.told;
          next = next;
          entries =
              at_hand one is ∙ ap (λ entry. entry ∷ drop (one.piece + 1) (entries_of one)) entry ∙ ap (λ waiting. second ∷ waiting) same.waiting
              ∙ sym (at_hand other are) ∙ own;
        }
    by_busy false idle =
        let mine = idle_keeps one is idle in
        let both : is_port_busy (sender_seen one).sending ≡ is_port_busy (sender_seen other).sending =
        ap (λ todo. not (is_empty_list todo) || not (is_empty_list (drop (one.piece + 1) (entries_of one)))) same.todo
        ∙ ap (λ waiting. not (is_empty_list (sender_seen other).sending.todo) || not (is_empty_list waiting)) same.waiting in
        let theirs = idle_keeps other are (sym both ∙ idle) in
        record {
          begun = same.begun;
          told = same.told;
          next = mine.next ∙ sym theirs.next;
          entries = down_alone one mine ∙ sym (down_alone other theirs) ∙ own;
        }

-- what contracts see to be one queue is so of what is kept
own_queue : (one other : SenderInside) (seen shown : Outgoing) → sender_seen one ≡ seen → sender_seen other ≡ shown → seen.queue ≡ shown.queue → one.queue ≡ other.queue
own_queue one other seen shown is are same = ap (λ (outgoing : Outgoing). outgoing.queue) is ∙ same ∙ sym (ap (λ (outgoing : Outgoing). outgoing.queue) are)

-- and so are the most bytes of an entry
own_largest : (one other : SenderInside) (seen shown : Outgoing) → sender_seen one ≡ seen → sender_seen other ≡ shown → seen.largest ≡ shown.largest → one.largest ≡ other.largest
own_largest one other seen shown is are same = ap (λ (outgoing : Outgoing). outgoing.largest) is ∙ same ∙ sym (ap (λ (outgoing : Outgoing). outgoing.largest) are)

-- so contracts see two senders of one queue as the same where what is compared is
pub same_sending : (one other : SenderInside) (seen shown : Outgoing) → IsSender one → IsSender other → sender_seen one ≡ seen → sender_seen other ≡ shown
    → seen.queue ≡ shown.queue → seen.largest ≡ shown.largest → HasSameProgress one other → IsSameSending seen.sending shown.sending
same_sending one other seen shown kept held is are queue largest same =
    subst (λ (outgoing : Outgoing). IsSameSending outgoing.sending shown.sending) is
    (subst (λ (outgoing : Outgoing). IsSameSending (sender_seen one).sending outgoing.sending) are
    (seen_same one other kept held (own_queue one other seen shown is are queue) (own_largest one other seen shown is are largest) same))

-- and what is compared is the same where contracts see them so
pub same_progress : (one other : SenderInside) (seen shown : Outgoing) → IsSender one → IsSender other → sender_seen one ≡ seen → sender_seen other ≡ shown
    → seen.largest ≡ shown.largest → IsSameSending seen.sending shown.sending → HasSameProgress one other
same_progress one other seen shown kept held is are largest same =
    progress_same one other kept held (own_largest one other seen shown is are largest)
    (subst (λ (outgoing : Outgoing). IsSameSending outgoing.sending (sender_seen other).sending) (sym is)
    (subst (λ (outgoing : Outgoing). IsSameSending seen.sending outgoing.sending) (sym are) same))
