-- A sender gives its next frame: to its lane, or back to itself.
use Rattle.std.proofs.Common.{◌≡◌, ◌≢◌, ℕ, ◌+◌, ◌≤◌, ◌<◌, ◌^◌, ◌==◌, nat_lt, Bool, true, false, if◌then◌else◌, Some, None, List, [], ◌∷◌, ◌++◌, length, take, drop, get_or, refl, sym, ◌∙◌, ap, subst, arith}
use Rattle.std.proofs.lemmas.List.{length-drop, length-take}
use Rattle.lane_workers.specs.Passes.{HaveBytes}
use Rattle.std.proofs.lemmas.List.Elements.{All-cons, All-drop}
use Rattle.std.proofs.lemmas.Option.{get_or_from_slice_get, slice_get_within}
use Rattle.stream_laws.specs.Laws.{BackIsUngiven, NextFollows}
use Rattle.stream_model.specs.Numbers.{number_frame}
use Rattle.stream_model.specs.Receiver.{Receiver}
use Rattle.stream_model.specs.Sender.{Sender, sender_after_answer, after_next_frame, frames_of, sender_given_back, next_frame, one_given, session_frames}
use Rattle.table_lane.specs.SendAnswers.{TableSends}
use Rattle.table_lane.specs.declared.send.SendAnswer.TheVariants.{Sent, NoRoom, Cut}
use Rattle.table_lane.specs.declared.parts.SendPart.{SendPart}
use Rattle.table_lane.specs.Knowledge.{link_loaded, index_loaded, head, free_by, frame_sent}
use Rattle.table_lane.specs.Words.{cut_word}
use Rattle.cluster_run.specs.stream.Ends.{StreamGoesOn, HasOffered}
use Rattle.cluster_run.specs.stream.Sessions.{CanStreamBegin}

-- the frame that comes next has a byte, and stands within its session
pub next_has_byte : (sender : Sender) (sent : List (List ℕ)) (frame : List ℕ) → HasOffered sender sent → next_frame sender ≡ Some frame → frame ≢ []
next_has_byte sender sent frame offered next none =
    let within = slice_get_within (frames_of sender) sender.place.given frame next in
    let is : get_or (frames_of sender) sender.place.given [] ≡ frame = get_or_from_slice_get (frames_of sender) sender.place.given frame [] next in
    offered.bytes sender.place.given [] within (is ∙ none)

within_items : (sender : Sender) (frame : List ℕ) → sender.start ≤ length sender.items → next_frame sender ≡ Some frame → sender.start + sender.place.given ≤ length sender.items
within_items sender frame starts next =
    let within : sender.place.given < length (frames_of sender) = slice_get_within (frames_of sender) sender.place.given frame next in
    let rest = length-drop sender.start sender.items in
    omega arith

-- few frames were sent
pub few_sent : (sender : Sender) (sent : List (List ℕ)) → HasOffered sender sent → length sent < 2 ^ 62
few_sent sender sent offered =
    let given = ap length offered.given in
    let front = length-take sender.place.given (frames_of sender) in
    let rest = length-drop sender.start sender.items in
    let few = offered.few in
    omega arith

-- the sender after its answer
pub given_after : (sender after : Sender) (frame : List ℕ) → next_frame sender ≡ Some frame → after ≡ after_next_frame sender → after ≡ one_given sender
given_after sender after frame next is = is ∙ ap (sender_after_answer sender) next

-- A sender that has no next frame is the same after it was asked for one.
pub none_after : (sender after : Sender) → next_frame sender ≡ None → after ≡ after_next_frame sender → after ≡ sender
none_after sender after next is = is ∙ ap (sender_after_answer sender) next

-- a frame was given and sent
pub offered_more : NextFollows → (sender : Sender) (sent : List (List ℕ)) (frame : List ℕ) → HasOffered sender sent → next_frame sender ≡ Some frame → HasOffered (one_given sender) (sent ++ frame ∷ [])
offered_more follows sender sent frame offered next = record {
  given = ap (λ sent. sent ++ frame ∷ []) offered.given ∙ sym (follows sender frame next);
  bytes = offered.bytes;
  items = offered.items;
  reached = let r = offered.reached in omega arith;
  starts = offered.starts;
  within = let w = offered.within in let n = within_items sender frame offered.starts next in omega arith;
  few = offered.few;
}

-- where a frame was sent it stands after the others
sent_when : (before after : SendPart) (frame : List ℕ) (number : ℕ) (cut free : Bool)
    → Sent number ≡ (if cut then Cut frame else if free then Sent (length before.sent) else NoRoom frame (head before) after.index)
    → after ≡ (if cut then link_loaded before after.link else if free then frame_sent (index_loaded (link_loaded before after.link) after.index) frame else index_loaded (link_loaded before after.link) after.index)
    → after.sent ≡ before.sent ++ frame ∷ []
sent_when before after frame number true free answer is = absurd (cc answer)
sent_when before after frame number false true answer is = ap (λ (p : SendPart). p.sent) is
sent_when before after frame number false false answer is = absurd (cc answer)

-- If a frame is answered as sent, it stands after the frames that its end sent before.
pub sent_more : (before after : SendPart) (frame : List ℕ) (number : ℕ) → TableSends before frame (Sent number) after → after.sent ≡ before.sent ++ frame ∷ []
sent_more before after frame number sends =
    sent_when before after frame number (after.link == cut_word) (nat_lt 0 (free_by before after.index)) sends.0 sends.1

-- A sender whose next frame was given and then sent on its lane has offered all that was sent, that frame included.
pub offered_sent : NextFollows → (sender next : Sender) (before after : SendPart) (frame : List ℕ) (number : ℕ) → HasOffered sender before.sent → next_frame sender ≡ Some frame → next ≡ after_next_frame sender
    → TableSends before frame (Sent number) after → HasOffered next after.sent
offered_sent follows sender next before after frame number offered frame_is next_is sends =
    subst (λ (s : Sender). HasOffered s after.sent) (sym (given_after sender next frame frame_is next_is))
    (subst (λ (sent : List (List ℕ)). HasOffered (one_given sender) sent) (sym (sent_more before after frame number sends)) (offered_more follows sender before.sent frame offered frame_is))

-- a frame was given and given back
pub offered_same : BackIsUngiven → (sender after : Sender) (sent : List (List ℕ)) → HasOffered sender sent → after ≡ sender_given_back (one_given sender) → HasOffered after sent
offered_same back sender after sent offered is =
    subst (λ (after : Sender). HasOffered after sent) (sym (is ∙ back sender))
    (record { given = offered.given; bytes = offered.bytes; items = offered.items; reached = offered.reached; starts = offered.starts; within = offered.within; few = offered.few })

-- A sender that gave one frame more goes on with its stream.
pub goes_on_more : (sender after : Sender) → after ≡ one_given sender → StreamGoesOn sender after
goes_on_more sender after is = subst (λ (after : Sender). StreamGoesOn sender after) (sym is) (record { items = refl; acked = refl; start = refl; ever = omega arith })

-- A sender that gave one frame and got it back goes on with its stream.
pub goes_on_same : BackIsUngiven → (sender after : Sender) → after ≡ sender_given_back (one_given sender) → StreamGoesOn sender after
goes_on_same back sender after is = subst (λ (after : Sender). StreamGoesOn sender after) (sym (is ∙ back sender)) (record { items = refl; acked = refl; start = refl; ever = omega arith })

-- A sender that stands where it stood goes on with its stream.
pub goes_on_here : (sender after : Sender) → after ≡ sender → StreamGoesOn sender after
goes_on_here sender after is = subst (λ (after : Sender). StreamGoesOn sender after) (sym is) (record { items = refl; acked = refl; start = refl; ever = omega arith })

-- A sender that goes on to a second state, and from there to a third, goes on from the first to the third.
pub goes_on : {one two three : Sender} → StreamGoesOn one two → StreamGoesOn two three → StreamGoesOn one three
goes_on first second = record {
  items = second.items ∙ first.items;
  acked = second.acked ∙ first.acked;
  start = second.start ∙ first.start;
  ever = let a = first.ever in let b = second.ever in omega arith;
}

-- a sender at the start of a session
pub number_has_byte : (n : ℕ) → number_frame n ≢ []
unfolding number_frame
number_has_byte n none = cc none

bytes_of_session : (items : List (List ℕ)) (start : ℕ) → HaveBytes items → HaveBytes (session_frames items start)
bytes_of_session items start bytes =
    All-cons (λ (frame : List ℕ). frame ≢ []) (number_frame start) (drop start items) (number_has_byte start) (All-drop (λ (frame : List ℕ). frame ≢ []) start items bytes)

-- At the start of a session, with nothing sent, a sender has offered just what was sent.
pub offers_nothing : (sender : Sender) (receiver : Receiver) (sent : List (List ℕ)) → CanStreamBegin sender receiver → sent ≡ [] → HasOffered sender sent
offers_nothing sender receiver sent can none =
    let start = can.start in
    let within = can.within in
    let given = can.given in
    record {
      given = none ∙ ap (λ (n : ℕ). take n (frames_of sender)) (sym given);
      bytes = bytes_of_session sender.items sender.start can.bytes;
      items = can.bytes;
      reached = omega arith;
      starts = omega arith;
      within = can.within;
      few = can.few;
    }
